-- `DataRange::offset` meets its contract: std's `unwrap_or` is the definition's. Assumes nothing.
use mathlib.Core.Path.{◌∙◌}
use Rattle.range.specs.Range.{offset_of}
use Rattle.range.proofs.DataRange.offset.Goals as goal

pub returns : goal.returns
unfolding offset_of
returns c = c.unwrap_or.ensures ∙ simp (c.smaller.ensures)
