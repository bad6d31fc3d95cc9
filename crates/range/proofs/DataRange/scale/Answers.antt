-- `DataRange::scale` meets its contract: std's `unwrap_or` is the definition's. Assumes nothing.
use mathlib.Core.Path.{◌∙◌}
use Rattle.range.specs.Range.{scale_of}
use Rattle.range.proofs.DataRange.scale.Goals as goal

pub returns : goal.returns
unfolding scale_of
returns c = c.unwrap_or.ensures ∙ simp (c.larger.ensures, c.offset.ensures)
