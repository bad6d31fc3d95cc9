-- `DataRange::normalize` meets its contract. Assumes nothing.
use Rattle.range.specs.Range.{normalized}
use Rattle.range.proofs.DataRange.normalize.Goals as goal

pub returns : goal.returns
unfolding normalized
returns c = simp (c.offset.ensures, c.scale.ensures)
