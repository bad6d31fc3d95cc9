-- `DataRange::denormalize` meets its contract. Assumes nothing.
use Rattle.range.specs.Range.{denormalized}
use Rattle.range.proofs.DataRange.denormalize.Goals as goal

pub returns : goal.returns
unfolding denormalized
returns c = simp (c.scale.ensures, c.offset.ensures)
