-- `DataRange::is_in_bounds` meets its contract: each test is the definition's. Assumes nothing.
use lib.Ieee.{of_bits}
use Rattle.range.specs.Range.{in_bounds}
use Rattle.range.proofs.DataRange.is_in_bounds.Goals as goal

pub returns : goal.returns
unfolding in_bounds of_bits
returns c = simp (
  c.both_finite-settings.ensures,
  c.offset.ensures,
  c.scale-scale.ensures,
  c.both_finite-maxs.ensures,
  c.both_finite-mins.ensures,
)
