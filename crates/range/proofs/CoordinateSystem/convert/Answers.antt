-- `CoordinateSystem::convert` meets its contract, by the cases of the system. Assumes nothing.
use lib.Ieee.{of_bits, of_int, round}
use Rattle.range.specs.Range.{mercator_x, converted}
use Rattle.range.proofs.CoordinateSystem.convert.Goals as goal

pub returns-in-LatLng : goal.returns-in-LatLng
unfolding converted mercator_x of_bits of_int round
returns-in-LatLng c = simp c.in-LatLng.is

pub returns-in-Cartesian : goal.returns-in-Cartesian
unfolding converted
returns-in-Cartesian c = simp (c.normalize.ensures, c.normalize-in-Cartesian.ensures, c.in-Cartesian.is)
