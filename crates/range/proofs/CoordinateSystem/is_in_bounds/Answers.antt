-- `CoordinateSystem::is_in_bounds` meets its contract, by the cases of the system. Assumes nothing.
use Rattle.range.specs.Range.{system_in_bounds}
use Rattle.range.proofs.CoordinateSystem.is_in_bounds.Goals as goal

pub returns-in-LatLng : goal.returns-in-LatLng
unfolding system_in_bounds
returns-in-LatLng c = simp c.in-LatLng.is

pub returns-in-Cartesian : goal.returns-in-Cartesian
unfolding system_in_bounds
returns-in-Cartesian c = simp (c.is_in_bounds.ensures, c.in-Cartesian.is)
