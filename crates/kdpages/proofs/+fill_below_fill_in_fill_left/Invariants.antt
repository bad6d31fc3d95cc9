-- The measure is three times the interval's length and a little, so that it falls from one function to the next too. Assumes nothing.
use Rattle.std.proofs.Common.{◌+◌, ◌-◌, ◌*◌}
use Rattle.kdsort.specs.Shape.{mid}
use Rattle.kdpages.proofs.+fill_below_fill_in_fill_left.Given as goal

abbrev pub decreases-fill_below : goal.decreases-fill_below
decreases-fill_below l = 3 * (l.v.hi - l.v.lo) + 1

abbrev pub decreases-fill_in : goal.decreases-fill_in
decreases-fill_in l = 3 * (l.v.hi - l.v.lo) + 2

abbrev pub decreases-fill_left : goal.decreases-fill_left
decreases-fill_left l = 3 * (mid l.v.lo l.v.hi - l.v.lo) + 3
