-- The measure is three times the interval's length and a little, so that it falls from one function to the next too. Assumes nothing.
use Rattle.std.proofs.Common.{◌+◌, ◌-◌, ◌*◌}
use Rattle.kdsort.specs.Shape.{mid}
use Rattle.kdwalk.proofs.+first_below_first_in_first_left.Given as goal

abbrev pub decreases-first_below : goal.decreases-first_below
decreases-first_below l = 3 * (l.v.hi - l.v.lo) + 1

abbrev pub decreases-first_in : goal.decreases-first_in
decreases-first_in l = 3 * (l.v.hi - l.v.lo) + 2

abbrev pub decreases-first_left : goal.decreases-first_left
decreases-first_left l = 3 * (mid l.v.lo l.v.hi - l.v.lo) + 3
