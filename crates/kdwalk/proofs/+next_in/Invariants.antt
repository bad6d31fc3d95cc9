-- The measure is the interval's length. Assumes nothing.
use Rattle.std.proofs.Common.{◌-◌}
use Rattle.kdwalk.proofs.+next_in.Given as goal

abbrev pub decreases-next_in : goal.decreases-next_in
decreases-next_in l = l.v.hi - l.v.lo
