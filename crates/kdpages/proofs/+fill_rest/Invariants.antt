-- The measure is the interval's length. Assumes nothing.
use Rattle.std.proofs.Common.{◌-◌}
use Rattle.kdpages.proofs.+fill_rest.Given as goal

abbrev pub decreases-fill_rest : goal.decreases-fill_rest
decreases-fill_rest l = l.v.hi - l.v.lo
