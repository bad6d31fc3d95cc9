-- The measure is the interval's length. Assumes nothing.
use Rattle.std.proofs.Common.{◌-◌}
use Rattle.ask_effort_tests.proofs.+part.Given as goal

abbrev pub decreases-part : goal.decreases-part
decreases-part l = l.v.hi - l.v.lo
