-- `kdcount::count_part`: the measure is the interval's length. Assumes nothing.
use Rattle.std.specs.Prelude.{◌-◌}
use Rattle.kdcount.proofs.+count_part.Given as goal

abbrev pub decreases-count_part : goal.decreases-count_part
decreases-count_part l = l.v.hi - l.v.lo
