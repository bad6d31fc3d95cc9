-- `kdsort::sort`: the measure is the interval's length. Assumes nothing.
use Rattle.std.specs.Prelude.{◌-◌}
use Rattle.kdsort.proofs.+sort.Given as goal

abbrev pub decreases-sort : goal.decreases-sort
decreases-sort l = l.v.hi - l.v.lo
