-- `kdsort::stops_down`: the list has the stops among the slots that were looked at. Assumes nothing.
use Rattle.std.proofs.Common.{◌≡◌, ◌-◌, length}
use Rattle.kdsort.specs.laws.Batches.{batch_entry, Downs}
use Rattle.kdsort.proofs.stops_down.Given as goal

abbrev pub invariant-loop-k : goal.invariant-loop-k
invariant-loop-k l = Downs l.axis l.t l.coords l.from (l.from - l.k) (batch_entry l.found) l.n × (length l.found ≡ length l.initial.found)
