-- `kdsort::stops_up`: the list has the stops among the slots that were looked at. Assumes nothing.
use Rattle.std.proofs.Common.{◌≡◌, ◌+◌, length}
use Rattle.kdsort.specs.laws.Batches.{batch_entry, Ups}
use Rattle.kdsort.proofs.stops_up.Given as goal

abbrev pub invariant-loop-k : goal.invariant-loop-k
invariant-loop-k l = Ups l.axis l.t l.coords l.from (l.from + l.k) (batch_entry l.found) l.n × (length l.found ≡ length l.initial.found)
