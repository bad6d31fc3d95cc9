-- `lister_report::Writer::bytes` meets its contract: the bytes before the index are written, `Storing`. Assumes nothing.
use Rattle.std.proofs.Common.{◌≡◌, ◌+◌, drop}
use Rattle.lister_report.specs.laws.Put.{Storing}
use Rattle.lister_report.proofs.Writer.bytes.Given as goal

abbrev pub invariant-loop-b : goal.invariant-loop-b
invariant-loop-b l = (l.self.at ≡ l.initial.self.at + l.b-index) × Storing l.initial.self l.bs l.self (drop l.b-index l.bs)
