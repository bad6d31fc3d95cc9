-- `lister_report::Writer::table` meets its contract: the lines before the place i are written, `Storing`. Assumes nothing.
use Rattle.std.proofs.Common.{◌+◌, ◌*◌, ◌≤◌, drop}
use Rattle.build_tables.specs.Lent.{held}
use Rattle.build_tables.specs.Rows.{rows}
use Rattle.lister_report.specs.Lines.{line_room, table_text}
use Rattle.lister_report.specs.laws.Put.{Storing}
use Rattle.lister_report.proofs.Writer.table.Given as goal

abbrev pub invariant-loop-i : goal.invariant-loop-i
invariant-loop-i l =
    let q = rows (held l.t) in
    (l.self.at ≤ l.initial.self.at + line_room * l.i)
    × Storing l.initial.self (table_text l.zoom 0 q) l.self (table_text l.zoom l.i (drop l.i q))
