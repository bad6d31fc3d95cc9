-- `lister_report::Writer::table` meets its contract: each line is the next entry's, and then none is left. Assumes nothing.
use Rattle.std.proofs.Common.{arith, ◌+◌, ◌*◌, drop, length}
use Rattle.build_tables.specs.Lent.{held}
use Rattle.build_tables.specs.Rows.{rows}
use Rattle.build_tables.specs.laws.Rows.{rows-length}
use Rattle.lister_report.specs.Lines.{line_text, line_room, table_text}
use Rattle.lister_report.specs.laws.Put.{storing-step, storing-end}
use Rattle.lister_report.specs.laws.Parts.{entry-line, entry-none}
use Rattle.lister_report.proofs.Writer.table.Goals as goal

pub loop-i-preserved : goal.loop-i-preserved
loop-i-preserved c =
    let a = c.args in
    let l = c.loop-i in
    let q = rows (held a.t.now) in
    let n = rows-length (held a.t.now) in
    let p = c.line.ensures in (
      omega (arith, p.near, l.invariant.0),
      storing-step a.self.now (table_text a.zoom 0 q) l.self c.line.new.self (table_text a.zoom l.i (drop l.i q))
          (line_text a.zoom l.i c.at.result) (table_text a.zoom (l.i + 1) (drop (l.i + 1) q)) line_room l.invariant.1
          (entry-line q a.zoom l.i c.at.result (omega arith) c.at.ensures) p,
    )

pub returns : goal.returns
returns c =
    let a = c.args in
    let l = c.loop-i in
    let q = rows (held a.t.now) in
    let n = rows-length (held a.t.now) in
    storing-end a.self.now (table_text a.zoom 0 q) l.self (table_text a.zoom l.i (drop l.i q)) (line_room * length a.t.now.x.now)
    l.invariant.1 (entry-none q a.zoom l.i (omega arith)) (omega (arith, l.invariant.0))
