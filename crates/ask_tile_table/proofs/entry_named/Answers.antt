-- `ask_tile_table::entry_named` meets its contract: each return is one of the three tests. Assumes nothing.
use Rattle.std.proofs.Common.{sym, ◌∙◌, arith}
use Rattle.build_tables.specs.Rows.{rows}
use Rattle.build_tables.specs.laws.Rows.{rows-length}
use Rattle.build_tables.specs.Lent.{held}
use Rattle.ask_tile_table.specs.laws.Turns.{named-out, named-is}
use Rattle.ask_tile_table.proofs.entry_named.Goals as goal

pub returns-then-len-k : goal.returns-then-len-k
returns-then-len-k c =
    let k = held c.args.t.now in
    named-out (rows k) c.args.p (omega (arith, rows-length k, c.if-len-k.true, c.len.ensures))

pub returns-then-in_unit-2 : goal.returns-then-in_unit-2
returns-then-in_unit-2 c =
    let k = held c.args.t.now in
    named-is (rows k) c.args.p c.at-e.result c.at-e.ensures (omega (arith, rows-length k, c.if-len-k.false, c.len.ensures))
    (sym c.in_unit.ensures ∙ c.if-in_unit.true) (sym c.in_unit-then-in_unit.ensures ∙ c.if-in_unit-2.true)
