-- `lister_report::Writer::zoom` meets its contract: the part of the entries is the table. Assumes nothing.
use Rattle.std.proofs.Common.{◌≡◌, ℕ, ◌+◌, ◌-◌, ◌*◌, ◌≤◌, ap, sym, ◌∙◌, subst, arith, length, get_or}
use Rattle.build_tables.specs.Columns.{part}
use Rattle.build_tables.specs.Entries.{Table}
use Rattle.build_tables.specs.Lent.{held}
use Rattle.build_tables.specs.Rows.{Cols, rows, each}
use Rattle.build_tables.specs.laws.Columns.{part-long, rows-part}
use Rattle.build_tables.specs.laws.Rows.{rows-length}
use Rattle.lister_report.specs.Lines.{table_text, line_room}
use Rattle.lister_report.specs.laws.Put.{Put}
use Rattle.lister_report.proofs.Writer.zoom.Goals as goal

module _ (d e : Cols) (start len : ℕ) (h : start + len ≤ length d.x) (q : e ≡ each (λ A l. part start (start + len - start) l) d) where
  is : rows e ≡ part start len (rows d)
  is =
      let one : start + len - start ≡ len = omega arith in
      ap rows q ∙ rows-part start (start + len - start) d ∙ ap (λ (k : ℕ). part start k (rows d)) one

  long : length e.x ≡ len
  long = sym (rows-length e) ∙ ap length is ∙ part-long start len (rows d) (omega (arith, h, rows-length d))

pub table-requires : goal.table-requires
table-requires c =
    let a = c.args in
    let start = get_or a.s.now.starts a.z 0 in
    omega (
      arith,
      long (held a.t.now) (held c.part.result) start (get_or a.s.now.lens a.z 0) c.requires.1 c.part.ensures,
      c.requires.2,
    )

pub returns : goal.returns
returns c =
    let a = c.args in
    let start = get_or a.s.now.starts a.z 0 in
    let len = get_or a.s.now.lens a.z 0 in
    let d = held a.t.now in
    let e = held c.part.result in
    subst (λ (q : Table). Put a.self.now c.table.new.self (table_text a.z 0 q) (line_room * len))
    (is d e start len c.requires.1 c.part.ensures)
    (subst (λ (k : ℕ). Put a.self.now c.table.new.self (table_text a.z 0 (rows e)) (line_room * k))
    (long d e start len c.requires.1 c.part.ensures) c.table.ensures)
