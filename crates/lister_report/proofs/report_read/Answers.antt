-- `lister_report::report_read` meets its contract: what `load` leaves of an accepted build is printable, and a refusal has its line.
-- Assumes nothing.
use Rattle.std.proofs.Common.{◌≡◌, ℕ, ◌+◌, Err, List, ap, refl, sym, ◌∙◌, subst, arith, length}
use Rattle.build_tables.specs.declared.Options.{Options}
use Rattle.build_tables.specs.Entries.{Table}
use Rattle.build_tables.specs.Rows.{Cols, rows}
use Rattle.supercluster.specs.Build.{BuildColumns}
use Rattle.supercluster.specs.Lent.{columns_held}
use Rattle.supercluster.specs.laws.Load.{rows_in}
use Rattle.lister_text.specs.Text.{front_of}
use Rattle.lister_text.specs.Values.{options_of}
use Rattle.lister_text.specs.Lent.{held_lamps}
use Rattle.lister_report.specs.Lines.{tables_text}
use Rattle.lister_report.specs.declared.Writer.{Writer}
use Rattle.supercluster.specs.laws.Held.{held_by}
use Rattle.build_tables.specs.Lent.{held}
use Rattle.lister_report.specs.Report.{lister_held, build_text}
use Rattle.lister_report.specs.laws.Put.{Puts, puts}
use Rattle.lister_report.specs.laws.Held.{Holding}
use Rattle.lister_report.specs.laws.Built.{Sized, reply-is, refused-text, printable}
use Rattle.lister_report.proofs.report_read.Goals as goal
use Rattle.lister_report.proofs.report_read.Goals.{in-Ok, in-Err}

-- what is written, by the writer that wrote it and by another name of the text
written : (o : List ℕ) (v w : Writer) (bs cs : List ℕ) → v ≡ w → bs ≡ cs → Puts o v.out.now bs v.at → Puts o w.out.now cs w.at
written o v w bs cs e q p = subst (λ (u : Writer). Puts o u.out.now cs u.at) e (subst (λ (l : List ℕ). Puts o v.out.now l v.at) q p)

-- columns of the lister's lengths
sized : (l : BuildColumns) → length l.table.x ≡ 1152 → length l.table.y ≡ 1152 → length l.table.seen ≡ 1152
    → length l.table.id ≡ 1152 → length l.table.parent ≡ 1152 → length l.table.num ≡ 1152 → length l.table.energy ≡ 1152
    → length l.ids ≡ 1152 → length l.coords ≡ 2304 → length l.near ≡ 1152 → Sized l
sized l x y seen id parent num energy ids coords near = record {
  x = x;
  even = record {
    ey = y ∙ sym x;
    es = seen ∙ sym x;
    ei = id ∙ sym x;
    ep = parent ∙ sym x;
    en = num ∙ sym x;
    ew = energy ∙ sym x;
  };
  ids = ids;
  coords = coords;
  near = near;
}

pub tables-requires : goal.tables-requires
tables-requires c =
    let a = c.args in
    let p = front_of a.h.count (held_lamps a.lamps.now) in
    let l = lister_held a.columns.now in
    let l' = columns_held c.load-built.new.t in
    let s : Sized l = sized l (omega arith) (omega arith) (omega arith) (omega arith) (omega arith)
    (omega arith) (omega arith) (omega arith) (omega arith) (omega arith) in
    let q = printable c.options.result p l l' c.in-Ok.state s c.in-Ok.ensures.value in (
      refl,
      subst (λ (t : Table). Holding c.in-Ok.state t (length a.out.now)) (ap rows (sym c.entries.ensures))
          (subst (λ (k : ℕ). Holding c.in-Ok.state (rows_in l') k) (sym c.told-out) q.holding),
    )

pub returns-clause-text : goal.returns-clause-text
returns-clause-text c =
    let a = c.args in
    let o = c.options.result in
    let p = front_of a.h.count (held_lamps a.lamps.now) in
    let l = lister_held a.columns.now in
    let l' = columns_held c.load-built.new.t in
    let s : Sized l = sized l (omega arith) (omega arith) (omega arith) (omega arith) (omega arith)
    (omega arith) (omega arith) (omega arith) (omega arith) (omega arith) in
    let asked : build_text o p ≡ build_text (options_of a.h) p = ap (λ (o : Options). build_text o p) c.options.ensures in
    elim c.match-built.branch [
      | in-Ok w ↦ (
          let b = w.in-Ok.state in
          let q = printable o p l l' b s w.in-Ok.ensures.value in
          let text : tables_text (b.options.max_zoom + 1) (held_by b (rows (held w.entries.result))) ≡ build_text (options_of a.h) p =
          ap (λ (d : Cols). tables_text (b.options.max_zoom + 1) (held_by b (rows d))) w.entries.ensures ∙ q.text ∙ asked in
          written a.out.now _ c.match-built.w _ _ (sym w.w-is) text (puts w.tables.ensures refl (omega arith))
          )
      | in-Err w ↦ (
          let e = w.in-Err.e in
          let r = reply-is o p l l' (Err e) s w.in-Err.ensures.value in
          written a.out.now _ c.match-built.w _ _ (sym w.w-is) (sym (refused-text o p e r) ∙ asked)
          (puts w.refusal.ensures refl (omega (arith, c.told-out)))
          )
    ]
