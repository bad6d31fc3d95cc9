-- `lister_report::Writer::tables` meets its contract: each round writes the lines of the next table, and then none is left. Assumes
-- nothing.
use Rattle.std.proofs.Common.{◌≡◌, ℕ, ◌+◌, ◌-◌, ◌*◌, refl, arith, length, get_or}
use Rattle.build_tables.specs.Columns.{held_at}
use Rattle.build_tables.specs.Lent.{held}
use Rattle.build_tables.specs.Rows.{rows}
use Rattle.build_tables.specs.laws.Rows.{rows-length}
use Rattle.supercluster.specs.laws.Held.{held_by}
use Rattle.lister_report.specs.Lines.{line_room, table_text, tables_text}
use Rattle.lister_report.specs.laws.Put.{storing-start, storing-step, storing-end}
use Rattle.lister_report.specs.laws.Held.{text-step, text-end, held-long}
use Rattle.lister_report.proofs.Writer.tables.Invariants.{left-of}
use Rattle.lister_report.proofs.Writer.tables.Goals as goal

pub loop-z-init : goal.loop-z-init
loop-z-init c =
    let s = c.args.s.now in
    let all = held_by s (rows (held c.args.t.now)) in
    let top : s.options.max_zoom + 2 - 1 ≡ s.options.max_zoom + 1 = omega arith in (
      refl,
      omega arith,
      omega (arith, c.requires.0, c.requires.1.fits),
      rw top (storing-start c.args.self.now (tables_text (s.options.max_zoom + 1) all)),
    )

pub zoom-requires : goal.zoom-requires
zoom-requires c =
    let s = c.args.s.now in
    let z : ℕ = c.loop-z.z in
    let v = c.loop-z.invariant in
    let d = held c.args.t.now in
    let e = c.requires.1.within (z - 1) (omega arith) (omega (arith, v.1)) in
    let n = held-long s.starts s.lens (rows d) s.options.min_zoom z c.loop-z-test.true e in (
      omega (arith, c.requires.1.top, v.1),
      omega (arith, e, rows-length d),
      omega (arith, n, v.2, v.3.kept),
    )

pub loop-z-preserved : goal.loop-z-preserved
loop-z-preserved c =
    let s = c.args.s.now in
    let z : ℕ = c.loop-z.z in
    let v = c.loop-z.invariant in
    let t = rows (held c.args.t.now) in
    let h = c.loop-z-test.true in
    let p = c.zoom.ensures in
    let e = c.requires.1.within (z - 1) (omega arith) (omega (arith, v.1)) in
    let n = held-long s.starts s.lens t s.options.min_zoom z h e in (
      refl,
      omega (arith, v.1),
      omega (arith, n, p.near, v.2),
      storing-step c.args.self.now (tables_text (s.options.max_zoom + 1) (held_by s t)) c.loop-z.self c.zoom.new.self
          (tables_text (z - 1) (left-of s t z)) (table_text (z - 1) 0 (held_at s.starts s.lens t (z - 1)))
          (tables_text (z - 1 - 1) (left-of s t (z - 1))) (line_room * get_or s.lens (z - 1) 0) v.3
          (text-step s.starts s.lens t s.options.min_zoom z h) p,
    )

pub returns : goal.returns
returns c =
    let s = c.args.s.now in
    let z : ℕ = c.loop-z.z in
    let v = c.loop-z.invariant in
    let t = rows (held c.args.t.now) in
    storing-end c.args.self.now (tables_text (s.options.max_zoom + 1) (held_by s t)) c.loop-z.self (tables_text (z - 1) (left-of s t z))
    (length c.args.self.now.out.now) v.3 (text-end s.starts s.lens t s.options.min_zoom z c.loop-z-test.false) (omega (arith, v.2))
