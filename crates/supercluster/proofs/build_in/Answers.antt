-- `supercluster::build_in` meets its contract: the columns are filled with the finest table, its index stands in the first part of the
-- index's columns, and from there the zooms leave the definition's tables. Assumes nothing.
use Rattle.std.proofs.Common.{◌≡◌, ℕ, ap, sym, ◌∙◌, subst, arith, ◌+◌, ◌≤◌, length, set, replicate}
use lib.Seq.{set-set}
use Rattle.build_tables.specs.declared.State.{State}
use Rattle.build_tables.specs.State.{with_table}
use Rattle.build_tables.specs.laws.Bounds.{options-are}
use Rattle.build_tables.specs.Lent.{held_mut}
use Rattle.build_tables.specs.Rows.{Cols, rows}
use Rattle.build_tables.specs.laws.Rows.{rows-length}
use Rattle.build_tables.specs.laws.Lent.{same-even}
use Rattle.supercluster.specs.laws.Ready.{need-some, slots-put, coords-put, first-inside, ready_at, made_at}
use Rattle.supercluster.proofs.build_in.Goals as goal

pub lent-e-requires : goal.lent-e-requires
lent-e-requires c = same-even c.args.t.now c.fill.new.t c.fill.ensures.lent c.requires.0

pub index_part-requires-clause-le_len : goal.index_part-requires-clause-le_len
index_part-requires-clause-le_len c =
    let b = options-are c.args.o c.requires.1.options in
    (c.requires.1.some, c.requires.1.few, omega arith, b.size-from, b.size-to)

pub index_part-requires-clause-fact : goal.index_part-requires-clause-fact
index_part-requires-clause-fact c =
    let l = c.fill.ensures.lent in
    let z = options-are c.args.o c.requires.1.options in
    let t = held_mut c.fill.new.t in
    let ex : length c.lent-e.result.x.now ≡ length t.x = ap (λ (q : Cols). length q.x) c.lent-e.ensures in
    let ey : length c.lent-e.result.y.now ≡ length t.y = ap (λ (q : Cols). length q.y) c.lent-e.ensures in
    let w = need-some c.args.o (length c.args.points.now.xs.now) z.zooms in (
      ey ∙ (same-even c.args.t.now c.fill.new.t l c.requires.0).ey ∙ sym ex,
      omega (arith, ex, l.kx, c.requires.2, w),
      omega (arith, c.requires.3, w),
      omega (arith, c.requires.4, w),
    )

pub index_part-requires-clause-inside : goal.index_part-requires-clause-inside
index_part-requires-clause-inside c =
    let a = c.args in
    let p = a.points.now in
    let t = held_mut c.fill.new.t in
    let e = same-even a.t.now c.fill.new.t c.fill.ensures.lent c.requires.0 in
    let ex : c.lent-e.result.x.now ≡ t.x = ap (λ (q : Cols). q.x) c.lent-e.ensures in
    let ey : c.lent-e.result.y.now ≡ t.y = ap (λ (q : Cols). q.y) c.lent-e.ensures in
    rw (ex, ey) (first-inside a.o p.xs.now p.ys.now p.energies.now c.requires.1 t (rows (held_mut a.t.now)) e.ey c.fill.ensures.rows)

pub with_table-requires : goal.with_table-requires
with_table-requires c =
    let z = (options-are c.args.o c.requires.1.options).zoom-to in
    omega (arith, z)

pub run_zooms-requires : goal.run_zooms-requires
run_zooms-requires c =
    let a = c.args in
    let p = a.points.now in
    let n = length p.xs.now in
    let l = c.fill.ensures.lent in
    let t = held_mut c.fill.new.t in
    let i = c.index_part.new.index in
    let f = a.index.now in
    let ex : c.lent-e.result.x.now ≡ t.x = ap (λ (q : Cols). q.x) c.lent-e.ensures in
    let ey : c.lent-e.result.y.now ≡ t.y = ap (λ (q : Cols). q.y) c.lent-e.ensures in
    let put = c.index_part.ensures.put in
    let same = c.index_part.ensures.lent in
    let Z = a.o.max_zoom + 1 in
    let h = c.with_table.ensures ∙ ap (λ (v : State). with_table v Z 0 n) c.new_state-s.ensures in
    let e = same-even a.t.now c.fill.new.t l c.requires.0 in (
      e,
      omega (arith, c.requires.5),
      subst (λ (v : State). v.options.min_zoom ≤ v.options.max_zoom + 1) (sym h)
          (omega (arith, (options-are a.o c.requires.1.options).zooms)),
      ready_at a.o p.xs.now p.ys.now p.energies.now c.requires.1 (rows t) (rows (held_mut a.t.now)) i.ids.now f.ids.now
          i.coords.now f.coords.now c.fill.ensures.rows (rows-length t ∙ l.kx ∙ c.requires.2) c.requires.3 c.requires.4
          same.ids_length same.coords_length (slots-put a.o.node_size n t e.ey i.ids.now f.ids.now (rw (ex, ey) at put.0))
          (coords-put a.o.node_size n t e.ey i.coords.now f.coords.now (rw (ex, ey) at put.1)) c.with_table.new.s (length t.x) h
          (l.kx ∙ c.requires.2),
      subst (λ (v : State). set v.starts (v.options.max_zoom + 1) 0 ≡ v.starts) (sym h) (set-set (replicate 32 0) Z 0 0),
      subst (λ (v : State). set v.lens (v.options.max_zoom + 1) n ≡ v.lens) (sym h) (set-set (replicate 32 0) Z n n),
    )

pub returns-clause-made : goal.returns-clause-made
returns-clause-made c =
    let a = c.args in
    let p = a.points.now in
    let n = length p.xs.now in
    let l = c.fill.ensures.lent in
    let t = held_mut c.fill.new.t in
    let i = c.index_part.new.index in
    let f = a.index.now in
    let ex : c.lent-e.result.x.now ≡ t.x = ap (λ (q : Cols). q.x) c.lent-e.ensures in
    let ey : c.lent-e.result.y.now ≡ t.y = ap (λ (q : Cols). q.y) c.lent-e.ensures in
    let put = c.index_part.ensures.put in
    let same = c.index_part.ensures.lent in
    let z = c.run_zooms.new.t in
    let j = c.run_zooms.new.index in
    let h = c.with_table.ensures ∙ ap (λ (v : State). with_table v (a.o.max_zoom + 1) 0 n) c.new_state-s.ensures in
    let e = same-even a.t.now c.fill.new.t l c.requires.0 in
    made_at a.o p.xs.now p.ys.now p.energies.now c.requires.1 (rows t) (rows (held_mut a.t.now)) i.ids.now f.ids.now i.coords.now
    f.coords.now c.fill.ensures.rows (rows-length t ∙ l.kx ∙ c.requires.2) c.requires.3 c.requires.4 same.ids_length
    same.coords_length (slots-put a.o.node_size n t e.ey i.ids.now f.ids.now (rw (ex, ey) at put.0))
    (coords-put a.o.node_size n t e.ey i.coords.now f.coords.now (rw (ex, ey) at put.1)) c.with_table.new.s c.run_zooms.new.s
    (rows (held_mut z)) j.ids.now j.coords.now c.clear.new.near h c.run_zooms.ensures.rows
    (c.clear.ensures ∙ ap (λ (k : ℕ). replicate k 0) (c.run_zooms.auto.near ∙ c.requires.5))
