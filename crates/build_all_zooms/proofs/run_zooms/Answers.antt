-- `build_all_zooms::run_zooms` meets its contract: at the head of the loop the table of zoom z stands indexed, and what is written with
-- what is left to write is the whole. Assumes nothing.
use Rattle.std.proofs.Common.{◌≡◌, ◌+◌, refl, length, ap, sym, ◌∙◌, arith}
use Rattle.build_tables.specs.declared.State.{State}
use Rattle.build_tables.specs.Columns.{part}
use Rattle.build_tables.specs.Lent.{held_mut}
use Rattle.build_tables.specs.Rows.{rows}
use Rattle.build_tables.specs.laws.Rows.{rows-length}
use Rattle.build_tables.specs.laws.Lent.{same-refl, same_then, same-even, index-refl, index_then}
use Rattle.build_all_zooms.specs.Zooms.{zoom_plan, zooms_of}
use Rattle.build_all_zooms.specs.laws.Progress.{whole_progress}
use Rattle.build_all_zooms.specs.laws.Turn.{turn-ready, turn-running, turn-progress, turn-start, turn_end}
use Rattle.build_all_zooms.proofs.run_zooms.Goals as goal

pub loop-z-init : goal.loop-z-init
loop-z-init c =
    let a = c.args in
    let o = a.s.now.options in
    let i = a.index.now in (
      same-refl a.t.now,
      index-refl i,
      c.requires.2,
      c.requires.3,
      turn-start (zoom_plan o a.n) (o.max_zoom + 1) a.n (rows (held_mut a.t.now)) i.ids.now i.coords.now a.s.now.starts a.s.now.lens
          c.requires.2 c.requires.4 c.requires.5,
      refl,
      refl,
    )

pub one_zoom-d-requires : goal.one_zoom-d-requires
one_zoom-d-requires c =
    let a = c.args in
    let l = c.loop-z in
    let v = l.invariant in
    let m = length a.t.now.x.now in
    let i = l.index in (
      same-even a.t.now l.t v.0 c.requires.0,
      omega (arith, l.auto.near, c.requires.1),
      omega (arith, c.loop-z-test.true),
      rw v.0.kx (turn-ready (zoom_plan a.s.now.options a.n) m l.z l.start l.len (rows (held_mut l.t)) i.ids.now i.coords.now
          c.loop-z-test.true v.3),
    )

pub overflow_cast-len-in-loop-z : goal.overflow_cast-len-in-loop-z
overflow_cast-len-in-loop-z c =
    let a = c.args in
    let l = c.loop-z in
    let w = c.one_zoom-d in
    let old = held_mut l.t in
    let came = held_mut w.new.t in
    let i = l.index in
    let j = w.new.index in
    let same : length (rows came) ≡ length (rows old) = rows-length came ∙ w.ensures.lent.kx ∙ sym (rows-length old) in
    let r = turn-running (zoom_plan a.s.now.options a.n) (length a.t.now.x.now) l.z l.start l.len (rows old) i.ids.now i.coords.now
    c.loop-z-test.true l.invariant.3 w.result (rows came) j.ids.now j.coords.now w.ensures.rows same w.ensures.index.ids_length
    w.ensures.index.coords_length in
    omega (arith, r.len-few, r.able.few)

pub loop-z-preserved : goal.loop-z-preserved
loop-z-preserved c =
    let a = c.args in
    let l = c.loop-z in
    let v = l.invariant in
    let w = c.one_zoom-d in
    let p = zoom_plan a.s.now.options a.n in
    let m = length a.t.now.x.now in
    let first = rows (held_mut a.t.now) in
    let h = a.index.now in
    let old = held_mut l.t in
    let came = held_mut w.new.t in
    let i = l.index in
    let j = w.new.index in
    let same : length (rows came) ≡ length (rows old) = rows-length came ∙ w.ensures.lent.kx ∙ sym (rows-length old) in
    let e = c.with_table.ensures in (
      same_then a.t.now l.t w.new.t v.0 w.ensures.lent,
      index_then h i j v.1 w.ensures.index,
      omega (arith, c.loop-z-test.true),
      turn-running p m l.z l.start l.len (rows old) i.ids.now i.coords.now c.loop-z-test.true v.3 w.result (rows came) j.ids.now
          j.coords.now w.ensures.rows same w.ensures.index.ids_length w.ensures.index.coords_length,
      turn-progress p m l.z l.start l.len (rows old) i.ids.now i.coords.now c.loop-z-test.true v.3 w.result (rows came) j.ids.now
          j.coords.now w.ensures.rows same w.ensures.index.ids_length w.ensures.index.coords_length
          (whole_progress p (zooms_of a.s.now.options) (part 0 a.n first) a.s.now.starts a.s.now.lens) first h.ids.now h.coords.now
          l.s.starts l.s.lens c.with_table.new.s.starts c.with_table.new.s.lens v.4 (ap (λ (q : State). q.starts) e)
          (ap (λ (q : State). q.lens) e),
      ap (λ (q : State). q.options) e ∙ v.5,
      ap (λ (q : State). q.count) e ∙ v.6,
    )

pub returns-clause-rows : goal.returns-clause-rows
returns-clause-rows c =
    let a = c.args in
    let l = c.loop-z in
    let i = l.index in
    let h = a.index.now in
    turn_end (zoom_plan a.s.now.options a.n) (length a.t.now.x.now) l.z (zooms_of a.s.now.options) l.start l.len a.n
    (rows (held_mut l.t)) i.ids.now i.coords.now (rows (held_mut a.t.now)) h.ids.now h.coords.now a.s.now l.s
    c.loop-z-test.false l.invariant.3 l.invariant.4 l.invariant.5 l.invariant.6
