-- `build_all_zooms::one_zoom` meets its contract: what holds between two zooms gives what the scan and the index ask, and the scan and the
-- index together advance the tables by one. Assumes nothing.
use Rattle.std.proofs.Common.{◌≡◌, ap, sym, ◌∙◌, ℕ, suc, ◌-◌, ◌*◌, ◌≤◌, List, length, arith, Float}
use Rattle.build_tables.specs.Columns.{part}
use Rattle.build_tables.specs.Entries.{Table}
use Rattle.build_tables.specs.Lent.{held_mut}
use Rattle.build_tables.specs.Rows.{Cols, rows}
use Rattle.build_tables.specs.laws.Lent.{same-even}
use Rattle.build_tables.specs.Radius.{radius_at}
use Rattle.build_one_zoom.specs.Near.{near_of}
use Rattle.build_one_zoom.specs.Zoom.{cluster}
use Rattle.build_one_zoom.specs.laws.Near.{Radius}
use Rattle.build_all_zooms.specs.Zooms.{Plan, zoom_plan}
use Rattle.build_all_zooms.specs.laws.Running.{Running, cur-promised}
use Rattle.build_all_zooms.specs.laws.OwnPlace.{cur-slotted, cur-owned}
use Rattle.build_all_zooms.specs.laws.Step.{Stepped}
use Rattle.build_all_zooms.specs.laws.Zooming.{Zoomed, z-few, step_room, step-light, step-watts, step-radius, step-placed, made_some}
use Rattle.build_all_zooms.specs.laws.Zooming.{made-few, made-body, scanned, inside-made, advanced}
use Rattle.build_all_zooms.proofs.one_zoom.Goals as goal

pub own_index-own-requires : goal.own_index-own-requires
own_index-own-requires c =
    let a = c.args in
    let r = c.requires.3 in
    let room = step_room (zoom_plan a.o a.n) (length a.t.now.x.now) a.z a.start a.len (rows (held_mut a.t.now)) a.index.now.ids.now
    a.index.now.coords.now c.requires.2 r in
    (omega (arith, room, r.ids-long), omega (arith, room, r.co-long), omega (arith, room, r.M-few))

pub zoom_step-d-requires : goal.zoom_step-d-requires
zoom_step-d-requires c =
    let a = c.args in
    let p = zoom_plan a.o a.n in
    let m = length a.t.now.x.now in
    let j = suc (a.z - a.o.min_zoom) in
    let t = rows (held_mut a.t.now) in
    let ids = a.index.now.ids.now in
    let co = a.index.now.coords.now in
    let r = c.requires.3 in
    let rad = c.radius_at-radius in
    let e = c.own_index-own.ensures in
    let room = step_room p m a.z a.start a.len t ids co c.requires.2 r in
    let radius : Radius rad.result = rw rad.ensures (step-radius p m a.z a.start a.len t ids co c.requires.2 r) in (
      c.requires.0,
      rw (e.ids, e.coords) (cur-promised p m j a.start a.len t ids co r),
      radius,
      step-placed p m a.z a.start a.len t ids co c.requires.2 r,
      omega (arith, r.len-few, c.requires.1),
      room,
      step-light p m a.z a.start a.len t ids co c.requires.2 r,
      r.len-few,
      r.able.few,
      z-few p m a.z a.start a.len t ids co c.requires.2 r,
      rw (e.ids, e.coords) (cur-slotted p m j a.start a.len t ids co r),
      rw (e.ids, e.coords) (cur-owned p m j a.start a.len t ids co r rad.result radius.0),
      step-watts p m a.z a.start a.len t ids co c.requires.2 r,
    )

-- what the scan leaves
module _ (p : Plan) (M z start len : ℕ) (t : Table) (ids : List ℕ) (co : List Float) (lz : p.options.min_zoom ≤ z)
    (r : Running p M (suc (z - p.options.min_zoom)) start len t ids co) (t' : Table) (d : ℕ) (s : Zoomed p z start len d t t') where
  some : 1 ≤ d
  some = omega (arith, s.count, made_some p M z start len t ids co lz r)

  short : d ≤ len
  short = omega (arith, s.count, made-few p M z start len t ids co lz r)

-- the columns after the scan, by the table's own part of the index
zoomed-by : (p : Plan) (M z start len : ℕ) (t : Table) (ids : List ℕ) (co : List Float) → p.options.min_zoom ≤ z
    → Running p M (suc (z - p.options.min_zoom)) start len t ids co
    → (rad : Float) → rad ≡ radius_at p.options.radius p.options.extent z → (t' : Table) (d : ℕ) (i : List ℕ) (c : List Float)
    → i ≡ part start len ids → c ≡ part (start * 2) (len * 2) co
    → Stepped start len (cluster p.count p.options.min_points z (near_of p.options.node_size len i c rad) (part start len t)) t t' d
    → Zoomed p z start len d t t'
zoomed-by p M z start len t ids co lz r rad e t' d i c ei ec s = scanned p M z start len t ids co lz r rad e t' d (rw (ei, ec) at s)

pub lent-made-requires : goal.lent-made-requires
lent-made-requires c = same-even c.args.t.now c.zoom_step-d.new.t c.zoom_step-d.ensures.lent c.requires.0

pub index_part-requires-clause-le_len : goal.index_part-requires-clause-le_len
index_part-requires-clause-le_len c =
    let a = c.args in
    let p = zoom_plan a.o a.n in
    let m = length a.t.now.x.now in
    let t = rows (held_mut a.t.now) in
    let ids = a.index.now.ids.now in
    let co = a.index.now.coords.now in
    let r = c.requires.3 in
    let w = c.zoom_step-d in
    let came = held_mut w.new.t in
    let own = c.own_index-own.ensures in
    let v = zoomed-by p m a.z a.start a.len t ids co c.requires.2 r c.radius_at-radius.result c.radius_at-radius.ensures (rows came)
    w.result _ _ own.ids own.coords w.ensures.rows in
    let h = short p m a.z a.start a.len t ids co c.requires.2 r (rows came) w.result v in
    let room = step_room p m a.z a.start a.len t ids co c.requires.2 r in (
      some p m a.z a.start a.len t ids co c.requires.2 r (rows came) w.result v,
      omega (arith, h, r.len-few, r.able.few),
      omega (arith, room, r.M-few),
      r.able.size-from,
      r.able.size-to,
    )

pub index_part-requires-clause-fact : goal.index_part-requires-clause-fact
index_part-requires-clause-fact c =
    let a = c.args in
    let p = zoom_plan a.o a.n in
    let m = length a.t.now.x.now in
    let t = rows (held_mut a.t.now) in
    let ids = a.index.now.ids.now in
    let co = a.index.now.coords.now in
    let r = c.requires.3 in
    let w = c.zoom_step-d in
    let came = held_mut w.new.t in
    let own = c.own_index-own.ensures in
    let v = zoomed-by p m a.z a.start a.len t ids co c.requires.2 r c.radius_at-radius.result c.radius_at-radius.ensures (rows came)
    w.result _ _ own.ids own.coords w.ensures.rows in
    let h = short p m a.z a.start a.len t ids co c.requires.2 r (rows came) w.result v in
    let ex : c.lent-made.result.x.now ≡ came.x = ap (λ (q : Cols). q.x) c.lent-made.ensures in
    let ey : c.lent-made.result.y.now ≡ came.y = ap (λ (q : Cols). q.y) c.lent-made.ensures in
    let room = step_room p m a.z a.start a.len t ids co c.requires.2 r in (
      ap length ey ∙ (same-even a.t.now w.new.t w.ensures.lent c.requires.0).ey ∙ sym (ap length ex),
      omega (arith, h, room, w.ensures.lent.kx, ap length ex),
      omega (arith, h, room, r.ids-long),
      omega (arith, h, room, r.co-long),
    )

pub index_part-requires-clause-inside : goal.index_part-requires-clause-inside
index_part-requires-clause-inside c =
    let a = c.args in
    let p = zoom_plan a.o a.n in
    let m = length a.t.now.x.now in
    let t = rows (held_mut a.t.now) in
    let ids = a.index.now.ids.now in
    let co = a.index.now.coords.now in
    let r = c.requires.3 in
    let w = c.zoom_step-d in
    let came = held_mut w.new.t in
    let own = c.own_index-own.ensures in
    let v = zoomed-by p m a.z a.start a.len t ids co c.requires.2 r c.radius_at-radius.result c.radius_at-radius.ensures (rows came)
    w.result _ _ own.ids own.coords w.ensures.rows in
    let e = same-even a.t.now w.new.t w.ensures.lent c.requires.0 in
    let ex : c.lent-made.result.x.now ≡ came.x = ap (λ (q : Cols). q.x) c.lent-made.ensures in
    let ey : c.lent-made.result.y.now ≡ came.y = ap (λ (q : Cols). q.y) c.lent-made.ensures in
    rw (ex, ey) (inside-made p a.z a.start a.len w.result t came e v (made-body p m a.z a.start a.len t ids co c.requires.2 r))

pub returns-clause-rows : goal.returns-clause-rows
returns-clause-rows c =
    let a = c.args in
    let p = zoom_plan a.o a.n in
    let m = length a.t.now.x.now in
    let t = rows (held_mut a.t.now) in
    let ids = a.index.now.ids.now in
    let co = a.index.now.coords.now in
    let r = c.requires.3 in
    let w = c.zoom_step-d in
    let came = held_mut w.new.t in
    let own = c.own_index-own.ensures in
    let v = zoomed-by p m a.z a.start a.len t ids co c.requires.2 r c.radius_at-radius.result c.radius_at-radius.ensures (rows came)
    w.result _ _ own.ids own.coords w.ensures.rows in
    let i = c.index_part in
    let e = same-even a.t.now w.new.t w.ensures.lent c.requires.0 in
    let j = i.new.index in
    let ex : c.lent-made.result.x.now ≡ came.x = ap (λ (q : Cols). q.x) c.lent-made.ensures in
    let ey : c.lent-made.result.y.now ≡ came.y = ap (λ (q : Cols). q.y) c.lent-made.ensures in
    advanced p a.z a.start a.len w.result t came e v ids j.ids.now co j.coords.now (rw (ex, ey) at i.ensures.put.0)
    (rw (ex, ey) at i.ensures.put.1)
