-- `build_one_zoom::scan_one` meets its contract: one that is seen is passed by, and what the visit of a marked entry leaves is the
-- definition's scan. Assumes nothing.
use Rattle.std.proofs.Common.{◌≡◌, refl, ◌+◌, ◌^◌, ◌<◌, ◌≤◌, length, take, ap, sym, subst, arith, get_or-take, length-take-le}
use Rattle.kdslots.specs.declared.Query.TheVariants.{Within}
use Rattle.build_tables.specs.declared.Entry.{Entry}
use Rattle.build_tables.specs.Entries.{entry, none}
use Rattle.build_tables.specs.Lent.{held_mut}
use Rattle.build_tables.specs.Rows.{rows}
use Rattle.build_tables.specs.laws.Rows.{rows-length, rows-mark, even-mark}
use Rattle.build_one_zoom.specs.Zoom.{num_of, energy_of}
use Rattle.build_one_zoom.specs.laws.Keeps.{all-at}
use Rattle.build_one_zoom.specs.Around.{around}
use Rattle.build_one_zoom.specs.laws.Near.{Placed}
use Rattle.build_one_zoom.specs.laws.Notes.{noted-at}
use Rattle.build_one_zoom.specs.laws.Visit.{marked-room, marked-fits, scanned, passed}
use Rattle.build_one_zoom.proofs.scan_one.Goals as goal

pub returns-then-e-zoom-clause-same : goal.returns-then-e-zoom-clause-same
returns-then-e-zoom-clause-same c = λ j. refl

pub returns-then-e-zoom-clause-rows : goal.returns-then-e-zoom-clause-rows
returns-then-e-zoom-clause-rows c =
    let a = c.args in
    let z = a.zoom.now in
    let k = held_mut a.t.now in
    let h : z.len + a.done ≤ length (rows k) = omega (arith, c.requires.6, rows-length k) in
    passed z.count z.least z.z (around z) (rows k) z.len a.done a.i c.requires.3 (rw c.at-e.ensures at c.if-e-zoom.true) h

pub neighbours-found-requires-clause-finite : goal.neighbours-found-requires-clause-finite
neighbours-found-requires-clause-finite c =
    let a = c.args in
    let len = a.zoom.now.len in
    let k = held_mut a.t.now in
    let t = rows k in
    let len-in : len ≤ length t = omega (arith, c.requires.6, rows-length k) in
    let placed : Placed (entry t a.i) = subst (λ (e : Entry). Placed e) (get_or-take len t a.i none c.requires.3)
    (all-at Placed (take len t) a.i c.requires.4 (rw (length-take-le len t len-in) c.requires.3)) in
    rw c.at-e.ensures placed

pub neighbours-found-requires-clause-tells : goal.neighbours-found-requires-clause-tells
neighbours-found-requires-clause-tells c =
    let a = c.args in
    let z = a.zoom.now in
    noted-at z.count z.len (around z) a.near.now (rows (held_mut a.t.now)) a.i c.at-e.result c.requires.5 c.requires.3
    (sym c.at-e.ensures)

pub visit_one-requires : goal.visit_one-requires
visit_one-requires c =
    let a = c.args in
    let z = a.zoom.now in
    let e = c.at-e.result in
    let P = c.requires.1.promised in
    let q = Within e.x e.y z.radius in
    let k = held_mut a.t.now in
    let t = rows k in
    let l = around z e.x e.y in
    let inside : a.i < length k.x = omega (arith, c.requires.3, c.requires.6) in
    let len-in : z.len ≤ length t = omega (arith, c.requires.6, rows-length k) in
    let u = rw c.at-e.ensures at c.if-e-zoom.false in
    let mark = rows-mark k a.i c.requires.0 inside z.z in
    let front = c.neighbours-found.ensures.0.front in
    let fits = marked-fits t z.len a.done z.z a.i c.requires.3 len-in u in (
      even-mark k a.i z.z c.requires.0,
      rw front (P.below q),
      c.requires.3,
      rw mark (marked-room t z.len a.done z.z a.i c.requires.3 len-in u (length k.x) c.requires.6),
      rw (mark, front) (fits num_of (λ e q. refl) (2 ^ 32) l (P.below q) (P.once q) c.requires.7),
      rw (mark, front) (fits energy_of (λ e q. refl) (2 ^ 64) l (P.below q) (P.once q) c.requires.8),
    )

pub returns-clause-rows : goal.returns-clause-rows
returns-clause-rows c =
    let a = c.args in
    let z = a.zoom.now in
    let e = c.at-e.result in
    let k = held_mut a.t.now in
    let t = rows k in
    let inside : a.i < length k.x = omega (arith, c.requires.3, c.requires.6) in
    let mark = rows-mark k a.i c.requires.0 inside z.z in
    let front = c.neighbours-found.ensures.0.front in
    let le : around z (entry t a.i).x (entry t a.i).y ≡ around z e.x e.y
    = sym (ap (λ (q : Entry). around z q.x q.y) c.at-e.ensures) in
    let visited = rw (mark, front) at c.visit_one.ensures.rows in
    scanned z.count z.least z.z (around z) t z.len a.done a.i c.requires.3 (rw c.at-e.ensures at c.if-e-zoom.false) _ _ (rw le visited)
