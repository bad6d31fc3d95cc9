-- `build_one_zoom::zoom::Zoom::search_near` meets its contract: over an index that keeps its promises no search of a zoom is refused, and
-- the column holds its places. Assumes nothing.
use Rattle.std.proofs.Common.{◌≡◌, ℕ, List, T, ◌≤◌, length, ap, ◌∙◌, arith, Float, Result, Ok, Err}
use Rattle.std.specs.Float.Ieee.Scale.{finite}
use Rattle.refusals.specs.declared.Refusal.{Refusal}
use Rattle.refusals.specs.Refusals.{carried}
use Rattle.kdslots.specs.declared.Query.TheVariants.{Within}
use Rattle.kdbush.specs.Reply.{searched}
use Rattle.kdbush.specs.laws.Promise.{promised-searched, promised-column}
use Rattle.build_one_zoom.specs.declared.zoom.Zoom.{Zoom}
use Rattle.build_one_zoom.specs.Around.{around}
use Rattle.build_one_zoom.specs.laws.Near.{query-fine, answered}
use Rattle.build_one_zoom.specs.laws.Notes.{same-past}
use Rattle.build_one_zoom.specs.laws.Searchable.{Searchable}
use Rattle.build_one_zoom.proofs.zoom.Zoom.search_near.Goals as goal

-- the reply of the search, and that no refusal is it
reply-is : (z : Zoom) (x y : Float) (near : List ℕ) → Searchable z → z.len ≤ length near → T (finite x) × T (finite y)
    → (reply : Result ℕ Refusal)
    → reply ≡ searched (Within x y z.radius) z.node_size z.len z.index.ids.now z.index.coords.now (length near)
    → reply ≡ Ok (length (around z x y))
reply-is z x y near s h f reply e =
    e
    ∙ promised-searched z.node_size z.len z.index.ids.now z.index.coords.now s.promised (Within x y z.radius)
    (query-fine x y z.radius f.0 f.1 z.fine) near h

refused : (k : ℕ) (e : Refusal) → ◌≡◌ {A = Result ℕ Refusal} (Err e) (Ok k) → ⊥
refused k e q = let z : ◌≡◌ {A = ℕ} 0 1 = cc in omega arith

pub returns-in-Ok : goal.returns-in-Ok
returns-in-Ok c =
    let a = c.args in
    let z = a.self.now in
    let r = c.requires in
    let q = Within a.qx a.qy z.radius in
    let l = around z a.qx a.qy in
    let g = reply-is z a.qx a.qy a.near.now r.searchable r.room r.finite _ c.in-Ok.ensures.value in
    let e = c.in-Ok.ensures.out_value
    ∙ promised-column z.node_size z.len z.index.ids.now z.index.coords.now r.searchable.promised q
    (query-fine a.qx a.qy z.radius r.finite.0 r.finite.1 z.fine) a.near.now r.room in
    (answered l a.near.now _ _ (ap carried g) e, same-past z.len l a.near.now _ (r.searchable.promised.short q) e)

pub returns-in-Err : goal.returns-in-Err
returns-in-Err c =
    let a = c.args in
    let r = c.requires in
    absurd (refused _ _ (reply-is a.self.now a.qx a.qy a.near.now r.searchable r.room r.finite _ c.in-Err.ensures.value))
