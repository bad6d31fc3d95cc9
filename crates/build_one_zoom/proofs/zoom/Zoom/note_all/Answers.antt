-- `build_one_zoom::zoom::Zoom::note_all` meets its contract: at the head of the loop every note that there is, is the answer at its entry.
-- Assumes nothing.
use Rattle.std.proofs.Common.{◌≡◌, refl, ℕ, ◌+◌, ◌-◌, ◌∙◌, ◌≤◌, ◌<◌, length, get_or, arith}
use Rattle.build_tables.specs.laws.Columns.{part-long}
use Rattle.build_one_zoom.specs.declared.zoom.Zoom.{Zoom}
use Rattle.build_one_zoom.specs.Around.{around}
use Rattle.build_one_zoom.specs.laws.Notes.{owned_in, cleared, noted-none, noted-slot}
use Rattle.build_one_zoom.specs.laws.Searchable.{Searchable}
use Rattle.build_one_zoom.proofs.zoom.Zoom.note_all.Goals as goal

-- the entry of a slot is one of the table's
named : (z : Zoom) → Searchable z → (s : ℕ) → s < z.len → get_or z.index.ids.now s 0 < z.len
named z f s h = owned_in z.node_size z.len z.index.ids.now z.index.coords.now z.radius f.promised f.own s h

-- the notes are in the part that is cleared
long : (n len m k : ℕ) → n + len ≤ m → k ≡ n + len - n → k ≡ len
long n len m k h e = omega arith

pub loop-s-init : goal.loop-s-init
loop-s-init c =
    let z = c.args.self.now in
    let near = c.args.near.now in
    let e : z.count + z.len - z.count ≡ z.len = omega arith in
    let room : z.count + (z.count + z.len - z.count) ≤ length near = omega (arith, c.requires.room) in
    let n : length c.forget.new.notes ≡ z.len = c.forget.auto.notes ∙ part-long z.count _ near room ∙ e in
    λ t S. noted-none z.count z.len (around z) _ t
    (λ i h. cleared z.count near c.forget.new.notes _ (omega (arith, c.requires.room))
    (λ j q. c.forget.ensures j (omega (arith, q, c.forget.auto.notes))) i (omega (arith, n, h)))

pub bounds-near-notes : goal.bounds-near-notes
bounds-near-notes c =
    let z = c.args.self.now in
    omega (arith, named z c.requires.searchable c.loop-s.s c.loop-s-test.true, c.requires.room, c.loop-s.auto.near)

pub loop-s-preserved : goal.loop-s-preserved
loop-s-preserved c =
    let l = c.loop-s in
    let z = c.args.self.now in
    let i = z.index in
    let h = c.loop-s-test.true in
    let o = named z c.requires.searchable l.s h in
    λ t S. noted-slot z.count z.len (around z) l.near i.ids.now i.coords.now l.s _ c.note_at-n.result.note h
    (omega (arith, o, c.requires.room, l.auto.near)) refl c.note_at-n.ensures t S (l.invariant t S)
