-- `build_one_zoom::zoom::Zoom::note_at` meets its contract: the count is how many are answered at the slot, and the slot's own place is one
-- of them. Assumes nothing.
use Rattle.std.proofs.Common.{◌≡◌, ℕ, ◌+◌, ◌*◌, length, get_or, sym, ◌∙◌, add-zero, Float}
use Rattle.std.specs.Float.{nan}
use Rattle.kdslots.specs.declared.Query.TheVariants.{Within}
use Rattle.kdslots.specs.laws.Members.{In}
use Rattle.kdslots.specs.Slots.{answers}
use Rattle.kdbush.specs.laws.Run.{places-length}
use Rattle.build_one_zoom.specs.declared.zoom.Zoom.{Zoom}
use Rattle.build_one_zoom.specs.Around.{around}
use Rattle.build_one_zoom.specs.laws.Notes.{tells-alone, told_at}
use Rattle.build_one_zoom.proofs.zoom.Zoom.note_at.Goals as goal

-- how many are answered is how many slots are counted
counted : (z : Zoom) (x y : Float) (n : ℕ) → n ≡ length (answers (Within x y z.radius) z.index.coords.now z.node_size z.len)
    → length (around z x y) ≡ n
counted z x y n e = places-length z.index.ids.now (answers (Within x y z.radius) z.index.coords.now z.node_size z.len) ∙ sym e

pub returns-then-found-eq1 : goal.returns-then-found-eq1
returns-then-found-eq1 c =
    let s = c.args.s in
    let z = c.args.self.now in
    let i = z.index in
    let qx = get_or i.coords.now (2 * s) nan in
    let qy = get_or i.coords.now (2 * s + 1) nan in
    let own : In (get_or i.ids.now s 0) (around z qx qy) = rw (add-zero (2 * s)) at (c.requires.searchable.own s c.requires.slot) in
    told_at _ 1 (around z) i.coords.now s
    (tells-alone _ (around z qx qy) (counted z qx qy _ c.count-found.ensures ∙ c.if-found-eq1.true) own)

pub note_two-note-requires-clause-two : goal.note_two-note-requires-clause-two
note_two-note-requires-clause-two c =
    let s = c.args.s in
    let z = c.args.self.now in
    let co = z.index.coords.now in
    counted z (get_or co (2 * s) nan) (get_or co (2 * s + 1) nan) _ c.count-found.ensures ∙ c.if-found-ne2.false

pub returns : goal.returns
returns c =
    let z = c.args.self.now in
    told_at _ _ (around z) z.index.coords.now c.args.s c.note_two-note.ensures
