-- `build_one_zoom::zoom::Zoom::neighbours` meets its contract: a note, where there is one, is the answer, and otherwise it is searched for.
-- Assumes nothing.
use Rattle.std.proofs.Common.{◌≡◌, ◌-◌, ◌/◌, [], ◌∷◌, length, ap, arith, length-set}
use Rattle.kdslots.specs.declared.Query.TheVariants.{Within}
use Rattle.build_one_zoom.specs.Around.{around}
use Rattle.build_one_zoom.specs.laws.Notes.{list-one, list-two}
use Rattle.build_one_zoom.proofs.zoom.Zoom.neighbours.Goals as goal

pub returns-then-note-eq1 : goal.returns-then-note-eq1
returns-then-note-eq1 c =
    let a = c.args in
    let z = a.self.now in
    let r = c.requires.room in
    list-one z.len a.near.now (around z a.qx a.qy) a.i (omega (arith, r.1)) (omega (arith, r.0, r.1))
    (c.requires.tells.alone c.if-note-eq1.true)

pub bounds-near-1 : goal.bounds-near-1
bounds-near-1 c =
    let a = c.args in
    let z = a.self.now in
    let l = around z a.qx a.qy in
    let e : l ≡ a.i ∷ (a.note - 2) / 2 ∷ []
    = c.requires.tells.before ((a.note - 2) / 2) (omega (arith, c.if-note-eq0-2.true, c.if-note-eq1.false, c.if-note-eq0.false)) in
    let n : length l ≡ 2 = ap length e in
    simp length-set (omega (arith, n, c.requires.room.0, c.requires.searchable.promised.short (Within a.qx a.qy z.radius)))

pub returns-then-note-eq0-2 : goal.returns-then-note-eq0-2
returns-then-note-eq0-2 c =
    let a = c.args in
    let z = a.self.now in
    let l = around z a.qx a.qy in
    let e : l ≡ a.i ∷ (a.note - 2) / 2 ∷ []
    = c.requires.tells.before ((a.note - 2) / 2) (omega (arith, c.if-note-eq0-2.true, c.if-note-eq1.false, c.if-note-eq0.false)) in
    list-two z.len a.near.now l a.i ((a.note - 2) / 2) (c.requires.searchable.promised.short (Within a.qx a.qy z.radius))
    c.requires.room.0 e

pub bounds-near-1-2 : goal.bounds-near-1-2
bounds-near-1-2 c =
    let a = c.args in
    let z = a.self.now in
    let l = around z a.qx a.qy in
    let e : l ≡ (a.note - 2) / 2 ∷ a.i ∷ []
    = c.requires.tells.behind ((a.note - 2) / 2) (omega (arith, c.if-note-eq0-2.false, c.if-note-eq1.false, c.if-note-eq0.false)) in
    let n : length l ≡ 2 = ap length e in
    simp length-set (omega (arith, n, c.requires.room.0, c.requires.searchable.promised.short (Within a.qx a.qy z.radius)))

pub returns : goal.returns
returns c =
    let a = c.args in
    let z = a.self.now in
    let l = around z a.qx a.qy in
    let e : l ≡ (a.note - 2) / 2 ∷ a.i ∷ []
    = c.requires.tells.behind ((a.note - 2) / 2) (omega (arith, c.if-note-eq0-2.false, c.if-note-eq1.false, c.if-note-eq0.false)) in
    list-two z.len a.near.now l ((a.note - 2) / 2) a.i (c.requires.searchable.promised.short (Within a.qx a.qy z.radius))
    c.requires.room.0 e
