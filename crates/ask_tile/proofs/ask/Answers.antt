-- `ask_tile::ask` meets its contract: a sound state has the table of the zoom used, and what is cut out of the columns is that table.
-- Assumes nothing.
use Rattle.std.proofs.Common.{◌≡◌, ℕ, ◌+◌, ◌≤◌, length, refl, sym, ap, ◌∙◌, subst, arith}
use Rattle.std.proofs.Math.ListN.{get_or}
use Rattle.build_tables.specs.Sound.{state_ok}
use Rattle.build_tables.specs.Room.{room_of}
use Rattle.build_tables.specs.Rows.{Cols}
use Rattle.build_tables.specs.Lent.{tables_held}
use Rattle.build_tables.specs.laws.Columns.{part-long}
use Rattle.ask_tile_table.specs.laws.Framed.{tile-is}
use Rattle.ask_tile.specs.Asked.{whole_state}
use Rattle.ask_tile.specs.laws.Used.{spot, asks}
use Rattle.ask_tile.specs.laws.Ends.{refused-spoiled, refused-no-tile}
use Rattle.ask_tile.proofs.ask.Goals as goal

pub returns-then-not-is_sound : goal.returns-then-not-is_sound
returns-then-not-is_sound c =
    let a = c.args in
    let s = whole_state a.s.now in
    refused-spoiled s (tables_held a.t.now) a.z a.x a.y
    (sym (c.is_sound.ensures ∙ ap (state_ok s) c.room.ensures) ∙ c.if-not-is_sound.true)

pub returns-then-not-is_tile : goal.returns-then-not-is_tile
returns-then-not-is_tile c =
    let a = c.args in
    let s = whole_state a.s.now in
    refused-no-tile s (tables_held a.t.now) a.z a.x a.y
    (sym (c.is_sound.ensures ∙ ap (state_ok s) c.room.ensures) ∙ c.if-not-is_sound.false)
    (sym c.is_tile.ensures ∙ c.if-not-is_tile.true)

pub bounds-s-u : goal.bounds-s-u
bounds-s-u c =
    let a = c.args in
    let s = whole_state a.s.now in
    let p = spot s (tables_held a.t.now) a.z
    (sym (c.is_sound.ensures ∙ ap (state_ok s) c.room.ensures) ∙ c.if-not-is_sound.false) in
    omega (arith, p.table, c.zoom_used-u.ensures)

pub bounds-s-u-2 : goal.bounds-s-u-2
bounds-s-u-2 c =
    let a = c.args in
    let s = whole_state a.s.now in
    let p = spot s (tables_held a.t.now) a.z
    (sym (c.is_sound.ensures ∙ ap (state_ok s) c.room.ensures) ∙ c.if-not-is_sound.false) in
    omega (arith, p.table, c.zoom_used-u.ensures)

pub table_in-table-requires : goal.table_in-table-requires
table_in-table-requires c =
    let a = c.args in
    let s = whole_state a.s.now in
    let p = spot s (tables_held a.t.now) a.z
    (sym (c.is_sound.ensures ∙ ap (state_ok s) c.room.ensures) ∙ c.if-not-is_sound.false) in
    subst (λ (u : ℕ). get_or s.starts u 0 + get_or s.lens u 0 ≤ room_of (tables_held a.t.now)) (sym c.zoom_used-u.ensures) p.ends

pub invariant_of-result : goal.invariant_of-result
invariant_of-result c =
    let a = c.args in
    let s = whole_state a.s.now in
    let p = spot s (tables_held a.t.now) a.z
    (sym (c.is_sound.ensures ∙ ap (state_ok s) c.room.ensures) ∙ c.if-not-is_sound.false) in
    let l : length c.table_in-table.result.entries.x.now ≡ get_or s.lens c.zoom_used-u.result 0 =
    ap (λ (k : Cols). length k.x) c.table_in-table.ensures.entries
    ∙ part-long (get_or s.starts c.zoom_used-u.result 0) (get_or s.lens c.zoom_used-u.result 0) a.t.now.x.now
    (rw c.zoom_used-u.ensures p.rows-held.hx) in
    let n = rw c.zoom_used-u.ensures at l in
    record {
      in_bounds = p.bounds;
      is_tile = tile-is a.z a.x a.y (sym c.is_tile.ensures ∙ c.if-not-is_tile.false);
      some = omega (arith, n, p.some);
      most = omega (arith, n, p.most);
    }

pub returns : goal.returns
returns c =
    let a = c.args in
    let s = whole_state a.s.now in
    let e = c.zoom_used-u.ensures in
    let w = c.table_in-table.ensures in
    asks s (tables_held a.t.now) a.z a.x a.y _ (sym (c.is_sound.ensures ∙ ap (state_ok s) c.room.ensures) ∙ c.if-not-is_sound.false)
    (sym c.is_tile.ensures ∙ c.if-not-is_tile.false) refl refl refl refl (rw e at w.entries) (rw e at w.ids) (rw e at w.coords)
