-- `exports::look_up` meets its contract: each refusal is one of `entry_asked`, in its order. Assumes nothing.
use Rattle.std.proofs.Common.{◌≡◌, true, sym, ap, ◌∙◌, arith}
use Rattle.build_tables.specs.Sound.{state_ok}
use Rattle.build_tables.specs.Room.{room_of}
use Rattle.build_tables.specs.Lent.{tables_held}
use Rattle.exports.proofs.Reading.{Built, read-spoiled, read_low, read-high, read_past, read_at, small, reach, long, entry-is}
use Rattle.exports.proofs.look_up.Goals as goal

pub returns-then-not-is_sound : goal.returns-then-not-is_sound
returns-then-not-is_sound c =
    let a = c.args in
    read-spoiled a.s.now (tables_held a.t.now) a.zoom a.place
    (sym (ap (state_ok a.s.now) c.room.ensures) ∙ sym c.is_sound.ensures ∙ c.if-not-is_sound.true)

pub returns-then-zoom-o : goal.returns-then-zoom-o
returns-then-zoom-o c =
    let a = c.args in
    let good = sym (ap (state_ok a.s.now) c.room.ensures) ∙ sym c.is_sound.ensures ∙ c.if-not-is_sound.false in
    read_low a.s.now (tables_held a.t.now) a.zoom a.place good c.if-zoom-o.true

pub returns-then-o-zoom : goal.returns-then-o-zoom
returns-then-o-zoom c =
    let a = c.args in
    let good = sym (ap (state_ok a.s.now) c.room.ensures) ∙ sym c.is_sound.ensures ∙ c.if-not-is_sound.false in
    read-high a.s.now (tables_held a.t.now) a.zoom a.place good c.if-zoom-o.false c.if-o-zoom.true

pub len_of-len-requires : goal.len_of-len-requires
len_of-len-requires c =
    let a = c.args in
    let good = sym (ap (state_ok a.s.now) c.room.ensures) ∙ sym c.is_sound.ensures ∙ c.if-not-is_sound.false in
    small a.s.now (tables_held a.t.now) a.zoom (record { good = good; low = c.if-zoom-o.false; high = c.if-o-zoom.false })

pub returns-then-len-place : goal.returns-then-len-place
returns-then-len-place c =
    let a = c.args in
    let k = tables_held a.t.now in
    let good = sym (ap (state_ok a.s.now) c.room.ensures) ∙ sym c.is_sound.ensures ∙ c.if-not-is_sound.false in
    let b : Built a.s.now k a.zoom = record { good = good; low = c.if-zoom-o.false; high = c.if-o-zoom.false } in
    read_past a.s.now k a.zoom a.place b c.len_of-len.ensures c.if-len-place.true

pub table_in-table-requires : goal.table_in-table-requires
table_in-table-requires c =
    let a = c.args in
    let k = tables_held a.t.now in
    let good = sym (ap (state_ok a.s.now) c.room.ensures) ∙ sym c.is_sound.ensures ∙ c.if-not-is_sound.false in
    let b : Built a.s.now k a.zoom = record { good = good; low = c.if-zoom-o.false; high = c.if-o-zoom.false } in
    reach a.s.now k a.zoom b c.start_of-start.ensures c.len_of-len.ensures

pub at-requires : goal.at-requires
at-requires c =
    let a = c.args in
    let k = tables_held a.t.now in
    let good = sym (ap (state_ok a.s.now) c.room.ensures) ∙ sym c.is_sound.ensures ∙ c.if-not-is_sound.false in
    let b : Built a.s.now k a.zoom = record { good = good; low = c.if-zoom-o.false; high = c.if-o-zoom.false } in
    let w = long a.s.now k a.zoom b c.start_of-start.ensures c.len_of-len.ensures c.table_in-table.result c.table_in-table.ensures.entries in
    omega (arith, w, c.if-len-place.false)

pub returns : goal.returns
returns c =
    let a = c.args in
    let k = tables_held a.t.now in
    let good = sym (ap (state_ok a.s.now) c.room.ensures) ∙ sym c.is_sound.ensures ∙ c.if-not-is_sound.false in
    let b : Built a.s.now k a.zoom = record { good = good; low = c.if-zoom-o.false; high = c.if-o-zoom.false } in
    let n = c.len_of-len.ensures in
    read_at a.s.now k a.zoom a.place _ b n c.if-len-place.false
    (entry-is a.s.now k a.zoom b c.start_of-start.ensures n c.table_in-table.result c.table_in-table.ensures.entries a.place c.at.ensures)
