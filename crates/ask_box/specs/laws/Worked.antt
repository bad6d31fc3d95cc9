-- Boxes worked from the definitions: one whose first half grows to the whole row, so that an entry is listed twice; and 11 in the walk
-- comes before 10. Assumes nothing.
use Rattle.std.specs.Prelude.{◌≡◌, refl, true, false, ℕ, set, replicate, Float, Err}
use mathlib.Core.List.{List, [], ◌∷◌, flat_map}
use Rattle.std.specs.Float.Ieee.{le, lt, eq, neg, round, sum, add, sub, div, rem, of_int}
use Rattle.floats.specs.Numbers.{zero, half, one, float}
use Rattle.range.specs.declared.CoordinateSystem.TheVariants.{LatLng}
use Rattle.range.specs.Range.{mercator_x, converted, system_in_bounds}
use Rattle.kdsort.specs.Shape.{shape, split}
use Rattle.kdslots.specs.declared.Query.TheVariants.{Within}
use Rattle.kdslots.specs.Query.{query_ok}
use Rattle.kdslots.specs.Slots.{scanned, slots}
use Rattle.kdbush.specs.Run.{places, sound, whole}
use Rattle.build_tables.specs.declared.State.{State}
use Rattle.build_tables.specs.Options.{options_ok}
use Rattle.build_tables.specs.Sound.{packed, state_ok}
use Rattle.refusals.specs.declared.Refusal.TheVariants.{NoRoom, Box, Spoiled}
use Rattle.ask_base.specs.Asked.{refused, told, answer_of, column_of}
use Rattle.ask_box_plan.specs.Rule.{half_circle, wrapped, new_west, new_east, plan_of}
use Rattle.ask_box_plan.specs.laws.Worked.{west, east}
use Rattle.ask_box.specs.Lists.{box_asked}

-- ---- the box, over lamps at -180, -170, 0, 170 and 180

-- table 1 has the five lamps, table 0 one entry
abbrev state : State
state =
    record {
      options = record {
        min_zoom = 0;
        max_zoom = 0;
        min_points = 2;
        radius = zero;
        extent = one;
        node_size = 64;
        coordinate_system = LatLng;
        longitude_strips_only = false;
      };
      count = 5;
      starts = set (replicate 32 0) 0 5;
      lens = set (set (replicate 32 0) 0 1) 1 5;
    }

abbrev ids : List ℕ
ids = 0 ∷ 1 ∷ 2 ∷ 3 ∷ 4 ∷ 0 ∷ []

abbrev coords : List Float
coords =
    mercator_x (neg half_circle) ∷ half ∷ mercator_x east ∷ half ∷ mercator_x zero ∷ half ∷ mercator_x
    (float 170) ∷ half ∷ mercator_x half_circle ∷ half
    ∷ half ∷ half ∷ []

-- all five, and then the first two again; the zoom is lowered to 1
pub worked-box : box_asked state ids coords 9 west zero east one ≡ told true (0 ∷ 1 ∷ 2 ∷ 3 ∷ 4 ∷ 0 ∷ 1 ∷ [])
unfolding box_asked flat_map plan_of new_west new_east wrapped converted mercator_x of_int neg add sub div sum rem round le lt eq state_ok packed
    options_ok system_in_bounds places slots scanned shape split sound whole
worked-box = refl

-- a column of six is told that there are seven, and has the first six
pub worked-room : answer_of (box_asked state ids coords 9 west zero east one) 6 ≡ Err (NoRoom 7)
worked-room = rw worked-box

pub worked-column : column_of (box_asked state ids coords 9 west zero east one) (replicate 6 9) ≡ 0 ∷ 1 ∷ 2 ∷ 3 ∷ 4 ∷ 0 ∷ []
worked-column = rw worked-box

-- a slot that names the place 5 ends the walk, whatever the room: 11 before 10
abbrev spoilt : List ℕ
spoilt = 0 ∷ 1 ∷ 2 ∷ 5 ∷ 4 ∷ 0 ∷ []

pub worked-spoilt : box_asked state spoilt coords 9 west zero east one ≡ told false (0 ∷ 1 ∷ 2 ∷ [])
unfolding box_asked flat_map plan_of new_west new_east wrapped converted mercator_x of_int neg add sub div sum rem round le lt eq state_ok packed
    options_ok system_in_bounds places slots scanned shape split sound whole
worked-spoilt = refl

pub worked-spoilt-room : answer_of (box_asked state spoilt coords 9 west zero east one) 2 ≡ Err Spoiled
worked-spoilt-room = rw worked-spoilt

-- a y above 1 is refused 9; a column of five places is too short for the tables, and that comes first
pub worked-y : box_asked state ids coords 9 west zero east (float 2) ≡ refused Box
unfolding box_asked of_int neg add sub div sum round le lt eq state_ok packed options_ok system_in_bounds
worked-y = refl

pub worked-short : box_asked state (0 ∷ 1 ∷ 2 ∷ 3 ∷ 4 ∷ []) coords 9 west zero east (float 2) ≡ refused Spoiled
unfolding box_asked le lt eq state_ok packed options_ok system_in_bounds
worked-short = refl

-- ---- the ring: a radius of -0.0 is not negative

pub worked-radius : (query_ok (Within half half (neg zero)) ≡ true) × (query_ok (Within half half (neg one)) ≡ false)
unfolding neg le
worked-radius = (refl, refl)
