-- A box within an effort worked from the definitions: the tests of both halves of a box that is split in one count, in the order
-- of the search; where it stops, where it has just enough, what is judged for 10, and a slot past the table that spoils it only where it
-- is come to. Assumes nothing.
use Rattle.std.specs.Prelude.{◌≡◌, refl, true, false, ℕ, set, replicate, Float, Ok, Err}
use mathlib.Core.List.{List, [], ◌∷◌, flat_map}
use Rattle.std.specs.Float.Ieee.{le, lt, eq, neg, round, sum, add, sub, div, rem, of_int}
use Rattle.floats.specs.Numbers.{zero, half, one, float}
use Rattle.range.specs.declared.CoordinateSystem.TheVariants.{LatLng}
use Rattle.range.specs.Range.{mercator_x, converted, system_in_bounds}
use Rattle.kdsort.specs.Shape.{shape, split}
use Rattle.kdslots.specs.Slots.{scanned, slots}
use Rattle.kdbush.specs.Run.{sound, whole}
use Rattle.build_tables.specs.declared.State.{State}
use Rattle.build_tables.specs.Options.{options_ok}
use Rattle.build_tables.specs.Sound.{packed, state_ok}
use Rattle.ask_box_plan.specs.Rule.{half_circle, wrapped, new_west, new_east, plan_of}
use Rattle.ask_box_plan.specs.laws.Worked.{west, east}
use Rattle.ask_effort_tests.specs.declared.EffortRefusal.TheVariants.{Box, NoRoom, Spoiled}
use Rattle.ask_effort_tests.specs.Trials.{mark, marks, hits}
use Rattle.ask_base.specs.Asked.{refused, told}
use Rattle.ask_effort.specs.Effort.{EffortAsked, effort_reply_of, effort_column_of, effort_asked}

-- lamps at -180, -170, 0, 170 and 180 in table 1, one entry in table 0, and two slots at most in an interval that is not split
abbrev state : State
state =
    record {
      options = record {
        min_zoom = 0;
        max_zoom = 0;
        min_points = 2;
        radius = zero;
        extent = one;
        node_size = 1;
        coordinate_system = LatLng;
        longitude_strips_only = false;
      };
      count = 5;
      starts = set (replicate 32 0) 0 5;
      lens = set (set (replicate 32 0) 0 1) 1 5;
    }

abbrev ids : List ℕ
ids = 0 ∷ 1 ∷ 2 ∷ 3 ∷ 4 ∷ 0 ∷ []

abbrev coords : List Float
coords =
    mercator_x (neg half_circle) ∷ half ∷ mercator_x east ∷ half ∷ mercator_x zero ∷ half ∷ mercator_x (float 170) ∷ half
    ∷ mercator_x half_circle ∷ half
    ∷ half ∷ half ∷ []

-- the box from -180.00000000000006 to -170: its first half is the whole row
abbrev asked : List ℕ → EffortAsked
asked is = effort_asked state is coords 9 west zero east one

-- the first half tests the median, the right part, and the left; the second its median, which does not pass, and the left part alone
pub worked-tests : asked ids
    ≡ told 5 (mark true 2 ∷ mark true 3 ∷ mark true 4 ∷ mark true 0 ∷ mark true 1 ∷ mark false 2 ∷ mark true 0 ∷ mark true 1 ∷ [])
unfolding effort_asked flat_map plan_of new_west new_east wrapped converted mercator_x of_int neg add sub div sum rem round le lt eq state_ok packed
    options_ok system_in_bounds slots scanned shape split marks
worked-tests = refl

-- six tests reach into the second half, and find nothing there
pub worked-stopped : effort_reply_of (asked ids) 6 9 ≡ Ok (record { items = 5; tested = 6; stopped = true })
unfolding hits whole
worked-stopped = rw worked-tests

-- eight are just enough
pub worked-enough : effort_reply_of (asked ids) 8 9 ≡ Ok (record { items = 7; tested = 8; stopped = false })
unfolding hits whole
worked-enough = rw worked-tests

pub worked-none : effort_reply_of (asked ids) 0 9 ≡ Ok (record { items = 0; tested = 0; stopped = true })
unfolding hits whole
worked-none = rw worked-tests

pub worked-column : effort_column_of (asked ids) 7 (replicate 8 9) ≡ 2 ∷ 3 ∷ 4 ∷ 0 ∷ 1 ∷ 0 ∷ 9 ∷ 9 ∷ []
unfolding hits sound
worked-column = rw worked-tests

-- a column of six: the six items of seven tests fit, and the seven of eight do not
pub worked-fits : effort_reply_of (asked ids) 7 6 ≡ Ok (record { items = 6; tested = 7; stopped = true })
unfolding hits whole
worked-fits = rw worked-tests

pub worked-room : effort_reply_of (asked ids) 8 6 ≡ Err (NoRoom (record { items = 7; tested = 8; stopped = false }))
unfolding hits whole
worked-room = rw worked-tests

-- a slot that names the place 5: four tests do not come to it, and the fifth does
abbrev spoilt : List ℕ
spoilt = 0 ∷ 5 ∷ 2 ∷ 3 ∷ 4 ∷ 0 ∷ []

pub worked-spoilt : asked spoilt
    ≡ told 5 (mark true 2 ∷ mark true 3 ∷ mark true 4 ∷ mark true 0 ∷ mark true 5 ∷ mark false 2 ∷ mark true 0 ∷ mark true 5 ∷ [])
unfolding effort_asked flat_map plan_of new_west new_east wrapped converted mercator_x of_int neg add sub div sum rem round le lt eq state_ok packed
    options_ok system_in_bounds slots scanned shape split marks
worked-spoilt = refl

pub worked-before : effort_reply_of (asked spoilt) 4 9 ≡ Ok (record { items = 4; tested = 4; stopped = true })
unfolding hits whole
worked-before = rw worked-spoilt

pub worked-come-to : (effort_reply_of (asked spoilt) 5 9 ≡ Err Spoiled)
    × (effort_column_of (asked spoilt) 5 (replicate 6 9) ≡ 2 ∷ 3 ∷ 4 ∷ 0 ∷ 9 ∷ 9 ∷ [])
unfolding hits whole sound
worked-come-to = rw worked-spoilt (refl, refl)

-- a y above 1 is refused 9; a column of five places is too short for the tables, and that comes first
pub worked-y : effort_asked state ids coords 9 west zero east (float 2) ≡ refused Box
unfolding effort_asked of_int neg add sub div sum round le lt eq state_ok packed options_ok system_in_bounds
worked-y = refl

pub worked-short : effort_asked state (0 ∷ 1 ∷ 2 ∷ 3 ∷ 4 ∷ []) coords 9 west zero east (float 2) ≡ refused Spoiled
unfolding effort_asked le lt eq state_ok packed options_ok system_in_bounds
worked-short = refl
