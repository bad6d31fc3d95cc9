-- What the comparisons are: of a build's reply, state and columns with what is expected. Definitions only.
use Rattle.std.specs.Prelude.{ℕ, Bool, true, false, ◌&&◌, List, ◌++◌, eqb, length, drop, replicate, Float, Result, Ok, Err, Option, Some, None}
use Rattle.std.specs.Bool.{beq}
use Rattle.replay_vectors.specs.Words.{agreeing}
use Rattle.replay_vectors.specs.Same.{same_places, same_floats}
use Rattle.range.specs.declared.DataRange.{DataRange}
use Rattle.range.specs.declared.CoordinateSystem.{CoordinateSystem}
use Rattle.range.specs.declared.CoordinateSystem.TheVariants.{LatLng, Cartesian}
use Rattle.build_tables.specs.declared.Options.{Options}
use Rattle.build_tables.specs.declared.State.{State}
use Rattle.build_tables.specs.Lent.{tables_held}
use Rattle.refusals.specs.declared.Refusal.{Refusal}
use Rattle.supercluster.specs.Build.{BuildColumns, build_columns, Outcome, loaded}
use Rattle.replay_load.specs.declared.Wanted.{Wanted}

-- a column with zeros in its first n
abbrev pub zeros_in : ℕ → List ℕ → List ℕ
zeros_in n l = replicate n 0 ++ drop n l

-- the columns that are expected
abbrev pub wanted : Wanted → BuildColumns
wanted w = build_columns (tables_held w.tables).table w.tables.ids.now w.tables.coords.now w.near.now

-- both derived, or both given as the same number
abbrev pub same_setting : Option Float → Option Float → Bool
same_setting (Some v) (Some w) = agreeing v w
same_setting (Some v) None = false
same_setting None (Some w) = false
same_setting None None = true

-- the same four numbers, offset and scale
unfoldable pub same_range : DataRange → DataRange → Bool
same_range a b =
    agreeing a.min_x b.min_x && agreeing a.min_y b.min_y
    && agreeing a.max_x b.max_x && agreeing a.max_y b.max_y
    && same_setting a.offset b.offset && same_setting a.scale b.scale

-- both longitude, or both Cartesian with the same range
abbrev pub same_system : CoordinateSystem → CoordinateSystem → Bool
same_system LatLng LatLng = true
same_system LatLng (Cartesian r) = false
same_system (Cartesian r) LatLng = false
same_system (Cartesian r) (Cartesian s) = same_range r s

-- the same options: those that are numbers or a choice, and all
abbrev pub same_numbers : Options → Options → Bool
same_numbers a b =
    eqb a.min_zoom b.min_zoom && eqb a.max_zoom b.max_zoom
    && eqb a.min_points b.min_points && eqb a.node_size b.node_size
    && beq a.longitude_strips_only b.longitude_strips_only

unfoldable pub same_options : Options → Options → Bool
same_options a b =
    same_numbers a b && agreeing a.radius b.radius && agreeing a.extent b.extent
    && same_system a.coordinate_system b.coordinate_system

-- the tables start where they are expected to, and are as long, and the state has the number of points and the options as given
unfoldable pub same_state : Options → ℕ → List ℕ → List ℕ → State → Bool
same_state o n starts lens s = same_places starts s.starts && same_places lens s.lens && eqb n s.count && same_options o s.options

-- a build is not refused, and its state is that expected
abbrev pub state_is : Options → ℕ → List ℕ → List ℕ → Result State Refusal → Bool
state_is o n starts lens (Ok s) = same_state o n starts lens s
state_is o n starts lens (Err e) = false

-- what a build replied and left: it was not refused, and its state and its columns are those expected, to their ends
unfoldable pub agrees_with : Options → ℕ → List ℕ → List ℕ → BuildColumns → Outcome → Bool
agrees_with o n starts lens want got =
    let w = want.table in
    let g = got.columns in
    let t = g.table in
    state_is o n starts lens got.reply
    && same_floats w.x t.x && same_floats w.y t.y && same_places w.seen t.seen
    && same_places w.id t.id && same_places w.parent t.parent
    && same_places w.num t.num && same_places w.energy t.energy
    && same_places want.ids g.ids && same_floats want.coords g.coords && same_places want.near g.near

-- the build of these points in these columns
unfoldable pub loads_to : Options → List Float → List Float → List ℕ → List ℕ → List ℕ → BuildColumns → BuildColumns → Bool
loads_to o xs ys energies starts lens want columns = agrees_with o (length xs) starts lens want (loaded o xs ys energies columns)
