-- #102, of a build that `load` accepts: a box that SCOPE takes is answered within every allowance, with the effort of its tests and by the
-- room alone; any other is 9; and none is ever refused 11. The whole statement is `EffortOfBuild`, the last of this file. Proved shows
-- that it holds. Definitions only.
use Rattle.std.specs.Prelude.{◌≡◌, true, false, ℕ, Float, Ok, Err}
use Rattle.range.specs.declared.CoordinateSystem.{CoordinateSystem}
use Rattle.build_tables.specs.declared.State.{State}
use Rattle.build_tables.specs.Room.{Columns}
use Rattle.ask_box_plan.specs.Rule.{box_ok}
use Rattle.supercluster.specs.Build.{BuildColumns}
use Rattle.law_answers.specs.Stored.{columns_of}
use Rattle.law_answers.specs.laws.Stored.{loaded_of}
use Rattle.ask_effort_tests.specs.declared.EffortRefusal.TheVariants.{Box, Spoiled}
use Rattle.ask_effort_tests.specs.Reply.{effort_of, effort_fitted}
use Rattle.ask_base.specs.Asked.{refused}
use Rattle.ask_effort.specs.Effort.{EffortAsked, effort_reply_of, effort_asked}
use Rattle.ask_effort.specs.StatedEffort.{tests_of}
use Rattle.law_builds.specs.Given.{Given}

-- of one box, in a coordinate system
pub record EffortAnswered (c : CoordinateSystem) (west least east greatest : Float) (x : EffortAsked) : Type 0 where
  pub taken : box_ok c west least east greatest ≡ true → (a room : ℕ) → effort_reply_of x a room ≡ effort_fitted (effort_of a (tests_of x)) room
  pub refused-box : box_ok c west least east greatest ≡ false → x ≡ refused Box
  pub never-spoiled : (a room : ℕ) → effort_reply_of x a room ≡ Err Spoiled → ⊥

-- the box at a zoom, asked of a state and its columns: the reply of `effort_box` is `effort_reply_of` of this
abbrev pub effort_at : State → Columns → ℕ → Float → Float → Float → Float → EffortAsked
effort_at st c zoom west least east greatest = effort_asked st c.ids c.coords zoom west least east greatest

-- of the state that `load` replies and the columns that it leaves, where it refuses nothing; at every zoom, built or not, for every box
abbrev pub EffortOfBuild : Type 0
EffortOfBuild =
    (G : Given) (l : BuildColumns) (s : State) → (loaded_of G l).reply ≡ Ok s → (zoom : ℕ) (west least east greatest : Float)
    → EffortAnswered G.options.coordinate_system west least east greatest
    (effort_at s (columns_of (loaded_of G l).columns) zoom west least east greatest)
