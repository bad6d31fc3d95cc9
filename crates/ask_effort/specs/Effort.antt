-- What a box question with a stated effort comes to, over whatever the lent columns hold: a refusal before any test, or the tests of the
-- definition of its search in the table of the zoom used, of which the allowance takes the first. Definitions only.
use Rattle.std.specs.Prelude.{cond, not, List, ℕ, Float, Err}
use Rattle.kdslots.specs.declared.Query.{Query}
use Rattle.build_tables.specs.declared.State.{State}
use Rattle.build_tables.specs.Options.{zoom_used}
use Rattle.build_tables.specs.State.{len_of}
use Rattle.build_tables.specs.Sound.{state_ok}
use Rattle.build_tables.specs.Room.{index_room}
use Rattle.ask_base.specs.Columns.{ids_at, coords_at}
use Rattle.ask_base.specs.Asked.{AskedFor, refused, told}
use Rattle.ask_box_plan.specs.Rule.{plan_of, box_ok}
use Rattle.ask_effort_tests.specs.declared.EffortRefusal.{EffortRefusal}
use Rattle.ask_effort_tests.specs.declared.EffortRefusal.TheVariants.{Box, Spoiled}
use Rattle.ask_effort_tests.specs.Trials.{Mark, trials}
use Rattle.ask_effort_tests.specs.Reply.{EffortReply, answer, column}

-- what such a question comes to: the tests, over a table of so many entries
abbrev pub EffortAsked : Type 0
EffortAsked = AskedFor EffortRefusal ℕ Mark

-- the reply, for an allowance and a column of so many
abbrev pub effort_reply_of : EffortAsked → ℕ → ℕ → EffortReply
effort_reply_of (refused r) a room = Err r
effort_reply_of (told n ms) a room = answer n ms a room

-- the column afterwards
abbrev pub effort_column_of : EffortAsked → ℕ → List ℕ → List ℕ
effort_column_of (refused r) a out = out
effort_column_of (told n ms) a out = column n ms a out

-- the tests of queries in the table of zoom z
abbrev pub sought_at : State → List ℕ → List Float → ℕ → List Query → EffortAsked
sought_at s ids co z qs = told (len_of s z) (trials qs s.options.node_size (len_of s z) (ids_at s ids z) (coords_at s co z))

-- the box (west, least y, east, greatest y) at a zoom: refusals as for a box, the state (11), then the numbers (9)
unfoldable pub effort_asked : State → List ℕ → List Float → ℕ → Float → Float → Float → Float → EffortAsked
effort_asked s ids co zoom west least east greatest =
    let c = s.options.coordinate_system in
    cond (not (state_ok s (index_room ids co))) (refused Spoiled)
    (cond (not (box_ok c west least east greatest)) (refused Box)
    (sought_at s ids co (zoom_used s.options zoom) (plan_of c west least east greatest)))
