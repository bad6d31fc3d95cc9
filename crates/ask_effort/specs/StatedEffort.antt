-- #102, a box search with a stated effort: what is said of the reply of `effort_box` and of what it leaves in the column, beside
-- `list_box` for the same box. The whole statement is `StatedEffort`, the last of this file: over any state and any columns. Proved shows
-- that it holds. Definitions only.
use Rattle.std.specs.Prelude.{◌≡◌, Bool, true, false, ◌⊎◌, List, [], ◌++◌, ℕ, ◌*◌, ◌≤◌, ◌<◌, min, length, Float, Ok, Err}
use Rattle.kdbush.specs.Run.{sound}
use Rattle.build_tables.specs.declared.State.{State}
use Rattle.refusals.specs.declared.Refusal.TheVariants.{Box as Refusal-as-Box, NoRoom as Refusal-as-NoRoom, Spoiled as Refusal-as-Spoiled}
use Rattle.ask_base.specs.Answers.{Answer}
use Rattle.ask_base.specs.Asked.{Asked, refused, told, answer_of, column_of as box_column}
use Rattle.ask_box.specs.Lists.{box_asked}
use Rattle.ask_effort_tests.specs.declared.EffortRefusal.TheVariants.{Box, NoRoom, Spoiled}
use Rattle.ask_effort_tests.specs.Trials.{Mark, items}
use Rattle.ask_effort_tests.specs.Reply.{EffortReply, effort_number, effort_carried}
use Rattle.ask_effort.specs.Effort.{EffortAsked, effort_reply_of, effort_column_of, effort_asked}

-- the tests that the definition of the search makes; of a box that is split, those of both halves
abbrev pub tests_of : EffortAsked → List Mark
tests_of (refused r) = []
tests_of (told n ms) = ms

-- what an allowance lists: the places that its tests find, before the first that is past the table
abbrev pub effort_list : EffortAsked → ℕ → List ℕ
effort_list (refused r) a = []
effort_list (told n ms) a = sound n (items a ms)

-- a reply without its effort
abbrev pub plain : EffortReply → Answer
plain (Ok e) = Ok e.items
plain (Err Box) = Err Refusal-as-Box
plain (Err (NoRoom e)) = Err (Refusal-as-NoRoom e.items)
plain (Err Spoiled) = Err Refusal-as-Spoiled

-- a reply that carries an effort: what was found, or 10
abbrev pub Carries : EffortReply → Type 0
Carries r = (effort_number r ≡ 0) ⊎ (effort_number r ≡ 10)

-- of a box question with an effort, beside the box without one, for a build of so many lamps
pub record Stated (x : EffortAsked) (box : Asked) (count : ℕ) : Type 0 where
  -- it carries how many places are listed and how many slots were tested, as many as the allowance or all that the definition of the
  -- search tests
  pub items : (a room : ℕ) → Carries (effort_reply_of x a room) → (effort_carried (effort_reply_of x a room)).items ≡ length (effort_list x a)
  pub tested : (a room : ℕ) → Carries (effort_reply_of x a room) → (effort_carried (effort_reply_of x a room)).tested ≡ min a (length (tests_of x))
  -- and whether a test was left, which is not so of an allowance of just so many
  pub stopped : (a room : ℕ) → Carries (effort_reply_of x a room) → (effort_carried (effort_reply_of x a room)).stopped ≡ true
      → a < length (tests_of x)
  pub not_stopped : (a room : ℕ) → Carries (effort_reply_of x a room) → (effort_carried (effort_reply_of x a room)).stopped ≡ false
      → length (tests_of x) ≤ a
  -- a larger allowance only adds to the list
  pub kept : (a b : ℕ) → a ≤ b → (more : List ℕ) × (effort_list x b ≡ effort_list x a ++ more)
  -- a list is a beginning of what the box without an effort lists
  pub begins : (a : ℕ) (ok : Bool) (l : List ℕ) → box ≡ told ok l → (more : List ℕ) × (l ≡ effort_list x a ++ more)
  -- where no test is left, the reply is that of the box, and so is the column
  pub full : (a : ℕ) → length (tests_of x) ≤ a → (out : List ℕ)
      → (plain (effort_reply_of x a (length out)) ≡ answer_of box (length out)) × (effort_column_of x a out ≡ box_column box out)
  -- there are at most two tests for each lamp
  pub most : length (tests_of x) ≤ 2 * count

-- of every state and all columns, at every zoom, for every box
abbrev pub StatedEffort : Type 0
StatedEffort =
    (st : State) (ids : List ℕ) (co : List Float) (zoom : ℕ) (west least east greatest : Float)
    → Stated (effort_asked st ids co zoom west least east greatest) (box_asked st ids co zoom west least east greatest) st.count
