-- What a search with an allowance replies and leaves in the lent column, by the tests of its definition; and SCOPE's numbers of the reply.
-- Definitions only.
use Rattle.std.specs.Prelude.{false, cond, List, ℕ, min, leb, ltb, length, Result, Ok, Err}
use Rattle.kdbush.specs.Run.{sound, whole, filled}
use Rattle.ask_effort_tests.specs.declared.Effort.{Effort}
use Rattle.ask_effort_tests.specs.declared.EffortRefusal.{EffortRefusal}
use Rattle.ask_effort_tests.specs.declared.EffortRefusal.TheVariants.{Box, NoRoom, Spoiled}
use Rattle.ask_effort_tests.specs.Trials.{Mark, items}

-- ---- SCOPE's number of a reply, and what it carries

-- what was found within the allowance, or a refusal
abbrev pub EffortReply : Type 0
EffortReply = Result Effort EffortRefusal

abbrev pub effort_number_of : EffortRefusal → ℕ
effort_number_of Box = 9
effort_number_of (NoRoom e) = 10
effort_number_of Spoiled = 11

abbrev pub effort_number : EffortReply → ℕ
effort_number (Ok e) = 0
effort_number (Err r) = effort_number_of r

-- nothing found, nothing tested, not stopped
abbrev pub no_effort : Effort
no_effort = record { items = 0; tested = 0; stopped = false }

abbrev pub effort_carried_of : EffortRefusal → Effort
effort_carried_of Box = no_effort
effort_carried_of (NoRoom e) = e
effort_carried_of Spoiled = no_effort

abbrev pub effort_carried : EffortReply → Effort
effort_carried (Ok e) = e
effort_carried (Err r) = effort_carried_of r

-- ---- the reply and the column, over an index of n

-- of the tests ms the first a are made, or all; it stops where there are more of them
abbrev pub effort_of : ℕ → List Mark → Effort
effort_of a ms = record { items = length (items a ms); tested = min a (length ms); stopped = ltb a (length ms) }

-- 10 where the places found before the stop are more than the column holds
abbrev pub effort_fitted : Effort → ℕ → EffortReply
effort_fitted e room = cond (leb e.items room) (Ok e) (Err (NoRoom e))

-- 11 where one of them is past the table, and otherwise by the room
abbrev pub answer : ℕ → List Mark → ℕ → ℕ → EffortReply
answer n ms a room = cond (whole n (items a ms)) (effort_fitted (effort_of a ms) room) (Err Spoiled)

-- the places before the first that is past the table, as many as fit, and then the old contents
abbrev pub column : ℕ → List Mark → ℕ → List ℕ → List ℕ
column n ms a out = filled (sound n (items a ms)) out
