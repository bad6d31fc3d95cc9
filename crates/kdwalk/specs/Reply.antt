-- The steps of a walk over the answered slots, for every input: SCOPE's refusals in its order, and otherwise the answer, one slot at a
-- time. Definitions only.
use Rattle.std.specs.Prelude.{cond, ◌&&◌, List, [], ◌∷◌, ℕ, ltb, length, Float, Option, Some, None, Result, Ok, Err}
use Rattle.refusals.specs.declared.Refusal.{Refusal}
use Rattle.refusals.specs.declared.Refusal.TheVariants.{Box, Spoiled}
use Rattle.kdslots.specs.declared.Query.{Query}
use Rattle.kdslots.specs.Query.{query_ok}
use Rattle.kdslots.specs.Slots.{answers}
use Rattle.kdslots.specs.Bounds.{coords_ok}
use Rattle.kdwalk.specs.Cursor.{rest_of}

-- a step of a walk over the answered slots: the next slot, none at the end, or a refusal
abbrev pub Step : Type 0
Step = Result (Option ℕ) Refusal

-- the slot that a step carries, or the largest usize where it carries none
abbrev pub step_carried : Step → ℕ
step_carried (Ok (Some i)) = i
step_carried (Ok None) = 18446744073709551615
step_carried (Err e) = 18446744073709551615

-- the first of the list, or how it ends
abbrev pub next_step : Step → List ℕ → Step
next_step e [] = e
next_step e (i ∷ l) = Ok (Some i)

-- whether a walk may begin: refusals 11, 9, in this order
abbrev pub walk_checked : Query → ℕ → ℕ → List Float → Result (Unit {0}) Refusal
walk_checked q size n co = cond (coords_ok size n (length co)) (cond (query_ok q) (Ok tt) (Err Box)) (Err Spoiled)

-- how a walk ends: with a refusal that it began with, or done
abbrev pub ending : Query → ℕ → ℕ → List Float → Step
ending q size n co = cond (coords_ok size n (length co)) (cond (query_ok q) (Ok None) (Err Box)) (Err Spoiled)

-- the slots that a walk goes over: none where it is refused
abbrev pub walk : Query → ℕ → ℕ → List Float → List ℕ
walk q size n co = cond (coords_ok size n (length co) && query_ok q) (answers q co size n) []

unfoldable pub first_step : Query → ℕ → ℕ → List Float → Step
first_step q size n co = next_step (ending q size n co) (walk q size n co)

-- what follows the slot c; a slot past the index has nothing after it
abbrev pub walk_after : Query → ℕ → ℕ → List Float → ℕ → List ℕ
walk_after q size n co c = cond (coords_ok size n (length co) && query_ok q && ltb c n) (rest_of q co size n c) []

unfoldable pub after_step : Query → ℕ → ℕ → List Float → ℕ → Step
after_step q size n co c = next_step (ending q size n co) (walk_after q size n co c)
