-- How many slots a query answers, or the refusal of its search. Definitions only.
use Rattle.std.specs.Prelude.{List, ℕ, length, Float, Result, Ok, Err}
use Rattle.refusals.specs.declared.Refusal.{Refusal}
use Rattle.kdslots.specs.declared.Query.{Query}
use Rattle.kdwalk.specs.Reply.{Step, ending, walk}

-- by how the walk ends; it does not end with a slot
abbrev pub ended_with : Step → ℕ → Result ℕ Refusal
ended_with (Ok o) k = Ok k
ended_with (Err e) k = Err e

unfoldable pub counted_of : Query → ℕ → ℕ → List Float → Result ℕ Refusal
counted_of q size n co = ended_with (ending q size n co) (length (walk q size n co))
