-- The answer of a question that lists: how many items, or a refusal, and how long an answer a column has room for. SCOPE's number of an
-- answer, and what it carries, are those of refusals/specs/Refusals. Definitions only.
use Rattle.std.specs.Prelude.{cond, ℕ, leb, Result, Ok, Err}
use Rattle.refusals.specs.declared.Refusal.{Refusal}
use Rattle.refusals.specs.declared.Refusal.TheVariants.{NoRoom}

abbrev pub Answer : Type 0
Answer = Result ℕ Refusal

-- k items for a column of so many
abbrev pub fitted : ℕ → ℕ → Answer
fitted k room = cond (leb k room) (Ok k) (Err (NoRoom k))
