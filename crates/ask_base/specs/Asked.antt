-- What a question comes to: a refusal before its walk, or what the walk finds; the answer and the column afterwards are read from it.
-- What is found are places or lamps, of a tile more than that, and of a stated effort the tests. Definitions only.
use Rattle.std.specs.Prelude.{Bool, true, false, List, ℕ, length, Err}
use Rattle.kdbush.specs.Run.{filled}
use Rattle.refusals.specs.declared.Refusal.{Refusal}
use Rattle.refusals.specs.declared.Refusal.TheVariants.{Spoiled}
use Rattle.ask_base.specs.Answers.{Answer, fitted}

-- refused by R, with nothing written; or what was found, A after A, and W, what is known of the walk as a whole
pub data AskedFor (R W A : Type 0) : Type 0 where
  refused : R → AskedFor R W A
  told : W → List A → AskedFor R W A

-- a question that lists places, or lamps, and whether its walk went to its end
abbrev pub Asked : Type 0
Asked = AskedFor Refusal Bool ℕ

-- the answer, for a column of so many: a walk that did not go to its end is refusal 11
abbrev pub answer_of : Asked → ℕ → Answer
answer_of (refused e) room = Err e
answer_of (told true l) room = fitted (length l) room
answer_of (told false l) room = Err Spoiled

-- the column afterwards: the first items, as many as fit, and then the old contents
abbrev pub column_of : Asked → List ℕ → List ℕ
column_of (refused e) out = out
column_of (told b l) out = filled l out
