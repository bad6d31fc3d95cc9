-- A build as a C caller sees it: SCOPE's number, what is carried, where the tables start and how long they are, and the lent columns
-- afterwards. Definitions only.
use Rattle.std.specs.Prelude.{List, ℕ}
use Rattle.std.specs.Prelude.{Result, Ok, Err}
use Rattle.refusals.specs.declared.Refusal.{Refusal}
use Rattle.refusals.specs.Refusals.{number_of, carried_of}
use Rattle.build_tables.specs.declared.State.{State}
use Rattle.supercluster.specs.Build.{BuildColumns}
use Rattle.owners.specs.LoadedWith.{OwnedOutcome}

-- the reply, as numbers
pub record Replied : Type 0 where
  pub number : ℕ
  pub carried : ℕ
  pub starts : List ℕ
  pub lens : List ℕ

abbrev pub replied : ℕ → ℕ → List ℕ → List ℕ → Replied
replied n k starts lens = record { number = n; carried = k; starts = starts; lens = lens }

-- what it comes to, with arrays of these old contents for starts and lengths: a refusal leaves them
abbrev pub replied_of : Result State Refusal → List ℕ → List ℕ → Replied
replied_of (Ok s) starts lens = replied 0 0 s.starts s.lens
replied_of (Err e) starts lens = replied (number_of e) (carried_of e) starts lens

-- the reply with the columns, and that of the owners
pub record Laid : Type 0 where
  pub told : Replied
  pub columns : BuildColumns
  pub owners : List ℕ

abbrev pub laid : Replied → BuildColumns → List ℕ → Laid
laid r c own = record { told = r; columns = c; owners = own }

abbrev pub laid_of : OwnedOutcome → List ℕ → List ℕ → Laid
laid_of q starts lens = laid (replied_of q.build.reply starts lens) q.build.columns q.owners
