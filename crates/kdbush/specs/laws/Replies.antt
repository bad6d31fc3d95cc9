-- Any two replies that meet the contract of a public function of this crate are equal, and so are any two columns that they leave.
-- Assumes nothing.
use Rattle.std.specs.Prelude.{◌≡◌, List, ℕ, Float, Result}
use Rattle.floats.specs.laws.Replies.{same-reply}
use Rattle.kdsort.specs.Cols.{IndexCols}
use Rattle.kdslots.specs.declared.Query.{Query}
use Rattle.refusals.specs.declared.Refusal.{Refusal}
use Rattle.kdbush.specs.Reply.{index_checked, built, listed, listed_column, searched, column_after}

pub build-replies : (size : ℕ) (xs ys : List Float) (s : IndexCols) (r t : Result (Unit {0}) Refusal) → r ≡ index_checked size xs ys s
    → t ≡ index_checked size xs ys s → r ≡ t
build-replies size xs ys s r t = same-reply

pub build-columns : (size : ℕ) (xs ys : List Float) (s u v : IndexCols) → u ≡ built size xs ys s → v ≡ built size xs ys s → u ≡ v
build-columns size xs ys s u v = same-reply

-- `search`, which is below the surface
pub list-replies : (q : Query) (size n : ℕ) (ids : List ℕ) (co : List Float) (room : ℕ) (r t : Result ℕ Refusal)
    → r ≡ listed q size n ids co room → t ≡ listed q size n ids co room → r ≡ t
list-replies q size n ids co room r t = same-reply

pub list-columns : (q : Query) (size n : ℕ) (ids : List ℕ) (co : List Float) (out u v : List ℕ) → u ≡ listed_column q size n ids co out
    → v ≡ listed_column q size n ids co out → u ≡ v
list-columns q size n ids co out u v = same-reply

-- `range` and `within`
pub search-replies : (q : Query) (size n : ℕ) (ids : List ℕ) (co : List Float) (room : ℕ) (r t : Result ℕ Refusal)
    → r ≡ searched q size n ids co room → t ≡ searched q size n ids co room → r ≡ t
search-replies q size n ids co room r t = same-reply

pub search-columns : (q : Query) (size n : ℕ) (ids : List ℕ) (co : List Float) (out u v : List ℕ) → u ≡ column_after q size n ids co out
    → v ≡ column_after q size n ids co out → u ≡ v
search-columns q size n ids co out u v = same-reply
