-- What a search that is not refused leaves of the neighbours in the lent column. Assumes nothing.
use Rattle.std.specs.Prelude.{◌≡◌, refl, true, List, ◌++◌, ℕ, T, length, take, drop, Float}
use Rattle.std.proofs.Common.{take_at}
use Rattle.std.specs.Float.Ieee.{le}
use Rattle.std.specs.Float.Ieee.Scale.{finite}
use Rattle.floats.specs.Numbers.{zero as fzero}
use Rattle.floats.specs.laws.Fraction.{is_true}
use Rattle.kdslots.specs.declared.Query.TheVariants.{Within}
use Rattle.kdslots.specs.Query.{query_ok}
use Rattle.build_tables.specs.declared.Entry.{Entry}

-- an entry at a finite place
abbrev pub Placed : Entry → Type 0
Placed e = T (finite e.x) × T (finite e.y)

-- a radius that a search takes
abbrev pub Radius : Float → Type 0
Radius r = T (finite r) × T (le fzero r)

pub query-fine : (x y r : Float) → T (finite x) → T (finite y) → Radius r → query_ok (Within x y r) ≡ true
query-fine x y r a b c = rw (is_true (finite x) a, is_true (finite y) b, is_true (finite r) c.0, is_true (le fzero r) c.1)

-- what a search leaves: the places at the front of the column, and their number
pub record Answered (l : List ℕ) (new : List ℕ) (k : ℕ) : Type 0 where
  pub count : k ≡ length l
  pub front : take k new ≡ l

pub answered : (l old new : List ℕ) (k : ℕ) → k ≡ length l → new ≡ l ++ drop (length l) old → Answered l new k
answered l old new k e f = record { count = e; front = rw (e, f) (take_at l (drop (length l) old) (length l) refl) }
