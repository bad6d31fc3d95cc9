-- The slots that a search answers, in its order: those of an interval that is not split one by one; of any other the median first, where
-- it passes, next what lies right of it, and last what lies left. Definitions only.
use Rattle.std.specs.Prelude.{Bool, true, false, List, [], ◌∷◌, ◌++◌, ℕ, zero, suc, ◌+◌, ◌-◌, Float}
use Rattle.kdsort.specs.Cols.{key}
use Rattle.kdsort.specs.Shape.{Shape, leaf, node, shape}
use Rattle.kdslots.specs.declared.Query.{Query}
use Rattle.kdslots.specs.Query.{passes_q, goes_left, goes_right}

-- a search: whether a slot passes, and whether the part right of a median and the part left of it are gone into, on the axis on which it
-- is split
pub record Search : Type 0 where
  pub test : ℕ → Bool
  pub right : ℕ → ℕ → Bool
  pub left : ℕ → ℕ → Bool

-- the list, where the test holds
abbrev pub when : Bool → List ℕ → List ℕ
when true l = l
when false l = []

-- the k slots from i on that pass
unfoldable pub scanned : Search → ℕ → ℕ → List ℕ
scanned s i zero = []
scanned s i (suc k) = when (s.test i) (i ∷ []) ++ scanned s (i + 1) k

-- the slots answered in a shape: of a node the median, then the part right of it, then the part left of it
unfoldable pub slots : Search → ℕ → Shape → List ℕ
unfolding scanned
slots s ax (leaf lo hi) = scanned s lo (hi - lo)
slots s ax (node m r l) =
    when (s.test m) (m ∷ []) ++ (when (s.right ax m) (slots s (1 - ax) r) ++ when (s.left ax m) (slots s (1 - ax) l))

-- a query over the coordinates of an index: a part is skipped by the median's coordinate on the axis
abbrev pub over : Query → List Float → Search
over q cs = record {
  test = λ i. passes_q q (key 0 cs i) (key 1 cs i);
  right = λ ax m. goes_right q ax (key ax cs m);
  left = λ ax m. goes_left q ax (key ax cs m);
}

-- the slots of an index of n that a query answers, for a node size
abbrev pub answers : Query → List Float → ℕ → ℕ → List ℕ
answers q cs size n = slots (over q cs) 0 (shape (size + 1) 0 n)
