-- The index's two columns, and the exchange of two slots. Slot p has the id `ids p` and the coordinates `co (2 * p)` and `co (2 * p +
-- 1)`; the axis is 0 for x and 1 for y. Definitions only.
use Rattle.std.specs.Prelude.{List, ℕ, ◌+◌, ◌*◌, get_or, set, replicate, Float}
use Rattle.std.specs.Float.{nan}

-- the two lent columns
pub record IndexCols : Type 0 where
  pub ids : List ℕ
  pub co : List Float

abbrev pub index_cols : List ℕ → List Float → IndexCols
index_cols l c = record { ids = l; co = c }

-- columns that hold n slots and nothing yet
abbrev pub blank : ℕ → IndexCols
blank n = index_cols (replicate n 0) (replicate (2 * n) nan)

-- the coordinate of the slot p on the axis a
abbrev pub key : ℕ → List Float → ℕ → Float
key a c p = get_or c (2 * p + a) nan

-- what stands at i and at j, exchanged
abbrev pub swap : {A : Type 0} → A → List A → ℕ → ℕ → List A
swap d xs i j = set (set xs i (get_or xs j d)) j (get_or xs i d)

unfoldable pub swap_ids : List ℕ → ℕ → ℕ → List ℕ
swap_ids l i j = swap 0 l i j

unfoldable pub swap_co : List Float → ℕ → ℕ → List Float
swap_co c i j = swap nan (swap nan c (2 * i) (2 * j)) (2 * i + 1) (2 * j + 1)

-- the slots i and j exchanged: the id and both coordinates
abbrev pub swap_item : IndexCols → ℕ → ℕ → IndexCols
swap_item s i j = index_cols (swap_ids s.ids i j) (swap_co s.co i j)
