-- The definition computes: the index of seven points at node size 1, in columns that are longer than it needs. The arrangement is the
-- Rust's. Assumes nothing.
use Rattle.std.specs.Prelude.{◌≡◌, refl, false, List, [], ◌∷◌, ℕ, negsuc, Float}
use Rattle.std.specs.Float.{fin}
use Rattle.std.specs.Float.Ieee.{lt, eq}
use Rattle.kdsort.specs.Cols.{IndexCols, index_cols, swap_co, swap_ids}
use Rattle.kdsort.specs.Shape.{shape, split}
use Rattle.kdsort.specs.Select.{up, down, passes, parted, sel, selected}
use Rattle.kdsort.specs.Sort.{sorted, filled_slots, indexed}

-- n eighths, for an odd n
abbrev e : ℕ → Float
e n = fin false n (negsuc 2)

abbrev xs : List Float
xs = e 5 ∷ e 3 ∷ e 7 ∷ e 1 ∷ e 3 ∷ e 5 ∷ e 1 ∷ []

abbrev ys : List Float
ys = e 1 ∷ e 7 ∷ e 3 ∷ e 5 ∷ e 3 ∷ e 5 ∷ e 1 ∷ []

abbrev lent : IndexCols
lent = index_cols (8 ∷ 8 ∷ 8 ∷ 8 ∷ 8 ∷ 8 ∷ 8 ∷ 8 ∷ [])
    (e 9 ∷ e 9 ∷ e 9 ∷ e 9 ∷ e 9 ∷ e 9 ∷ e 9 ∷ e 9 ∷ e 9 ∷ e 9 ∷ e 9 ∷ e 9 ∷ e 9 ∷ e 9 ∷ e 9 ∷ [])

pub seven-ids : (indexed 1 xs ys lent).ids ≡ 6 ∷ 4 ∷ 3 ∷ 1 ∷ 0 ∷ 2 ∷ 5 ∷ 8 ∷ []
unfolding indexed sorted filled_slots shape split selected sel parted passes up down swap_co swap_ids lt eq
seven-ids = refl

pub seven-coords : (indexed 1 xs ys lent).co ≡ e 1 ∷ e 1 ∷ e 3 ∷ e 3 ∷ e 1 ∷ e 5 ∷ e 3 ∷ e 7 ∷ e 5 ∷ e 1 ∷ e 7 ∷ e 3 ∷ e 5 ∷ e 5 ∷ e 9 ∷ []
unfolding indexed sorted filled_slots shape split selected sel parted passes up down swap_co swap_ids lt eq
seven-coords = refl
