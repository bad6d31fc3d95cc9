-- The build of the index: the slots filled from the points, then sorted by the shape, axis x first, then alternating. Definitions only.
use Rattle.std.specs.Prelude.{List, ℕ, zero, suc, ◌+◌, ◌-◌, ◌*◌, length, get_or, set, Float}
use Rattle.std.specs.Float.{nan}
use Rattle.kdsort.specs.Cols.{IndexCols, index_cols}
use Rattle.kdsort.specs.Shape.{Shape, leaf, node, shape}
use Rattle.kdsort.specs.Select.{selected}

-- the slots from lo up to hi sorted on the axis a: the median is selected, then the part left of it is sorted on the other axis, then the
-- part right of it
unfoldable pub sorted : ℕ → ℕ → ℕ → Shape → IndexCols → IndexCols
unfolding selected
sorted a lo hi (leaf x y) s = s
sorted a lo hi (node m r l) s = sorted (1 - a) (m + 1) hi r (sorted (1 - a) lo m l (selected a m s lo (hi - 1)))

-- the first i slots filled from the points: slot p has the id p and the coordinates of point p
unfoldable pub filled_slots : ℕ → List Float → List Float → IndexCols → IndexCols
filled_slots zero xs ys s = s
filled_slots (suc i) xs ys s =
    let s' = filled_slots i xs ys s in
    index_cols (set s'.ids i i) (set (set s'.co (2 * i) (get_or xs i nan)) (2 * i + 1) (get_or ys i nan))

-- the index of the points with the node size n, in the first slots of the columns: an interval of more than n + 1 slots is split
unfoldable pub indexed : ℕ → List Float → List Float → IndexCols → IndexCols
unfolding sorted filled_slots shape
indexed n xs ys s = sorted 0 0 (length xs) (shape (n + 1) 0 (length xs)) (filled_slots (length xs) xs ys s)
