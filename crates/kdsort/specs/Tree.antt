-- What is said of a built index: its slots are those that it was built from, each with its id and its two coordinates, and they are in
-- the order of the tree. Definitions only.
use Rattle.std.specs.Prelude.{◌≡◌, not, List, ℕ, ◌+◌, ◌-◌, ◌*◌, ◌<◌, ◌≤◌, T, length, get_or, Float}
use Rattle.std.specs.Float.{nan}
use Rattle.std.specs.Float.Ieee.{le, is_nan}
use Rattle.kdsort.specs.Cols.{IndexCols, key}
use Rattle.kdsort.specs.Shape.{Shape, leaf, node, shape}

-- s' has the slots of s, those from l to r in another order and every other in its place: slot p of s' is slot `from p` of s
pub record Permuted (l r : ℕ) (s s' : IndexCols) : Type 0 where
  pub from : ℕ → ℕ
  pub to : ℕ → ℕ
  pub there : (p : ℕ) → to (from p) ≡ p
  pub back : (p : ℕ) → from (to p) ≡ p
  pub inside : (p : ℕ) → l ≤ p → p ≤ r → (l ≤ from p) × (from p ≤ r)
  pub before : (p : ℕ) → p < l → from p ≡ p
  pub after : (p : ℕ) → r < p → from p ≡ p
  pub id-of : (p : ℕ) → get_or s'.ids p 0 ≡ get_or s.ids (from p) 0
  pub key_of : (a p : ℕ) → a < 2 → key a s'.co p ≡ key a s.co (from p)
  pub ids-long : length s'.ids ≡ length s.ids
  pub co-long : length s'.co ≡ length s.co

-- no coordinate from l to r is a NaN
unfoldable pub Numbers : ℕ → ℕ → IndexCols → Type 0
Numbers l r s = (a p : ℕ) → a < 2 → l ≤ p → p ≤ r → T (not (is_nan (key a s.co p)))

-- on the axis a, what stands from lo up to m is at most the coordinate at m, and what stands after m up to hi at least that
pub record Around (a m lo hi : ℕ) (c : List Float) : Type 0 where
  pub left : (p : ℕ) → lo ≤ p → p < m → T (le (key a c p) (key a c m))
  pub right : (p : ℕ) → m < p → p < hi → T (le (key a c m) (key a c p))

-- the order of the tree: each interval that is split is in order around its median, and each side so on the other axis
unfoldable pub Kd : List Float → ℕ → ℕ → ℕ → Shape → Type 0
Kd c a lo hi (leaf x y) = Unit {0}
Kd c a lo hi (node m r l) = Around a m lo hi c × Kd c (1 - a) lo m l × Kd c (1 - a) (m + 1) hi r

-- no coordinate of the points is a NaN
unfoldable pub Points : List Float → List Float → Type 0
Points xs ys = (p : ℕ) → p < length xs → T (not (is_nan (get_or xs p nan))) × T (not (is_nan (get_or ys p nan)))

-- what a built index of the points (x, y) is: each slot holds one point, by its id, each point has one slot, the slots are in the tree's
-- order, and what lies past them is as it was
pub record Index (n : ℕ) (xs ys : List Float) (s S : IndexCols) : Type 0 where
  pub id-in : (p : ℕ) → p < length xs → get_or S.ids p 0 < length xs
  pub x-of : (p : ℕ) → p < length xs → key 0 S.co p ≡ get_or xs (get_or S.ids p 0) nan
  pub y_of : (p : ℕ) → p < length xs → key 1 S.co p ≡ get_or ys (get_or S.ids p 0) nan
  pub slot_of : ℕ → ℕ
  pub slot-in : (q : ℕ) → q < length xs → slot_of q < length xs
  pub id-back : (q : ℕ) → q < length xs → get_or S.ids (slot_of q) 0 ≡ q
  pub slot-back : (p : ℕ) → p < length xs → slot_of (get_or S.ids p 0) ≡ p
  pub ids-rest : (p : ℕ) → length xs ≤ p → get_or S.ids p 0 ≡ get_or s.ids p 0
  pub co-rest : (p : ℕ) → 2 * length xs ≤ p → get_or S.co p nan ≡ get_or s.co p nan
  pub ids-long : length S.ids ≡ length s.ids
  pub co-long : length S.co ≡ length s.co
  pub tree : Kd S.co 0 0 (length xs) (shape (n + 1) 0 (length xs))
