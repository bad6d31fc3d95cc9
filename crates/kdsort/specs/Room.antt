-- What the steps of the build ask of their caller: the slots lie within the columns, and there is a coordinate of each axis for a slot.
-- Definitions only.
use Rattle.std.specs.Prelude.{ℕ, ◌+◌, ◌*◌, ◌<◌, ◌≤◌, length}
use Rattle.kdsort.specs.Cols.{IndexCols}

-- the slots from l to r of the columns, on the axis a
pub record Room (s : IndexCols) (l r a : ℕ) : Type 0 where
  pub below : r < length s.ids
  pub pairs : 2 * r + 1 < length s.co
  pub order : l ≤ r
  pub axis : a < 2

-- a cut at slot k of more than one slot, in columns of n ids and m coordinates
pub record Here (k l r a n m : ℕ) : Type 0 where
  pub lr : l < r
  pub lk : l ≤ k
  pub kr : k ≤ r
  pub rn : r < n
  pub nm : 2 * r + 1 < m
  pub a2 : a < 2
