-- How an interval of slots is split, whatever the slots hold: at its middle, until at most `most` slots are left. Build and searches go by
-- this one shape. Slots are counted from lo up to, not including, hi. Definitions only.
use Rattle.std.specs.Prelude.{true, false, ℕ, zero, suc, ◌+◌, ◌-◌, ◌/◌, leb}

-- a leaf holds the slots from lo up to, not including, hi; a node its median, the part right of it and the part left of it
pub data Shape : Type 0 where
  leaf : ℕ → ℕ → Shape
  node : ℕ → Shape → Shape → Shape

-- the middle of the slots from lo up to hi: (left + right) / 2 where right is hi - 1
abbrev pub mid : ℕ → ℕ → ℕ
mid lo hi = lo + (hi - lo - 1) / 2

-- f bounds how deep the splitting goes
unfoldable pub split : ℕ → ℕ → ℕ → ℕ → Shape
split most zero lo hi = leaf lo hi
split most (suc f) lo hi =
    elim (leb (hi - lo) most) [
      | true ↦ leaf lo hi
      | false ↦ node (mid lo hi) (split most f (mid lo hi + 1) hi) (split most f lo (mid lo hi))
    ]

-- the shape of the slots from lo up to hi
unfoldable pub shape : ℕ → ℕ → ℕ → Shape
unfolding split
shape most lo hi = split most (hi - lo) lo hi
