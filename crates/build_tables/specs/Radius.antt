-- The radius of a zoom, in the tables' units. Definitions only.
use Rattle.std.specs.Prelude.{ℕ, ◌^◌, Float}
use Rattle.std.specs.Float.{binary64}
use Rattle.std.specs.Float.Ieee.{mul, div}
use Rattle.floats.specs.Numbers.{float}

-- radius / (extent * 2^zoom)
unfoldable pub radius_at : Float → Float → ℕ → Float
radius_at radius extent z = div binary64 radius (mul binary64 extent (float (2 ^ z)))
