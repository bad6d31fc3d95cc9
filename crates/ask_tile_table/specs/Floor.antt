-- The tile of a zoom that holds a coordinate, along one axis: floor of c * 2^z on the exact value of c, 1.0 belonging to the last tile.
-- Definitions only.
use Rattle.std.specs.Prelude.{ℕ, min, ◌-◌, ◌*◌, ◌/◌, ◌^◌, Float}
use Rattle.std.specs.Float.Ieee.Positive.{den}
use Rattle.floats.specs.Fraction.{plus}

-- floor of c * n, on the exact value of c, which is plus / den for a c that is not negative
abbrev pub floor_of : ℕ → Float → ℕ
floor_of n c = plus c * n / den c

-- floor of c * 2^z; 1.0 is in the last tile
unfoldable pub home_of : ℕ → Float → ℕ
home_of z c = min (floor_of (2 ^ z) c) (2 ^ z - 1)
