-- The floats that the laws and the code name: each definition once. Assumes nothing.
use Rattle.std.specs.Prelude.{ℕ, false, pos, negsuc, Float}
use Rattle.std.specs.Float.{fin, binary64}
use Rattle.std.specs.Float.Ieee.{of_int}

abbrev pub zero : Float
zero = fin false 0 (pos 0)

abbrev pub half : Float
half = fin false 1 (negsuc 0)

abbrev pub one : Float
one = fin false 1 (pos 0)

abbrev pub two : Float
two = fin false 1 (pos 1)

-- 2 ^ 16, the largest radius and the largest extent
abbrev pub pow16 : Float
pow16 = fin false 1 (pos 16)

-- 2 ^ 31, the largest power of the table
abbrev pub pow31 : Float
pow31 = fin false 1 (pos 31)

-- 2 ^ 48, the largest size that a tile's coordinate can have
abbrev pub pow48 : Float
pow48 = fin false 1 (pos 48)

-- the whole number n as a float: exact up to 2 ^ 53
abbrev pub float : ℕ → Float
float n = of_int binary64 (pos n)
