-- The test `in01` that code runs: whether a float lies from 0 to 1. Definitions only.
use Rattle.std.specs.Prelude.{Bool, ◌&&◌, Float}
use Rattle.std.specs.Float.Ieee.{le}
use Rattle.floats.specs.Numbers.{zero, one}

-- the test that code runs, `0.0 <= x && x <= 1.0`
abbrev pub in01 : Float → Bool
in01 x = le zero x && le x one
