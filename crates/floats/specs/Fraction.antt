-- What a finite float has above 0: the number over its denominator. Definitions only.
use Rattle.std.specs.Prelude.{ℕ, ◌*◌, true, false, Float}
use Rattle.std.specs.Float.{nan, inf, fin}
use Rattle.std.specs.Float.Ieee.{up}

abbrev pub plus : Float → ℕ
plus nan = 0
plus (inf s) = 0
plus (fin false m e) = m * up e
plus (fin true m e) = 0
