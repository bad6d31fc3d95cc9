-- A float rounded to a whole number by its exact value, a half away from zero: what Rust's `.round()` answers. Definitions only.
use Rattle.std.specs.Prelude.{ℕ, ◌+◌, ◌*◌, ◌/◌, cond, ℤ, pos, neg_ℤ, Float}
use Rattle.std.specs.Float.{nan, inf, fin}
use Rattle.std.specs.Float.Ieee.Positive.{num, den}

-- the size of x is num / den, and the whole number nearest to it is the whole part of size + 1 / 2
abbrev pub away_n : Float → ℕ
away_n x = (2 * num x + den x) / (2 * den x)

-- the same with x's sign; what is no finite number gives 0
unfoldable pub away : Float → ℤ
away nan = pos 0
away (inf s) = pos 0
away (fin s m e) = cond s (neg_ℤ (pos (away_n (fin s m e)))) (pos (away_n (fin s m e)))
