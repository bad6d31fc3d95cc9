-- The powers 2 ^ 0 to 2 ^ 31 by their bits: (n + 1023) * 2 ^ 52 are the bits of 2 ^ n, and of no NaN, by one test that antt computes.
-- Assumes nothing.
use Rattle.std.specs.Prelude.{◌≡◌, ℕ, ◌+◌, ◌*◌, ◌^◌, ◌<◌, Bool, not, T}
use Rattle.std.specs.Float.{binary64}
use Rattle.std.specs.Float.Ieee.{round, of_int, of_bits, nan_bits}
use Rattle.floats.specs.Numbers.{float}
use Rattle.floats.specs.laws.Table.{at, same, same-is}

-- the bits of 2 ^ n
abbrev pub power_bits : ℕ → ℕ
power_bits n = (n + 1023) * 4503599627370496

right : ℕ → Bool
right n = same (of_bits binary64 (power_bits n)) (float (2 ^ n))

all_right : (n : ℕ) → n < 32 → T (right n)
unfolding right of_bits round of_int
all_right n h = at right 32 tt n h

-- they are: each of the 32 values
pub power-is : (n : ℕ) → n < 32 → of_bits binary64 (power_bits n) ≡ float (2 ^ n)
unfolding right
power-is n h = same-is (of_bits binary64 (power_bits n)) (float (2 ^ n)) (all_right n h)

-- and they are the bits of a number
abbrev pub is_number : ℕ → Bool
is_number n = not (nan_bits binary64 (power_bits n))

pub power-number : (n : ℕ) → n < 32 → T (is_number n)
unfolding nan_bits
power-number n h = at is_number 32 tt n h
