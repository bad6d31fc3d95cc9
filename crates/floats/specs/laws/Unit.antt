-- The values from 0 to 1, `In01`: what the test passes is one, and such a value is finite and no NaN. Assumes nothing.
use Rattle.std.specs.Prelude.{not, T, Float}
use Rattle.std.specs.Float.Ieee.{le, is_nan}
use Rattle.std.specs.Float.Ieee.Fits.{and_i, and_l, and_r}
use Rattle.std.specs.Float.Ieee.Scale.{finite}
use Rattle.floats.specs.Numbers.{zero, one}
use Rattle.floats.specs.laws.Order.{le-right-number, between-finite}
use Rattle.floats.specs.Unit.{in01}

-- from 0 to 1
abbrev pub In01 : Float → Type 0
In01 x = T (le zero x) × T (le x one)

-- the test says so, and what is so passes it
pub in01→In01 : (x : Float) → T (in01 x) → In01 x
in01→In01 x t = (and_l (le zero x) (le x one) t, and_r (le zero x) (le x one) t)

pub In01→in01 : (x : Float) → In01 x → T (in01 x)
In01→in01 x h = and_i (le zero x) (le x one) h.0 h.1

-- such a value is a number, and finite
pub In01-not-nan : (x : Float) → In01 x → T (not (is_nan x))
In01-not-nan x h = le-right-number zero x h.0

pub In01-finite : (x : Float) → In01 x → T (finite x)
In01-finite x h = between-finite zero x one tt tt h.0 h.1
