-- `replay_vectors::float_of` meets its contract: each pattern of a NaN is NaN, which 0 / 0 is, and the others are no NaN's. Assumes
-- nothing.
-- each pattern of a NaN is NaN
use Prim.Native.Nat.{ℕ, ◌/◌, ◌%◌}
use mathlib.Core.Path.{◌≡◌, sym, ◌∙◌}
use mathlib.Core.Bool.{Bool, true, ◌&&◌, not, and-eq-true_iff}
use borrow.Author.Tests.{eqb-true, not-true}
use lib.Ieee.{binary64, nan, top, hid, of_fields, div, of_bits, nan_bits}
use lib.Dec.{eqb, leb}
use Rattle.replay_vectors.proofs.float_of.Goals as goal

nan-by : (s : Bool) (x t : ℕ) → (eqb x 2047 && not (eqb t 0)) ≡ true → of_fields binary64 s x t ≡ nan
unfolding of_fields
nan-by s x t h =
    let w = (and-eq-true_iff (eqb x 2047) (not (eqb t 0))).0 h in
    rw (eqb-true x 2047 w.0, not-true (eqb t 0) w.1)

nan-of : (n : ℕ) → nan_bits binary64 n ≡ true → of_bits binary64 n ≡ nan
unfolding nan_bits of_bits
nan-of n h = nan-by (leb (top binary64) n) (n % top binary64 / hid binary64) (n % hid binary64) h

pub returns-then-is_nan_pattern : goal.returns-then-is_nan_pattern
unfolding of_bits of_fields div
returns-then-is_nan_pattern c = sym (nan-of c.args.bits (sym c.is_nan_pattern.ensures ∙ c.if-is_nan_pattern.true))

pub float_from_bits-result : goal.float_from_bits-result
float_from_bits-result c = rw (sym c.is_nan_pattern.ensures ∙ c.if-is_nan_pattern.false) tt
