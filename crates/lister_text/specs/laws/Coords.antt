-- A coordinate is k / 65,536 exactly: no NaN, and within [0, 1] where k is at most 65,536. Assumes nothing.
use Rattle.std.specs.Prelude.{ℕ, ◌+◌, ◌-◌, ◌*◌, ◌^◌, ◌<◌, ◌≤◌, Bool, true, false, not, ◌≡◌, refl, T, leb, ℤ, pos, Float}
use Rattle.std.proofs.Common.{ap, sym, subst, ◌∙◌, mul_assoc, mul_comm, mul-one, lt_of_lt_of_le, arith, leb→le, shl_lt}
use Rattle.std.specs.Float.{nan, inf, fin, binary64}
use Rattle.std.specs.Float.Ieee.{low, up, down, round, div, of_int, is_nan, le, to_bits}
use Rattle.std.specs.Float.Ieee.Exact.{HasValue, round_exact}
use Rattle.std.specs.Float.Ieee.Fits.{down_pos}
use Rattle.std.specs.Float.Ieee.Scale.{round_same}
use Rattle.std.specs.Float.Ieee.Order.{le_of_values}
use Rattle.lister_text.specs.Values.{coord_of}

-- j below 1,075 units up, k stays below the largest value
room : (k j : ℕ) → k ≤ 9999999 → T (leb (2 ^ (24 + j)) (2 ^ 2098)) → k * 2 ^ j < 2 ^ 2098
room k j h fine = lt_of_lt_of_le (shl_lt 24 j (omega arith)) (leb→le (2 ^ (24 + j)) (2 ^ 2098) fine)

whole : (k : ℕ) → k ≤ 9999999 → HasValue (of_int binary64 (pos k)) false k 1
unfolding of_int
whole k h = round_exact binary64 false k 1 k (low binary64) (omega arith) (omega arith) (room k 1074 h tt) (sym (mul-one _))

module _ (s : Bool) (m : ℕ) (e : ℤ) (a : ℕ) (h : m * up e * 1 ≡ a * down e) where
  crossed : m * up e * 1 * 65536 ≡ a * (65536 * down e)
  crossed = ap (λ (x : ℕ). x * 65536) h ∙ mul_assoc a (down e) 65536 ∙ ap (λ (x : ℕ). a * x) (mul_comm (down e) 65536)

div-by : (x : Float) (a : ℕ) → HasValue x false a 1 → div binary64 x (fin false 1 (pos 16)) ≡ round binary64 false a 65536
unfolding div
div-by nan a h = absurd h
div-by (inf s) a h = absurd h
div-by (fin true m e) a h = let z : ◌≡◌ {A = ℕ} 0 1 = cc in let y : ⊥ = omega arith in absurd y
div-by (fin false m e) a h =
    round_same binary64 false (m * up e * 1) (65536 * down e) a 65536 (omega (arith, down_pos e)) (omega arith) (crossed false m e a h.1)

pub coord-is : (k : ℕ) → k ≤ 9999999 → coord_of k ≡ round binary64 false k 65536
coord-is k h = div-by (of_int binary64 (pos k)) k (whole k h)

pub coord-value : (k : ℕ) → k ≤ 9999999 → HasValue (coord_of k) false k 65536
coord-value k h = subst (λ (x : Float). HasValue x false k 65536) (sym (coord-is k h))
    (round_exact binary64 false k 65536 k (low binary64 - 16) (omega arith) (omega arith) (room k 1058 h tt)
    (sym (mul_assoc k (2 ^ 1058) 65536)))

no_nan : (x : Float) (a c : ℕ) → HasValue x false a c → T (not (is_nan x))
unfolding is_nan
no_nan nan a c h = absurd h
no_nan (inf s) a c h = absurd h
no_nan (fin s m e) a c h = tt

pub coord-number : (k : ℕ) → k ≤ 9999999 → T (not (is_nan (coord_of k)))
coord-number k h = no_nan (coord_of k) k 65536 (coord-value k h)

pub coord-least : (k : ℕ) → k ≤ 9999999 → T (le (fin false 0 (pos 0)) (coord_of k))
coord-least k h = le_of_values (fin false 0 (pos 0)) (coord_of k) 0 1 k 65536 (omega arith) (omega arith) (refl, refl) (coord-value k h)
    (omega arith)

pub coord-most : (k : ℕ) → k ≤ 65536 → T (le (coord_of k) (fin false 1 (pos 0)))
coord-most k h = le_of_values (coord_of k) (fin false 1 (pos 0)) k 65536 1 1 (omega arith) (omega arith) (coord-value k (omega arith))
    (refl, refl) (omega arith)

-- 16,384 prints as 3fd0000000000000
example : to_bits binary64 (coord_of 16384) ≡ 0x3fd0_0000_0000_0000
unfolding to_bits div of_int
example = refl
