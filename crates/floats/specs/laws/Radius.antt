-- The radius of a zoom, radius / (extent * 2 ^ z), is from 0 to the radius, for an extent from 1 to 65,536 and z up to 31. Assumes nothing.
use Rattle.std.specs.Prelude.{◌≡◌, ℕ, ◌*◌, ◌^◌, ◌<◌, ◌≤◌, T, pos, Float}
use Rattle.std.proofs.Math.Path.{refl}
use Rattle.std.proofs.Common.{sym, ap, ◌∙◌, subst, le_trans, mul-le-mul_left, mul-pos, lit≤, pow_pos, pow_mono}
use Rattle.std.specs.Float.{binary64}
use Rattle.std.specs.Float.Ieee.{le, round, mul, div, of_int, fits}
use Rattle.std.specs.Float.Ieee.Scale.{finite}
use Rattle.std.specs.Float.Ieee.Positive.{positive, between}
use Rattle.floats.specs.Numbers.{zero, one, pow16, float}
use Rattle.floats.specs.laws.Order.{le-le-trans, between-finite}
use Rattle.floats.specs.laws.Signs.{div-nonneg}
use Rattle.floats.specs.laws.Monotone.{mul_mono, div-anti}
use Rattle.floats.specs.laws.Whole.{of_int-finite, of_int-positive, of_int-nonneg, of_int-mul-one, of_int-mono, of_int-one, of_int-mul}
use Rattle.floats.specs.laws.Exact.{div-one}

-- ---- the radius of a zoom: radius / (extent * 2 ^ z) is from 0 to the radius
pub power_le : (z : ℕ) → z ≤ 31 → 2 ^ z ≤ 2 ^ 31
power_le z h = pow_mono h

pub scale-positive : (extent : Float) (z : ℕ) → z ≤ 31 → T (le one extent) → T (le extent pow16)
    → T (positive (mul binary64 extent (float (2 ^ z)))) × T (le one (mul binary64 extent (float (2 ^ z))))
scale-positive extent z Z lo hi =
    let n = 2 ^ z in
    let p53 : n ≤ 2 ^ 53 = le_trans (power_le z Z) (lit≤ tt) in
    let fe : T (finite extent) = between-finite one extent pow16 tt tt lo hi in
    let fn : T (finite (float n)) = of_int-finite binary64 n p53 in
    let small : 2 ^ 16 * n ≤ 2 ^ 53 = le_trans (mul-le-mul_left (2 ^ 16) (power_le z Z)) (lit≤ tt) in
    let a : T (le (float n) (mul binary64 extent (float n))) = subst (λ (w : Float). T (le w (mul binary64 extent (float n))))
    (of_int-mul-one n (pow_pos z) p53) (mul_mono binary64 one extent (float n) tt fe fn (of_int-nonneg n) lo) in
    let b : T (le (mul binary64 extent (float n)) (float (2 ^ 16 * n))) = subst (λ (w : Float). T (le (mul binary64 extent (float n)) w))
    (sixteen n (pow_pos z) small) (mul_mono binary64 extent pow16 (float n) fe tt fn (of_int-nonneg n) hi) in (
      between (float n) (mul binary64 extent (float n)) (float (2 ^ 16 * n)) (of_int-positive binary64 n (pow_pos z) p53)
          (of_int-positive binary64 (2 ^ 16 * n) (mul-pos (pow_pos 16) (pow_pos z)) small) a b,
      le-le-trans one (float n) (mul binary64 extent (float n))
          (subst (λ (w : Float). T (le w (float n))) of_int-one (of_int-mono binary64 1 n (pow_pos z))) a,
    )
  where
    sixteen-is : of_int binary64 (pos (2 ^ 16)) ≡ pow16
    sixteen-is = unfold of_int round in refl

    sixteen : (n : ℕ) → 0 < n → 2 ^ 16 * n ≤ 2 ^ 53 → mul binary64 pow16 (float n) ≡ float (2 ^ 16 * n)
    sixteen n N h = ap (λ (w : Float). mul binary64 w (float n)) (sym sixteen-is) ∙ of_int-mul binary64 (2 ^ 16) n (pow_pos 16) N h

pub radius-bounds : (radius extent : Float) (z : ℕ) → z ≤ 31 → T (fits binary64 radius) → T (finite radius) → T (le zero radius)
    → T (le one extent) → T (le extent pow16)
    → T (le zero (div binary64 radius (mul binary64 extent (float (2 ^ z)))))
    × T (le (div binary64 radius (mul binary64 extent (float (2 ^ z)))) radius)
radius-bounds radius extent z Z t p a lo hi =
    let d = mul binary64 extent (float (2 ^ z)) in
    let s = scale-positive extent z Z lo hi in (
      div-nonneg binary64 radius d p s.0 a,
      subst (λ (w : Float). T (le (div binary64 radius d) w)) (div-one binary64 radius t p)
          (div-anti binary64 radius one d p a tt s.0 s.1),
    )
