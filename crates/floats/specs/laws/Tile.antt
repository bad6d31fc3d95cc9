-- A tile's coordinate before it is rounded, extent * (cx * 2 ^ z - x) for a centre within [0,1] and a place x from -1 to 2 ^ 31, is
-- within 2 ^ 48 either way: what `round_away` asks. Assumes nothing.
use Rattle.std.specs.Prelude.{◌≡◌, ℕ, ◌^◌, ◌≤◌, false, T, pos, refl, Float}
use Rattle.std.proofs.Common.{◌∙◌, subst, le_trans, lit≤, pow_pos}
use Rattle.std.specs.Float.{fin}
use Rattle.std.specs.Float.Ieee.{binary64, le, round, neg, sum, add, sub, mul, of_int}
use Rattle.std.specs.Float.Ieee.Scale.{finite}
use Rattle.floats.specs.Numbers.{zero, one, pow16, pow31, pow48, float}
use Rattle.floats.specs.laws.Order.{le-le-trans, between-finite}
use Rattle.floats.specs.laws.Rounding.{neg-le}
use Rattle.floats.specs.laws.Signs.{mul_commutes, mul-neg}
use Rattle.floats.specs.laws.Monotone.{sub-mono, mul_mono, neg-finite}
use Rattle.floats.specs.laws.Whole.{of_int-mono}
use Rattle.floats.specs.laws.Unit.{In01}
use Rattle.floats.specs.laws.Centre.{Weighted, weigh-one}
use Rattle.floats.specs.laws.Radius.{power_le}

-- ---- a tile's coordinate: extent * (cx * 2 ^ z - x), for a place x from -1 to 2 ^ 31, is within 2 ^ 48 either way
-- 2 ^ 31 + 1
abbrev top : Float
top = fin false 2147483649 (pos 0)

low-is : sub binary64 zero pow31 ≡ neg pow31
unfolding sub neg add sum round
low-is = refl

top-is : sub binary64 pow31 (neg one) ≡ top
unfolding sub neg add sum round
top-is = refl

pub pow31-is : of_int binary64 (pos (2 ^ 31)) ≡ pow31
unfolding of_int round
pow31-is = refl

high-ok : T (le (mul binary64 pow16 top) pow48)
unfolding mul round le
high-ok = tt

low_ok : T (le (mul binary64 pow16 pow31) pow48)
unfolding mul round le
low_ok = tt

extent-nonneg : (extent : Float) → T (le one extent) → T (le zero extent)
extent-nonneg extent lo = le-le-trans zero one extent (unfold le in tt) lo

-- for any s from -2 ^ 31 to 2 ^ 31 + 1
scaled : (extent s : Float) → T (le one extent) → T (le extent pow16) → T (le (neg pow31) s) → T (le s top)
    → T (le (neg pow48) (mul binary64 extent s)) × T (le (mul binary64 extent s) pow48)
scaled extent s lo hi l r =
    let fe : T (finite extent) = between-finite one extent pow16 tt tt lo hi in
    let fs : T (finite s) = between-finite (neg pow31) s top (neg-finite pow31 tt) tt l r in
    let ne : T (le zero extent) = extent-nonneg extent lo in
    let a : T (le (mul binary64 s extent) (mul binary64 top extent)) = mul_mono binary64 s top extent fs tt fe ne r in
    let b : T (le (mul binary64 extent top) (mul binary64 pow16 top)) = mul_mono binary64 extent pow16 top fe tt tt (unfold le in tt) hi in
    let c : T (le (mul binary64 (neg pow31) extent) (mul binary64 s extent)) =
    mul_mono binary64 (neg pow31) s extent (neg-finite pow31 tt) fs fe ne l in
    let d : T (le (mul binary64 extent pow31) (mul binary64 pow16 pow31)) =
    mul_mono binary64 extent pow16 pow31 fe tt tt (unfold le in tt) hi in
    let is : mul binary64 (neg pow31) extent ≡ neg (mul binary64 extent pow31) = mul_commutes binary64 (neg pow31) extent
    ∙ mul-neg binary64 extent pow31 fe tt in (
      le-le-trans (neg pow48) (neg (mul binary64 extent pow31)) (mul binary64 extent s)
          (neg-le (mul binary64 extent pow31) pow48 (le-le-trans (mul binary64 extent pow31) (mul binary64 pow16 pow31) pow48 d low_ok))
          (subst (λ (w : Float). T (le w (mul binary64 extent s))) is
          (subst (λ (w : Float). T (le (mul binary64 (neg pow31) extent) w)) (mul_commutes binary64 s extent) c)),
      le-le-trans (mul binary64 extent s) (mul binary64 extent top) pow48
          (subst (λ (w : Float). T (le w (mul binary64 extent top))) (mul_commutes binary64 s extent)
          (subst (λ (w : Float). T (le (mul binary64 s extent) w)) (mul_commutes binary64 top extent) a))
          (le-le-trans (mul binary64 extent top) (mul binary64 pow16 top) pow48 b high-ok),
    )

pub tile-bounds : (extent cx x : Float) (z : ℕ) → z ≤ 31 → T (le one extent) → T (le extent pow16) → In01 cx → T (le (neg one) x)
    → T (le x pow31)
    → T (le (neg pow48) (mul binary64 extent (sub binary64 (mul binary64 cx (float (2 ^ z))) x)))
    × T (le (mul binary64 extent (sub binary64 (mul binary64 cx (float (2 ^ z))) x)) pow48)
tile-bounds extent cx x z Z lo hi u l r =
    let n = 2 ^ z in
    let a = mul binary64 cx (float n) in
    let w : Weighted a n = weigh-one cx n u (pow_pos z) (le_trans (power_le z Z) (lit≤ tt)) in
    let h : T (le a pow31) = le-le-trans a (float n) pow31 w.1
    (subst (λ (v : Float). T (le (float n) v)) pow31-is (of_int-mono binary64 n (2 ^ 31) (power_le z Z))) in
    let fa : T (finite a) = between-finite zero a pow31 tt tt w.0 h in
    let fx : T (finite x) = between-finite (neg one) x pow31 (neg-finite one tt) tt l r in
    scaled extent (sub binary64 a x) lo hi
    (subst (λ (v : Float). T (le v (sub binary64 a x))) low-is (sub-mono binary64 zero a pow31 x tt fa tt fx w.0 r))
    (subst (λ (v : Float). T (le (sub binary64 a x) v)) top-is (sub-mono binary64 a pow31 x (neg one) fa tt fx (neg-finite one tt) h l))
