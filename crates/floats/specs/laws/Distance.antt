-- The squared distance of finite places is no NaN and not below 0; a place's own is 0 and passes; within the unit square it is from 0 to 2.
-- Assumes nothing.
use Rattle.std.specs.Prelude.{◌≡◌, ℕ, ◌+◌, ◌*◌, ◌≤◌, true, false, T, pos, refl, Float}
use Rattle.std.proofs.Common.{sym, ap, ap₂, ◌∙◌, subst, le_trans, le_of_eq, mul-pos, mul-one, one-mul, zero-lt-suc, mul-le-mul, arith}
use Rattle.std.specs.Float.{nan, inf, fin, binary64}
use Rattle.std.specs.Float.Ieee.{up, down, le, round, sum, neg, add, sub, mul}
use Rattle.std.specs.Float.Ieee.Scale.{finite}
use Rattle.std.specs.Float.Ieee.Order.{round_mono}
use Rattle.std.specs.Float.Ieee.Positive.{num, den, den_pos}
use Rattle.floats.specs.Numbers.{zero, one, two}
use Rattle.floats.specs.laws.Fraction.{le→cross}
use Rattle.floats.specs.laws.Order.{between-finite}
use Rattle.floats.specs.laws.Signs.{add-nonneg}
use Rattle.floats.specs.laws.Monotone.{add-mono, sub-mono, neg-finite}
use Rattle.floats.specs.laws.Exact.{sub_self}
use Rattle.floats.specs.laws.Infinities.{square-round, square-nonneg, square_above, sum-above, sub-not-nan}
use Rattle.floats.specs.laws.Unit.{In01, In01-finite}
use Rattle.floats.specs.Distance.{sq_dist}

-- ---- a square of what is from -1 to 1 is from 0 to 1
size-le : (x : Float) → T (finite x) → T (le (neg one) x) → T (le x one) → num x ≤ den x
unfolding neg
size-le nan p h k = absurd p
size-le (inf s) p h k = absurd p
size-le (fin false m e) p h k = drop (m * up e) (down e) (le→cross (fin false m e) one tt tt k)
  where
    drop : (a d : ℕ) → a * 1 + 0 * d ≤ 1 * 1 * d + 0 * 1 → a ≤ d
    drop a d g = omega arith
size-le (fin true m e) p h k = drop (m * up e) (down e) (le→cross (fin true 1 (pos 0)) (fin true m e) tt tt h)
  where
    drop : (a d : ℕ) → 0 * d + a * 1 ≤ 0 * 1 + 1 * 1 * d → a ≤ d
    drop a d g = omega arith

one-is : round binary64 false 1 1 ≡ one
unfolding round
one-is = refl

pub square-le-one : (x : Float) → T (finite x) → T (le (neg one) x) → T (le x one) → T (le (mul binary64 x x) one)
square-le-one x p h k =
    subst (λ (z : Float). T (le z one)) (sym (square-round binary64 x p))
    (subst (λ (z : Float). T (le (round binary64 false (num x * num x) (den x * den x)) z)) one-is
    (round_mono binary64 (num x * num x) (den x * den x) 1 1 (mul-pos (den_pos x) (den_pos x)) (zero-lt-suc 0)
    (le_trans (le_of_eq (mul-one (num x * num x)))
    (le_trans (mul-le-mul (size-le x p h k) (size-le x p h k)) (le_of_eq (sym (one-mul (den x * den x))))))))

-- ---- the distance of two places of the unit square is from 0 to 2
closed-low : sub binary64 zero one ≡ neg one
unfolding sub neg add sum round
closed-low = refl

closed-high : sub binary64 one zero ≡ one
unfolding sub neg add sum round
closed-high = refl

closed-two : add binary64 one one ≡ two
unfolding add sum round
closed-two = refl

apart : (a b : Float) → In01 a → In01 b → T (le (neg one) (sub binary64 a b)) × T (le (sub binary64 a b) one)
apart a b h k = (
  subst (λ (z : Float). T (le z (sub binary64 a b))) closed-low
      (sub-mono binary64 zero a one b tt (In01-finite a h) tt (In01-finite b k) h.0 k.1),
  subst (λ (z : Float). T (le (sub binary64 a b) z)) closed-high
      (sub-mono binary64 a one b zero (In01-finite a h) tt (In01-finite b k) tt h.1 k.0),
)

side : (a b : Float) → In01 a → In01 b → In01 (mul binary64 (sub binary64 a b) (sub binary64 a b))
side a b h k =
    let d = apart a b h k in
    let f : T (finite (sub binary64 a b)) = between-finite (neg one) (sub binary64 a b) one (neg-finite one tt) tt d.0 d.1 in
    (square-nonneg binary64 (sub binary64 a b) f, square-le-one (sub binary64 a b) f d.0 d.1)

pub dist-bounds : (ax ay bx by : Float) → In01 ax → In01 ay → In01 bx → In01 by → T (le zero (sq_dist ax ay bx by))
    × T (le (sq_dist ax ay bx by) two)
dist-bounds ax ay bx by h i j k =
    let u = mul binary64 (sub binary64 ax bx) (sub binary64 ax bx) in
    let v = mul binary64 (sub binary64 ay by) (sub binary64 ay by) in
    let p : In01 u = side ax bx h j in
    let q : In01 v = side ay by i k in (
      add-nonneg binary64 u v (In01-finite u p) (In01-finite v q) p.0 q.0,
      subst (λ (z : Float). T (le (add binary64 u v) z)) closed-two
          (add-mono binary64 u one v one (In01-finite u p) tt (In01-finite v q) tt p.1 q.1),
    )

-- ---- a place is at distance 0 from itself
zero-square : mul binary64 zero zero ≡ zero
unfolding mul round
zero-square = refl

zero-twice : add binary64 zero zero ≡ zero
unfolding add sum round
zero-twice = refl

pub dist-self : (x y : Float) → T (finite x) → T (finite y) → sq_dist x y x y ≡ zero
dist-self x y p q =
    ap₂ (λ (a b : Float). add binary64 (mul binary64 a a) (mul binary64 b b)) (sub_self binary64 x p) (sub_self binary64 y q)
    ∙ ap (λ (z : Float). add binary64 z z) zero-square ∙ zero-twice

-- so it is inside any circle around itself
pub passes-self : (x y r : Float) → T (finite x) → T (finite y) → T (finite r) → T (le (sq_dist x y x y) (mul binary64 r r))
passes-self x y r p q f = subst (λ (z : Float). T (le z (mul binary64 r r))) (sym (dist-self x y p q)) (square-nonneg binary64 r f)

-- ---- of any finite places it may be an infinity, and is not below 0
pub dist-above : (ax ay bx by : Float) → T (finite ax) → T (finite ay) → T (finite bx) → T (finite by) → T (le zero (sq_dist ax ay bx by))
dist-above ax ay bx by p q r s =
    sum-above binary64 (mul binary64 (sub binary64 ax bx) (sub binary64 ax bx)) (mul binary64 (sub binary64 ay by) (sub binary64 ay by))
    (square_above binary64 (sub binary64 ax bx) (sub-not-nan binary64 ax bx p r))
    (square_above binary64 (sub binary64 ay by) (sub-not-nan binary64 ay by q s))
