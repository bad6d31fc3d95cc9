-- 'x is not above y', lt y x ≡ false, as a selection tests it: NaN is above nothing. Off NaN it is <=, and it goes through a third value.
-- Assumes nothing.
use Rattle.std.specs.Prelude.{◌≡◌, Bool, true, false, not, T, refl, Float}
use Rattle.std.specs.Float.Ieee.{le, lt, eq, is_nan}
use Rattle.floats.specs.laws.Fraction.{yes_of, no_of, is_true}
use Rattle.floats.specs.laws.Order.{le-left-number, le-right-number, le-le-trans, lt→le, eq→le, eq→ge, lt_not_le, lt-irreflexive}
use Rattle.floats.specs.laws.Order.{lt-asymmetric, not-lt→le, eq-reflexive}

-- a test that cannot hold fails
is_false : (b : Bool) → (T b → ⊥) → b ≡ false
is_false true h = absurd (h tt)
is_false false h = refl

-- what is below is not above
pub below-not-above : (x y : Float) → lt x y ≡ true → lt y x ≡ false
below-not-above x y h = is_false (lt y x) (lt-asymmetric x y (yes_of h))

-- nothing is above itself
pub self-not-above : (x : Float) → lt x x ≡ false
self-not-above x = is_false (lt x x) (lt-irreflexive x)

-- equals are not above each other
pub equal-not-above : (x y : Float) → eq x y ≡ true → (lt x y ≡ false) × (lt y x ≡ false)
equal-not-above x y h = (
  is_false (lt x y) (λ l. lt_not_le x y l (eq→ge x y (yes_of h))),
  is_false (lt y x) (λ l. lt_not_le y x l (eq→le x y (yes_of h))),
)

-- what is no NaN equals itself
pub number-equals-itself : (x : Float) → T (not (is_nan x)) → eq x x ≡ true
number-equals-itself x p = is_true (eq x x) (eq-reflexive x p)

-- x is not above y, a number, and y not above z: x is not above z
pub not-above-trans : (x y z : Float) → T (not (is_nan y)) → lt y x ≡ false → lt z y ≡ false → lt z x ≡ false
not-above-trans x y z p h k =
    is_false (lt z x) (λ l.
    let zx = lt→le z x l in
    lt_not_le z x l (le-le-trans x y z (not-lt→le y x p (le-right-number z x zx) (no_of h))
    (not-lt→le z y (le-left-number z x zx) p (no_of k))))

-- off NaN it is <=
pub not-above→le : (x y : Float) → T (not (is_nan x)) → T (not (is_nan y)) → lt y x ≡ false → T (le x y)
not-above→le x y p q h = not-lt→le y x q p (no_of h)
