-- The order of floats: `le` is a total preorder on the values that are no NaN, `lt` is its strict part, and `eq` its equivalence.
-- NaN is on neither side of any of them. Assumes nothing.
use Rattle.std.specs.Prelude.{◌≡◌, ℕ, ◌+◌, ◌*◌, ◌<◌, ◌≤◌, true, false, not, T, ◌⊎◌, Float}
use Rattle.std.proofs.Math.Path.{refl}
use Rattle.std.proofs.Common.{sym, ap, subst, le_of_eq, le_of_suc-le-suc, lt_of_not-le, arith, T_not}
use Rattle.std.proofs.Math.Logic.{inl, inr}
use Rattle.std.proofs.Math.Dec.{not_T}
use Rattle.std.specs.Float.{nan, inf, fin}
use Rattle.std.specs.Float.Ieee.{is_nan, down, le, lt, eq, ne}
use Rattle.std.specs.Float.Ieee.Fits.{down_pos}
use Rattle.std.specs.Float.Ieee.Scale.{finite}
use Rattle.floats.specs.laws.Fraction.{or_l, or_r, or_split, decide, is_true, mins, le→cross, cross→le, lt→cross, cross→lt}
use Rattle.floats.specs.Fraction.{plus}
use Rattle.floats.specs.laws.Fraction.{eq→cross, cross-trans}

-- ---- NaN is on neither side: a comparison with it is false
pub nan_left : (y : Float) → (le nan y ≡ false) × (lt nan y ≡ false) × (eq nan y ≡ false)
unfolding le lt eq
nan_left y = (refl, refl, refl)

pub nan_right : (x : Float) → (le x nan ≡ false) × (lt x nan ≡ false) × (eq x nan ≡ false)
unfolding le lt eq
nan_right nan = (refl, refl, refl)
nan_right (inf s) = (refl, refl, refl)
nan_right (fin s m e) = (refl, refl, refl)

-- so what stands on a side of `le` is a number
pub le-left-number : (x y : Float) → T (le x y) → T (not (is_nan x))
unfolding le is_nan
le-left-number nan y h = absurd h
le-left-number (inf s) y h = tt
le-left-number (fin s m e) y h = tt

pub le-right-number : (x y : Float) → T (le x y) → T (not (is_nan y))
unfolding le is_nan
le-right-number nan y h = absurd h
le-right-number (inf s) nan h = absurd h
le-right-number (inf s) (inf t) h = tt
le-right-number (inf s) (fin t n d) h = tt
le-right-number (fin s m e) nan h = absurd h
le-right-number (fin s m e) (inf t) h = tt
le-right-number (fin s m e) (fin t n d) h = tt

pub finite-not-nan : (x : Float) → T (finite x) → T (not (is_nan x))
unfolding is_nan
finite-not-nan nan p = absurd p
finite-not-nan (inf s) p = absurd p
finite-not-nan (fin s m e) p = tt

-- ---- the infinities are below and above every number
pub minus-inf-le : (z : Float) → T (not (is_nan z)) → T (le (inf true) z)
unfolding le is_nan
minus-inf-le nan h = absurd h
minus-inf-le (inf true) h = tt
minus-inf-le (inf false) h = tt
minus-inf-le (fin t n d) h = tt

pub le-plus-inf : (x : Float) → T (not (is_nan x)) → T (le x (inf false))
unfolding le is_nan
le-plus-inf nan h = absurd h
le-plus-inf (inf true) h = tt
le-plus-inf (inf false) h = tt
le-plus-inf (fin s m e) h = tt

pub plus-inf-le : (y : Float) → T (le (inf false) y) → y ≡ inf false
unfolding le
plus-inf-le nan h = absurd h
plus-inf-le (inf true) h = absurd h
plus-inf-le (inf false) h = refl
plus-inf-le (fin t n d) h = absurd h

-- ---- transitive (the mixes with < are below)
pub le-le-trans : (x y z : Float) → T (le x y) → T (le y z) → T (le x z)
le-le-trans nan y z h k = absurd (unfold le in h)
le-le-trans (inf true) y z h k = minus-inf-le z (le-right-number y z k)
le-le-trans (inf false) y z h k = subst (λ (w : Float). T (le w z)) (plus-inf-le y h) k
le-le-trans (fin s m e) nan z h k = absurd (unfold le in h)
le-le-trans (fin s m e) (inf true) z h k = absurd (unfold le in h)
le-le-trans (fin s m e) (inf false) z h k = subst (λ (w : Float). T (le (fin s m e) w)) (sym (plus-inf-le z k)) h
le-le-trans (fin s m e) (fin t n d) nan h k = absurd (unfold le in k)
le-le-trans (fin s m e) (fin t n d) (inf true) h k = absurd (unfold le in k)
le-le-trans (fin s m e) (fin t n d) (inf false) h k = unfold le in tt
le-le-trans (fin s m e) (fin t n d) (fin u l g) h k =
    cross→le (fin s m e) (fin u l g) tt tt
    (cross-trans (plus (fin s m e)) (mins (fin s m e)) (down e) (plus (fin t n d)) (mins (fin t n d)) (down d) (plus (fin u l g))
    (mins (fin u l g)) (down g) (down_pos d)
    (le→cross (fin s m e) (fin t n d) tt tt h) (le→cross (fin t n d) (fin u l g) tt tt k))

pub lt→le : (x y : Float) → T (lt x y) → T (le x y)
unfolding le
lt→le x y h = or_l (lt x y) (eq x y) h

pub eq→le : (x y : Float) → T (eq x y) → T (le x y)
unfolding le
eq→le x y h = or_r (lt x y) (eq x y) h

clash : (a b : ℕ) → a < b → b ≤ a → ⊥
clash a b h k = omega arith

pub lt_not_le : (x y : Float) → T (lt x y) → T (le y x) → ⊥
lt_not_le nan y h k = unfold lt in h
lt_not_le (inf s) nan h k = unfold lt in h
lt_not_le (inf true) (inf true) h k = unfold lt in h
lt_not_le (inf true) (inf false) h k = unfold le in k
lt_not_le (inf false) (inf t) h k = unfold lt in h
lt_not_le (inf true) (fin t n d) h k = unfold le in k
lt_not_le (inf false) (fin t n d) h k = unfold lt in h
lt_not_le (fin s m e) nan h k = unfold lt in h
lt_not_le (fin s m e) (inf true) h k = unfold lt in h
lt_not_le (fin s m e) (inf false) h k = unfold le in k
lt_not_le (fin s m e) (fin t n d) h k =
    clash (plus (fin s m e) * down d + mins (fin t n d) * down e) (plus (fin t n d) * down e + mins (fin s m e) * down d)
    (lt→cross (fin s m e) (fin t n d) tt tt h) (le→cross (fin t n d) (fin s m e) tt tt k)

-- ---- total, reflexive and antisymmetric off NaN
pub not-lt→le : (x y : Float) → T (not (is_nan x)) → T (not (is_nan y)) → T (not (lt x y)) → T (le y x)
not-lt→le nan y p q h = absurd (unfold is_nan in p)
not-lt→le (inf s) nan p q h = absurd (unfold is_nan in q)
not-lt→le (inf true) (inf true) p q h = unfold le in tt
not-lt→le (inf true) (inf false) p q h = absurd (unfold lt in h)
not-lt→le (inf false) (inf true) p q h = unfold le in tt
not-lt→le (inf false) (inf false) p q h = unfold le in tt
not-lt→le (inf true) (fin t n d) p q h = absurd (unfold lt in h)
not-lt→le (inf false) (fin t n d) p q h = unfold le in tt
not-lt→le (fin s m e) nan p q h = absurd (unfold is_nan in q)
not-lt→le (fin s m e) (inf true) p q h = unfold le in tt
not-lt→le (fin s m e) (inf false) p q h = absurd (unfold lt in h)
not-lt→le (fin s m e) (fin t n d) p q h =
    cross→le (fin t n d) (fin s m e) tt tt
    (le_of_suc-le-suc (lt_of_not-le (λ k. T_not (lt (fin s m e) (fin t n d)) h (cross→lt (fin s m e) (fin t n d) tt tt k))))

pub not-le→lt : (x y : Float) → T (not (is_nan x)) → T (not (is_nan y)) → T (not (le x y)) → T (lt y x)
not-le→lt x y p q h = elim (decide (lt y x)) [ inl k ↦ k | inr k ↦ absurd (T_not (le x y) h (not-lt→le y x q p k)) ]

pub lt-irreflexive : (x : Float) → T (lt x x) → ⊥
lt-irreflexive x h = lt_not_le x x h (lt→le x x h)

pub le-reflexive : (x : Float) → T (not (is_nan x)) → T (le x x)
le-reflexive x p = not-lt→le x x p p (not_T (lt x x) (lt-irreflexive x))

pub le-antisymmetric : (x y : Float) → T (le x y) → T (le y x) → T (eq x y)
le-antisymmetric x y h k = elim (or_split (lt x y) (eq x y) (unfold le in h)) [ inl l ↦ absurd (lt_not_le x y l k) | inr e ↦ e ]

pub le-or-lt : (x y : Float) → T (not (is_nan x)) → T (not (is_nan y)) → T (le x y) ⊎ T (lt y x)
le-or-lt x y p q = elim (decide (le x y)) [ inl k ↦ inl k | inr k ↦ inr (not-le→lt x y p q k) ]

pub le_total : (x y : Float) → T (not (is_nan x)) → T (not (is_nan y)) → T (le x y) ⊎ T (le y x)
le_total x y p q = elim (le-or-lt x y p q) [ inl k ↦ inl k | inr k ↦ inr (lt→le y x k) ]

-- ---- transitive where one is strict
pub lt-le-trans : (x y z : Float) → T (lt x y) → T (le y z) → T (lt x z)
lt-le-trans x y z h k = elim (le-or-lt z x (le-right-number y z k) (le-left-number x y (lt→le x y h)))
    [ inl l ↦ absurd (lt_not_le x y h (le-le-trans y z x k l)) | inr l ↦ l ]

pub le_lt_trans : (x y z : Float) → T (le x y) → T (lt y z) → T (lt x z)
le_lt_trans x y z h k = elim (le-or-lt z x (le-right-number y z (lt→le y z k)) (le-left-number x y h))
    [ inl l ↦ absurd (lt_not_le y z k (le-le-trans z x y l h)) | inr l ↦ l ]

pub lt-lt-trans : (x y z : Float) → T (lt x y) → T (lt y z) → T (lt x z)
lt-lt-trans x y z h k = lt-le-trans x y z h (lt→le y z k)

pub lt-asymmetric : (x y : Float) → T (lt x y) → T (lt y x) → ⊥
lt-asymmetric x y h k = lt_not_le x y h (lt→le y x k)

-- ---- what lies between two finite values is finite
pub between-finite : (lo z hi : Float) → T (finite lo) → T (finite hi) → T (le lo z) → T (le z hi) → T (finite z)
unfolding le
between-finite lo z nan p q h k = absurd q
between-finite lo z (inf t) p q h k = absurd q
between-finite nan z (fin t n d) p q h k = absurd p
between-finite (inf s) z (fin t n d) p q h k = absurd p
between-finite (fin s m e) nan (fin t n d) p q h k = absurd h
between-finite (fin s m e) (inf true) (fin t n d) p q h k = absurd h
between-finite (fin s m e) (inf false) (fin t n d) p q h k = absurd k
between-finite (fin s m e) (fin u l g) (fin t n d) p q h k = tt

-- ---- `eq` is an equivalence on what is no NaN, and the order does not tell equals apart
pub eq-reflexive : (x : Float) → T (not (is_nan x)) → T (eq x x)
eq-reflexive x p = le-antisymmetric x x (le-reflexive x p) (le-reflexive x p)

-- the test of `is_nan`, x != x
pub ne-self : (x : Float) → ne x x ≡ is_nan x
unfolding ne is_nan
ne-self nan = unfold eq in refl
ne-self (inf true) = unfold eq in refl
ne-self (inf false) = unfold eq in refl
ne-self (fin s m e) = ap not (is_true (eq (fin s m e) (fin s m e)) (eq-reflexive (fin s m e) tt))

pub eq→ge : (x y : Float) → T (eq x y) → T (le y x)
eq→ge nan y h = absurd (unfold eq in h)
eq→ge (inf s) nan h = absurd (unfold eq in h)
eq→ge (inf true) (inf true) h = unfold le in tt
eq→ge (inf true) (inf false) h = absurd (unfold eq in h)
eq→ge (inf false) (inf true) h = absurd (unfold eq in h)
eq→ge (inf false) (inf false) h = unfold le in tt
eq→ge (inf s) (fin t n d) h = absurd (unfold eq in h)
eq→ge (fin s m e) nan h = absurd (unfold eq in h)
eq→ge (fin s m e) (inf t) h = absurd (unfold eq in h)
eq→ge (fin s m e) (fin t n d) h = cross→le (fin t n d) (fin s m e) tt tt (le_of_eq (sym (eq→cross (fin s m e) (fin t n d) tt tt h)))

pub eq-symmetric : (x y : Float) → T (eq x y) → T (eq y x)
eq-symmetric x y h = le-antisymmetric y x (eq→ge x y h) (eq→le x y h)

pub eq-transitive : (x y z : Float) → T (eq x y) → T (eq y z) → T (eq x z)
eq-transitive x y z h k = le-antisymmetric x z (le-le-trans x y z (eq→le x y h) (eq→le y z k))
    (le-le-trans z y x (eq→ge y z k) (eq→ge x y h))
