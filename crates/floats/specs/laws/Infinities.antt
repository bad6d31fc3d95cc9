-- Where an infinity stands or comes out, as a search's rounded edge can: a sum and a difference of finite values are no NaN, sums and
-- differences keep the order where neither is a NaN, and squares and sums of what is not negative are not negative. Assumes nothing.
use Rattle.std.specs.Prelude.{◌≡◌, ℕ, suc, ◌+◌, ◌*◌, ◌^◌, Bool, true, false, cond, not, T, nat_lt, refl, Float}
use Rattle.std.proofs.Common.{sym, subst, inl, inr, mul-pos}
use Rattle.std.specs.Float.{nan, inf, fin, Format}
use Rattle.std.specs.Float.Ieee.{prec, emax, low, odd, units, is_nan, le, round, neg, add, sub, mul}
use Rattle.std.specs.Float.Ieee.Fits.{round_is}
use Rattle.std.specs.Float.Ieee.Exact.{odd_sign}
use Rattle.std.specs.Float.Ieee.Scale.{finite}
use Rattle.std.specs.Float.Ieee.Positive.{num, den, den_pos}
use Rattle.floats.specs.Numbers.{zero}
use Rattle.floats.specs.laws.Order.{le-reflexive, minus-inf-le, plus-inf-le, le-plus-inf, finite-not-nan}
use Rattle.floats.specs.laws.Operations.{add_rounds}
use Rattle.floats.specs.laws.Rounding.{zero-le-round}
use Rattle.floats.specs.laws.Signs.{add-nonneg}
use Rattle.floats.specs.laws.Monotone.{add-mono, neg-finite}
use Rattle.floats.specs.laws.Whole.{value-finite}

-- ---- what rounds is no NaN
rounds-not-nan : (f : Format) (s : Bool) (a c : ℕ) → T (not (is_nan (round f s a c)))
rounds-not-nan f s a c = subst (λ (z : Float). T (not (is_nan z))) (sym (round_is f s a c)) (units-not-nan f s _ _)
  where
    odd-not-nan : (d : ℕ) (s : Bool) (q k l : ℕ) → T (not (is_nan (odd d s q k l)))
    odd-not-nan d s q k l = finite-not-nan (odd d s q k l) (value-finite (odd d s q k l) s (q * 2 ^ k) (2 ^ l) (odd_sign d s q k l))

    units-not-nan : (f : Format) (s : Bool) (q k : ℕ) → T (not (is_nan (units f s q k)))
    units-not-nan f s q k = unfold units in pick (nat_lt (q * 2 ^ k) (2 ^ (low f + suc (emax f)))) (odd (suc (prec f)) s q k (low f)) (inf s)
        (odd-not-nan (suc (prec f)) s q k (low f)) (unfold is_nan in tt)
      where
        pick : (b : Bool) (x y : Float) → T (not (is_nan x)) → T (not (is_nan y)) → T (not (is_nan (cond b x y)))
        pick true x y h k = h
        pick false x y h k = k

pub add-not-nan : (f : Format) (x y : Float) → T (finite x) → T (finite y) → T (not (is_nan (add f x y)))
add-not-nan f x y p q = elim (add_rounds f x y p q) [
  | inl r ↦ subst (λ (z : Float). T (not (is_nan z))) (sym r.1) (rounds-not-nan f false _ _)
  | inr r ↦ subst (λ (z : Float). T (not (is_nan z))) (sym r.1) (rounds-not-nan f true _ _)
]

pub sub-not-nan : (f : Format) (x y : Float) → T (finite x) → T (finite y) → T (not (is_nan (sub f x y)))
unfolding sub
sub-not-nan f x y p q = add-not-nan f x (neg y) p (neg-finite y q)

-- ---- where neither sum is a NaN, sums keep the order
add-inf : (f : Format) (x : Float) (t : Bool) → T (not (is_nan (add f x (inf t)))) → add f x (inf t) ≡ inf t
unfolding add is_nan
add-inf f nan t a = absurd a
add-inf f (inf true) true a = refl
add-inf f (inf true) false a = absurd a
add-inf f (inf false) true a = absurd a
add-inf f (inf false) false a = refl
add-inf f (fin s m e) t a = refl

pub add-mono-any : (f : Format) (x x' z : Float) → T (le x x') → T (not (is_nan (add f x z))) → T (not (is_nan (add f x' z)))
    → T (le (add f x z) (add f x' z))
add-mono-any f nan x' nan h a b = absurd (unfold le in h)
add-mono-any f (inf s) x' nan h a b = absurd (unfold add is_nan in a)
add-mono-any f (fin s m e) x' nan h a b = absurd (unfold add is_nan in a)
add-mono-any f x x' (inf t) h a b =
    subst (λ (w : Float). T (le w (add f x' (inf t)))) (sym (add-inf f x t a))
    (subst (λ (w : Float). T (le (inf t) w)) (sym (add-inf f x' t b)) (le-reflexive (inf t) (unfold is_nan in tt)))
add-mono-any f nan x' (fin u l g) h a b = absurd (unfold le in h)
add-mono-any f (inf true) x' (fin u l g) h a b = unfold add in minus-inf-le (add f x' (fin u l g)) b
add-mono-any f (inf false) x' (fin u l g) h a b = subst (λ (w : Float). T (le (add f (inf false) (fin u l g)) (add f w (fin u l g))))
    (sym (plus-inf-le x' h)) (le-reflexive (add f (inf false) (fin u l g)) a)
add-mono-any f (fin s m e) nan (fin u l g) h a b = absurd (unfold le in h)
add-mono-any f (fin s m e) (inf true) (fin u l g) h a b = absurd (unfold le in h)
add-mono-any f (fin s m e) (inf false) (fin u l g) h a b = unfold add in le-plus-inf (add f (fin s m e) (fin u l g)) a
add-mono-any f (fin s m e) (fin t n d) (fin u l g) h a b = add-mono f (fin s m e) (fin t n d) (fin u l g) (fin u l g) tt tt tt tt h
    (le-reflexive (fin u l g) (unfold is_nan in tt))

-- the same of a difference
pub sub-mono-any : (f : Format) (x x' z : Float) → T (le x x') → T (not (is_nan (sub f x z))) → T (not (is_nan (sub f x' z)))
    → T (le (sub f x z) (sub f x' z))
unfolding sub
sub-mono-any f x x' z h a b = add-mono-any f x x' (neg z) h a b

-- ---- what is not negative, infinities included
pub square-round : (f : Format) (x : Float) → T (finite x) → mul f x x ≡ round f false (num x * num x) (den x * den x)
unfolding mul
square-round f nan p = absurd p
square-round f (inf s) p = absurd p
square-round f (fin true m e) p = refl
square-round f (fin false m e) p = refl

pub square-nonneg : (f : Format) (x : Float) → T (finite x) → T (le zero (mul f x x))
square-nonneg f x p = subst (λ (z : Float). T (le zero z)) (sym (square-round f x p))
    (zero-le-round f (num x * num x) (den x * den x) (mul-pos (den_pos x) (den_pos x)))

pub square_above : (f : Format) (x : Float) → T (not (is_nan x)) → T (le zero (mul f x x))
square_above f nan p = absurd (unfold is_nan in p)
square_above f (inf true) p = unfold mul le in tt
square_above f (inf false) p = unfold mul le in tt
square_above f (fin s m e) p = square-nonneg f (fin s m e) tt

pub sum-above : (f : Format) (x y : Float) → T (le zero x) → T (le zero y) → T (le zero (add f x y))
sum-above f nan y h k = absurd (unfold le in h)
sum-above f (inf true) y h k = absurd (unfold le in h)
sum-above f (inf false) nan h k = absurd (unfold le in k)
sum-above f (inf false) (inf true) h k = absurd (unfold le in k)
sum-above f (inf false) (inf false) h k = unfold add le in tt
sum-above f (inf false) (fin t n d) h k = unfold add le in tt
sum-above f (fin s m e) nan h k = absurd (unfold le in k)
sum-above f (fin s m e) (inf true) h k = absurd (unfold le in k)
sum-above f (fin s m e) (inf false) h k = unfold add le in tt
sum-above f (fin s m e) (fin t n d) h k = add-nonneg f (fin s m e) (fin t n d) tt tt h k
