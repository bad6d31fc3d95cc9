-- A value that a format holds is the rounding of any fraction that it equals: there is one such value, and `round` finds it. So one times
-- x is x, x over one is x, and two values that compare equal are the same or both zeros. Assumes nothing.
use Rattle.std.specs.Prelude.{◌≡◌, ℕ, zero, suc, pred, ◌+◌, ◌-◌, ◌*◌, ◌%◌, ◌^◌, ◌<◌, ◌≤◌, Bool, true, false, cond, not, ◌&&◌, T, ltb, ◌⊎◌, ℤ, pos, negsuc, ◌≢◌, nat_eq, nat_le, nat_lt, Float}
use Rattle.std.proofs.Math.Path.{refl}
use Rattle.std.proofs.Common.{sym, ap, ap₂, ◌∙◌, subst, inl, inr, zero-le, arith, eqb→eq, ltb→lt, leb→le, pow-add, pow_pos}
use native.Mathlib.Nat.{lt_of_not-le, le_of_suc-le-suc, not-le_of_lt, lt_irrefl, mul_comm, mul_assoc, mul_right_comm}
use native.Mathlib.Nat.{mul-lt-mul_of_pos_right, lt_of_mul-lt-mul_right, eq_of_mul-eq-mul_right, mul-pos, mul-one, one-mul, zero-mul}
use native.Mathlib.Nat.{zero-lt-suc, pow-suc, eq-zero-or-pos}
use Rattle.std.proofs.Math.Pow.{pow-lt}
use Rattle.std.specs.Float.{nan, inf, fin, Format, binary64}
use Rattle.std.specs.Float.Ieee.{prec, emax, low, up, down, unlike, eq, round, neg, sum, add, sub, mul, div, fits}
use Rattle.std.specs.Float.Ieee.Fits.{up_pos, down_pos, and_l, and_r, round-fits}
use Rattle.std.specs.Float.Ieee.Exact.{HasValue, round_exact}
use Rattle.std.specs.Float.Ieee.Scale.{finite, round_same}
use Rattle.std.specs.Float.Ieee.Positive.{num, den, den_pos}
use Rattle.floats.specs.laws.Rounding.{Rounds, round-zero}
use Rattle.floats.specs.Numbers.{zero as fzero, one}
use Rattle.floats.specs.Fraction.{plus}
use Rattle.floats.specs.laws.Fraction.{mins, eq→cross}

-- ---- what it takes to fit
pub record Held (f : Format) (m : ℕ) (e : ℤ) : Type 0 where
  pub is_odd : m % 2 ≡ 1
  pub short : m < 2 ^ prec f
  pub fine : down e ≤ 2 ^ low f
  pub small : m * up e < 2 ^ suc (emax f) * down e

pub held : (f : Format) (s : Bool) (m : ℕ) (e : ℤ) → T (fits f (fin s (suc m) e)) → Held f (suc m) e
unfolding fits
held f s m e t =
    let a : Bool = nat_eq (suc m % 2) 1 in
    let b : Bool = ltb (suc m) (2 ^ prec f) in
    let c : Bool = nat_le (down e) (2 ^ low f) in
    let d : Bool = ltb (suc m * up e) (2 ^ suc (emax f) * down e) in
    record {
      is_odd = eqb→eq (suc m % 2) 1 (and_l a b (and_l (a && b) c (and_l (a && b && c) d t)));
      short = ltb→lt (suc m) (2 ^ prec f) (and_r a b (and_l (a && b) c (and_l (a && b && c) d t)));
      fine = leb→le (down e) (2 ^ low f) (and_r (a && b) c (and_l (a && b && c) d t));
      small = ltb→lt (suc m * up e) (2 ^ suc (emax f) * down e) (and_r (a && b && c) d t);
    }

-- ---- one way to write it
even_odd : (m t : ℕ) → m % 2 ≡ 1 → m ≢ t * 2
even_odd m t o h = omega arith

odd_pow : (m n a b : ℕ) → m % 2 ≡ 1 → n % 2 ≡ 1 → m * 2 ^ a ≡ n * 2 ^ b → (m ≡ n) × (a ≡ b)
odd_pow m n zero zero o p h = (sym (mul-one m) ∙ h ∙ mul-one n, refl)
odd_pow m n zero (suc b) o p h =
    absurd (even_odd m (n * 2 ^ b) o (sym (mul-one m) ∙ h ∙ ap (λ (x : ℕ). n * x) (pow-suc 2 b) ∙ sym (mul_assoc n (2 ^ b) 2)))
odd_pow m n (suc a) zero o p h =
    absurd (even_odd n (m * 2 ^ a) p (sym (mul-one n) ∙ sym h ∙ ap (λ (x : ℕ). m * x) (pow-suc 2 a) ∙ sym (mul_assoc m (2 ^ a) 2)))
odd_pow m n (suc a) (suc b) o p h =
    let r = odd_pow m n a b o p (eq_of_mul-eq-mul_right 2 (zero-lt-suc 1) (m * 2 ^ a) (n * 2 ^ b)
    (mul_assoc m (2 ^ a) 2 ∙ ap (λ (x : ℕ). m * x) (sym (pow-suc 2 a)) ∙ h ∙ ap (λ (x : ℕ). n * x) (pow-suc 2 b)
    ∙ sym (mul_assoc n (2 ^ b) 2))) in
    (r.0, ap suc r.1)

one_form : (m : ℕ) (e : ℤ) (n : ℕ) (g : ℤ) → m % 2 ≡ 1 → n % 2 ≡ 1 → m * up e * down g ≡ n * up g * down e → (m ≡ n) × (e ≡ g)
one_form m (pos a) n (pos b) o p h =
    let r = odd_pow m n a b o p (sym (mul-one (m * 2 ^ a)) ∙ h ∙ mul-one (n * 2 ^ b)) in
    (r.0, ap pos r.1)
one_form m (pos a) n (negsuc b) o p h =
    absurd (even_odd n (m * 2 ^ a * 2 ^ b) p (sym (mul-one n) ∙ sym (mul-one (n * 1)) ∙ sym h ∙ ap (λ (x : ℕ). m * 2 ^ a * x) (pow-suc 2 b)
    ∙ sym (mul_assoc (m * 2 ^ a) (2 ^ b) 2)))
one_form m (negsuc a) n (pos b) o p h =
    absurd (even_odd m (n * 2 ^ b * 2 ^ a) o (sym (mul-one m) ∙ sym (mul-one (m * 1)) ∙ h ∙ ap (λ (x : ℕ). n * 2 ^ b * x) (pow-suc 2 a)
    ∙ sym (mul_assoc (n * 2 ^ b) (2 ^ a) 2)))
one_form m (negsuc a) n (negsuc b) o p h =
    let r = odd_pow m n (suc b) (suc a) o p (ap (λ (x : ℕ). x * 2 ^ suc b) (sym (mul-one m)) ∙ h
    ∙ ap (λ (x : ℕ). x * 2 ^ suc a) (mul-one n)) in
    (r.0, ap negsuc (sym (ap pred r.1)))

two_up : (p : ℕ) → 0 < p → p * 2 ≢ 1
two_up p h e = omega arith

flat : (e : ℤ) → up e * down e ≡ 1 → e ≡ pos 0
flat (pos zero) h = refl
flat (pos (suc k)) h = absurd (two_up (2 ^ k) (pow_pos k) (sym (pow-suc 2 k) ∙ sym (mul-one (2 ^ suc k)) ∙ h))
flat (negsuc k) h = absurd (two_up (2 ^ k) (pow_pos k) (sym (pow-suc 2 k) ∙ sym (one-mul (2 ^ suc k)) ∙ h))

zero_exp : (f : Format) (s : Bool) (e : ℤ) → T (fits f (fin s zero e)) → e ≡ pos 0
unfolding fits
zero_exp f s e t = flat e (eqb→eq (up e * down e) 1 t)

nonzero : (n u v : ℕ) → 0 < u → 0 < v → suc n * u * v ≢ 0
nonzero n u v A B h = lt_irrefl 0 (subst (λ (x : ℕ). 0 < x) h (mul-pos (mul-pos (zero-lt-suc n) A) B))

no_size : (u v : ℕ) → 0 * u * v ≡ 0
no_size u v = ap (λ (x : ℕ). x * v) (zero-mul u) ∙ zero-mul v

same_size : (X Y u v a c : ℕ) → 0 < c → X * c ≡ a * u → Y * c ≡ a * v → X * v ≡ Y * u
same_size X Y u v a c C h k = eq_of_mul-eq-mul_right c C (X * v) (Y * u) (mul_right_comm X v c ∙ ap (λ (z : ℕ). z * v) h
    ∙ mul_right_comm a u v ∙ ap (λ (z : ℕ). z * u) (sym k) ∙ mul_right_comm Y c u)

pub value-unique : (f : Format) (x y : Float) (s : Bool) (a c : ℕ) → 0 < c → T (fits f x) → T (fits f y) → HasValue x s a c
    → HasValue y s a c → x ≡ y
value-unique f nan y s a c C p q v w = absurd v
value-unique f (inf t) y s a c C p q v w = absurd v
value-unique f (fin t m e) nan s a c C p q v w = absurd w
value-unique f (fin t m e) (inf u) s a c C p q v w = absurd w
value-unique f (fin t zero e) (fin u zero g) s a c C p q v w =
    λ i. fin ((v.0 ∙ sym w.0) i) zero ((zero_exp f t e p ∙ sym (zero_exp f u g q)) i)
value-unique f (fin t zero e) (fin u (suc n) g) s a c C p q v w =
    absurd (nonzero n (up g) (down e) (up_pos g) (down_pos e)
    (sym (same_size (zero * up e) (suc n * up g) (down e) (down g) a c C v.1 w.1) ∙ no_size (up e) (down g)))
value-unique f (fin t (suc m) e) (fin u zero g) s a c C p q v w =
    absurd (nonzero m (up e) (down g) (up_pos e) (down_pos g) (same_size (suc m * up e) (zero * up g) (down e) (down g) a c C v.1 w.1
    ∙ no_size (up g) (down e)))
value-unique f (fin t (suc m) e) (fin u (suc n) g) s a c C p q v w =
    let r = one_form (suc m) e (suc n) g (held f t m e p).is_odd (held f u n g q).is_odd
    (same_size (suc m * up e) (suc n * up g) (down e) (down g) a c C v.1 w.1) in
    λ i. fin ((v.0 ∙ sym w.0) i) (r.0 i) (r.1 i)

-- ---- a value in units of the format's smallest
pow-le : (i j : ℕ) → 2 ^ i ≤ 2 ^ j → i ≤ j
pow-le i j h = le_of_suc-le-suc (lt_of_not-le (λ (g : suc j ≤ i). not-le_of_lt (pow-lt g) h))

pub shift : (l : ℕ) (e : ℤ) → down e ≤ 2 ^ l → (j : ℕ) × (up e * 2 ^ l ≡ 2 ^ j * down e)
shift l (pos k) h = (k + l, sym (pow-add 2 k l) ∙ sym (mul-one (2 ^ (k + l))))
shift l (negsuc k) h = (l - suc k, one-mul (2 ^ l) ∙ ap (λ (x : ℕ). 2 ^ x) (back (pow-le (suc k) l h)) ∙ pow-add 2 (l - suc k) (suc k))
  where
    back : suc k ≤ l → l ≡ l - suc k + suc k
    back g = omega arith

-- r of the units that a value of the format has is exact, for an r of no more digits
pub unit-exact : (f : Format) (s : Bool) (r : ℕ) (e : ℤ) → r < 2 ^ prec f → down e ≤ 2 ^ low f → r * up e < 2 ^ suc (emax f) * down e
    → HasValue (round f s (r * up e) (down e)) s (r * up e) (down e)
unit-exact f s r e a b c =
    let j : ℕ = (shift (low f) e b).0 in
    let w : r * up e * 2 ^ low f ≡ r * 2 ^ j * down e = mul_assoc r (up e) (2 ^ low f) ∙ ap (λ (x : ℕ). r * x) (shift (low f) e b).1
    ∙ sym (mul_assoc r (2 ^ j) (down e)) in
    let x : r * 2 ^ j * down e < 2 ^ (low f + suc (emax f)) * down e =
    subst (λ (z : ℕ). z < 2 ^ (low f + suc (emax f)) * down e) w
    (subst (λ (z : ℕ). r * up e * 2 ^ low f < z) (mul_right_comm (2 ^ suc (emax f)) (down e) (2 ^ low f)
    ∙ ap (λ (z : ℕ). z * down e) (mul_comm (2 ^ suc (emax f)) (2 ^ low f) ∙ sym (pow-add 2 (low f) (suc (emax f)))))
    (mul-lt-mul_of_pos_right c (pow_pos (low f)))) in
    round_exact f s (r * up e) (down e) r j (down_pos e) a (lt_of_mul-lt-mul_right (down e) x) w

own-exact : (f : Format) (s : Bool) (m : ℕ) (e : ℤ) → T (fits f (fin s m e))
    → HasValue (round f s (m * up e) (down e)) s (m * up e) (down e)
own-exact f s zero e t = subst (λ (z : ℤ). HasValue (round f s (zero * up z) (down z)) s (zero * up z) (down z)) (sym (zero_exp f s e t))
    (unit-exact f s 0 (pos 0) (pow_pos (prec f)) (pow_pos (low f)) (mul-pos (pow_pos (suc (emax f))) (zero-lt-suc 0)))
own-exact f s (suc m) e t = let h = held f s m e t in unit-exact f s (suc m) e h.short h.fine h.small

-- ---- `round` finds the value
pub round-own : (f : Format) (s : Bool) (m : ℕ) (e : ℤ) → T (fits f (fin s m e)) → round f s (m * up e) (down e) ≡ fin s m e
round-own f s m e t = value-unique f (round f s (m * up e) (down e)) (fin s m e) s (m * up e) (down e) (down_pos e)
    (round-fits f s (m * up e) (down e)) t (own-exact f s m e t) (refl, refl)

pub round-back : (f : Format) (x : Float) (s : Bool) (a c : ℕ) → 0 < c → T (fits f x) → HasValue x s a c → round f s a c ≡ x
round-back f nan s a c C t h = absurd h
round-back f (inf u) s a c C t h = absurd h
round-back f (fin u m e) s a c C t h =
    round_same f s a c (m * up e) (down e) C (down_pos e) (sym h.1) ∙ ap (λ (z : Bool). round f z (m * up e) (down e)) (sym h.0)
    ∙ round-own f u m e t

like : (s : Bool) → unlike false s ≡ s
like true = refl
like false = refl

pub one-times : (f : Format) (x : Float) → T (fits f x) → mul f one x ≡ x
unfolding mul
one-times f nan t = refl
one-times f (inf s) t = ap inf (like s)
one-times f (fin s m e) t =
    ap₂ (λ (a b : ℕ). round f (unlike false s) a b) (one-mul (m * up e)) (one-mul (down e))
    ∙ ap (λ (z : Bool). round f z (m * up e) (down e)) (like s) ∙ round-own f s m e t

-- ---- a value of the format is its own rounding, with its sign
pub own-rounds : (f : Format) (x : Float) → T (fits f x) → T (finite x) → Rounds f x (plus x) (mins x) (den x)
own-rounds f nan t p = absurd p
own-rounds f (inf s) t p = absurd p
own-rounds f (fin false m e) t p = inl (zero-le, sym (round-own f false m e t) ∙ ap (λ (z : ℕ). round f false z (down e)) (less (m * up e)))
  where
    less : (a : ℕ) → a ≡ a - 0
    less a = omega arith
own-rounds f (fin true m e) t p = inr (zero-le, sym (round-own f true m e t) ∙ ap (λ (z : ℕ). round f true z (down e)) (less (m * up e)))
  where
    less : (a : ℕ) → a ≡ a - 0
    less a = omega arith

-- ---- two values of a format that compare equal are the same, or both are zeros
first-zero : (a c : ℕ) → 0 < c → a * c ≡ 0 → a ≡ 0
first-zero a c C h = elim (native.Mathlib.Nat.eq-zero-or-pos a)
    [ inl z ↦ z | inr p ↦ absurd (lt_irrefl 0 (subst (λ (x : ℕ). 0 < x) h (mul-pos p C))) ]

pub eq-same : (f : Format) (x y : Float) → T (fits f x) → T (fits f y) → T (eq x y) → (x ≡ y) ⊎ ((num x ≡ 0) × (num y ≡ 0))
eq-same f nan y p q h = absurd (unfold eq in h)
eq-same f (inf s) nan p q h = absurd (unfold eq in h)
eq-same f (inf true) (inf true) p q h = inl refl
eq-same f (inf true) (inf false) p q h = absurd (unfold eq in h)
eq-same f (inf false) (inf true) p q h = absurd (unfold eq in h)
eq-same f (inf false) (inf false) p q h = inl refl
eq-same f (inf s) (fin t n d) p q h = absurd (unfold eq in h)
eq-same f (fin s m e) nan p q h = absurd (unfold eq in h)
eq-same f (fin s m e) (inf t) p q h = absurd (unfold eq in h)
eq-same f (fin false m e) (fin false n d) p q h =
    inl (value-unique f (fin false m e) (fin false n d) false (n * up d) (down d) (down_pos d) p q
    (refl, drop (eq→cross (fin false m e) (fin false n d) tt tt h)) (refl, refl))
  where
    drop : m * up e * down d + 0 * down e ≡ n * up d * down e + 0 * down d → m * up e * down d ≡ n * up d * down e
    drop k = omega arith
eq-same f (fin true m e) (fin true n d) p q h =
    inl (value-unique f (fin true m e) (fin true n d) true (n * up d) (down d) (down_pos d) p q
    (refl, drop (eq→cross (fin true m e) (fin true n d) tt tt h)) (refl, refl))
  where
    drop : 0 * down d + n * up d * down e ≡ 0 * down e + m * up e * down d → m * up e * down d ≡ n * up d * down e
    drop k = omega arith
eq-same f (fin false m e) (fin true n d) p q h =
    inr (
      first-zero (m * up e) (down d) (down_pos d) (l (eq→cross (fin false m e) (fin true n d) tt tt h)),
      first-zero (n * up d) (down e) (down_pos e) (r (eq→cross (fin false m e) (fin true n d) tt tt h)),
    )
  where
    l : m * up e * down d + n * up d * down e ≡ 0 * down e + 0 * down d → m * up e * down d ≡ 0
    l k = omega arith

    r : m * up e * down d + n * up d * down e ≡ 0 * down e + 0 * down d → n * up d * down e ≡ 0
    r k = omega arith
eq-same f (fin true m e) (fin false n d) p q h =
    inr (
      first-zero (m * up e) (down d) (down_pos d) (l (eq→cross (fin true m e) (fin false n d) tt tt h)),
      first-zero (n * up d) (down e) (down_pos e) (r (eq→cross (fin true m e) (fin false n d) tt tt h)),
    )
  where
    l : 0 * down d + 0 * down e ≡ n * up d * down e + m * up e * down d → m * up e * down d ≡ 0
    l k = omega arith

    r : 0 * down d + 0 * down e ≡ n * up d * down e + m * up e * down d → n * up d * down e ≡ 0
    r k = omega arith

like-false : (s : Bool) → unlike s false ≡ s
like-false true = refl
like-false false = refl

pub div-one : (f : Format) (x : Float) → T (fits f x) → T (finite x) → div f x one ≡ x
unfolding div
div-one f nan t p = absurd p
div-one f (inf s) t p = absurd p
div-one f (fin s m e) t p =
    ap (λ (b : Bool). round f b (m * up e * 1) (1 * down e)) (like-false s)
    ∙ ap₂ (λ (a c : ℕ). round f s a c) (mul-one (m * up e)) (one-mul (down e)) ∙ round-own f s m e t

-- ---- the difference of a finite value and itself is zero, and no other value has one
none : (f : Format) (a c : ℕ) → 0 < c → round f false (a - a) c ≡ fzero
none f a c C = ap (λ (z : ℕ). round f false z c) gone ∙ round-zero f false c C
  where
    gone : a - a ≡ 0
    gone = omega arith

pick_true : (f : Format) (a c : ℕ) → 0 < c → (t : Bool) → (T t → a < a) → cond t (round f false (a - a) c) (round f t (a - a) c) ≡ fzero
pick_true f a c C true h = none f a c C
pick_true f a c C false h = none f a c C

pick-false : (f : Format) (a c : ℕ) → 0 < c → (t : Bool) → (T t → a < a) → cond t (round f true (a - a) c) (round f false (a - a) c) ≡ fzero
pick-false f a c C true h = absurd (lt_irrefl a (h tt))
pick-false f a c C false h = none f a c C

pub sub_self : (f : Format) (x : Float) → T (finite x) → sub f x x ≡ fzero
unfolding sub
sub_self f nan p = absurd p
sub_self f (inf s) p = absurd p
sub_self f (fin s m e) p = go s (m * up e * down e) (down e * down e) (mul-pos (den_pos (fin s m e)) (den_pos (fin s m e)))
  where
    go : (s : Bool) (a c : ℕ) → 0 < c → sum f s a (not s) a c ≡ fzero
    go true a c C = pick_true f a c C (nat_lt a a) (ltb→lt a a)
    go false a c C = pick-false f a c C (nat_lt a a) (ltb→lt a a)

-- the test of `is_finite`, x - x == 0
pub finite-test : (x : Float) → eq (sub binary64 x x) fzero ≡ finite x
finite-test nan = unfold sub add eq in refl
finite-test (inf true) = unfold sub neg add eq in refl
finite-test (inf false) = unfold sub neg add eq in refl
finite-test (fin s m e) = ap (λ (z : Float). eq z fzero) (sub_self binary64 (fin s m e) tt) ∙ (unfold eq in refl)
