-- The steps of the code that takes 360 away, and where there is none to take. Assumes nothing.
use Rattle.std.specs.Prelude.{◌≡◌, ℕ, suc, ◌+◌, ◌-◌, ◌*◌, ◌%◌, ◌^◌, ◌<◌, ◌≤◌, Bool, true, false, not, T, ℤ, pos, Float}
use Rattle.std.proofs.Math.Path.{refl}
use Rattle.std.proofs.Common.{sym, ap, ap₂, ◌∙◌, subst, arith, pow-add, pow_pos, ltb→lt}
use native.Mathlib.Nat.{lt_of_lt_of_le, le_of_eq, le_trans, mul-lt-mul_of_pos_right, mul-one, pow-suc, mod-eq_of_lt}
use lib.Dec.{lt→ltb, lit<, nltb→le}
use lib.Pow.{pow_mono}
use Rattle.std.specs.Float.{nan, inf, fin, binary64}
use Rattle.std.specs.Float.Ieee.{up, down, le, lt, round, neg, add, sub, div, rem, fits, of_bits, of_int}
use Rattle.std.specs.Float.Ieee.Fits.{down_pos}
use Rattle.std.specs.Float.Ieee.Scale.{finite, round_same}
use Rattle.floats.specs.Numbers.{zero, two}
use Rattle.floats.specs.laws.Order.{lt_not_le, not-lt→le, finite-not-nan}
use Rattle.floats.specs.laws.Exact.{round-own}
use Rattle.floats.specs.laws.Fraction.{is_true}
use Rattle.floats.specs.laws.Rounding.{neg-round}
use Rattle.range.specs.Range.{full_circle}
use Rattle.ask_box_plan.proofs.Remainder.{d360, Left, left-begins, left-taken, left-stays, left-ends}

is360 : full_circle ≡ d360
unfolding of_int round
is360 = refl

-- ---- 360 * 2 ^ 1015, and its halves

pub begins : of_bits binary64 9216194424948654080 ≡ fin false 45 (pos 1018)
unfolding of_bits
begins = refl

in-range : (n : ℕ) → n ≤ 1018 → 45 * 2 ^ n < 2 ^ 1024
in-range n h =
    let a : 45 < 2 ^ 6 = lit< tt in
    let b : 6 + n ≤ 1024 = omega arith in
    lt_of_lt_of_le (mul-lt-mul_of_pos_right a (pow_pos n)) (le_trans (le_of_eq (sym (pow-add 2 6 n))) (pow_mono b))

turn-fits : (n : ℕ) → n ≤ 1018 → T (fits binary64 (fin false 45 (pos n)))
unfolding fits
turn-fits n h = lt→ltb (45 * 2 ^ n) (2 ^ 1024 * 1) (subst (λ (z : ℕ). 45 * 2 ^ n < z) (sym (mul-one (2 ^ 1024))) (in-range n h))

half-of : (p q : ℕ) → q ≡ p * 2 → 45 * q * 1 * 1 ≡ 45 * p * (1 * 2 * 1)
half-of p q e = omega arith

halved : (n : ℕ) → n ≤ 1018 → div binary64 (fin false 45 (pos (suc n))) two ≡ fin false 45 (pos n)
unfolding div
halved n h =
    round_same binary64 false (45 * 2 ^ suc n * 1) (1 * 2 * 1) (45 * 2 ^ n) 1 (lit< tt) (lit< tt)
    (half-of (2 ^ n) (2 ^ suc n) (pow-suc 2 n))
    ∙ round-own binary64 false 45 (pos n) (turn-fits n h)

-- ---- the remainder of what is no finite number, of a number below 360, and of one that is negative

pub none-left : (x : Float) → finite x ≡ false → sub binary64 x x ≡ rem binary64 x full_circle
unfolding rem sub add neg
none-left nan h = refl
none-left (inf true) h = refl
none-left (inf false) h = refl
none-left (fin s m e) h = absurd (subst T h tt)

below : (s : Bool) (m : ℕ) (e : ℤ) → T (fits binary64 (fin s m e)) → m * up e * 1 < 45 * 2 ^ 3 * down e
    → fin s m e ≡ rem binary64 (fin s m e) full_circle
unfolding rem
below s m e f h =
    subst (λ (z : Float). fin s m e ≡ rem binary64 (fin s m e) z) (sym is360)
    (sym (ap₂ (λ (a c : ℕ). round binary64 s a c) (mod-eq_of_lt h ∙ mul-one (m * up e)) (mul-one (down e)) ∙ round-own binary64 s m e f))

no : {A : Type 0} → false ≡ true → A
no h = absurd (subst T (sym h) tt)

zero-below : (a b c : ℕ) → 0 < c → a + b ≤ 0 → a < 45 * 2 ^ 3 * c
zero-below a b c p h = omega arith

none-below : (a c : ℕ) → a < 0 * 1 * c → ⊥
none-below a c h = omega arith

pub all-left : (x : Float) → T (fits binary64 x) → lt x zero ≡ false → lt x d360 ≡ true → x ≡ rem binary64 x full_circle
unfolding lt
all-left nan f k h = no h
all-left (inf true) f k h = no (sym k)
all-left (inf false) f k h = no h
all-left (fin false m e) f k h = below false m e f (ltb→lt _ _ (subst T (sym h) tt))
all-left (fin true m e) f k h =
    below true m e f
    (zero-below (m * up e * 1) (0 * 1 * down e) (down e) (down_pos e) (nltb→le 0 _ (subst (λ (b : Bool). T (not b)) (sym k) tt)))

pub all-left-below : (x : Float) → T (fits binary64 x) → lt x zero ≡ true → lt (neg x) d360 ≡ true → x ≡ rem binary64 x full_circle
unfolding lt neg
all-left-below nan f k h = no h
all-left-below (inf true) f k h = no h
all-left-below (inf false) f k h = no k
all-left-below (fin false m e) f k h = absurd (none-below (m * up e * 1) (down e) (ltb→lt _ _ (subst T (sym k) tt)))
all-left-below (fin true m e) f k h = below true m e f (ltb→lt _ _ (subst T (sym h) tt))

turned : (x : Float) → neg (rem binary64 (neg x) d360) ≡ rem binary64 x d360
unfolding rem neg
turned nan = refl
turned (inf s) = refl
turned (fin false m e) = neg-round binary64 true (m * up e * 1 % (45 * 2 ^ 3 * down e)) (down e * 1)
turned (fin true m e) = neg-round binary64 false (m * up e * 1 % (45 * 2 ^ 3 * down e)) (down e * 1)

pub mirrored : (x : Float) → neg (rem binary64 (neg x) full_circle) ≡ rem binary64 x full_circle
mirrored x = subst (λ (z : Float). neg (rem binary64 (neg x) z) ≡ rem binary64 x z) (sym is360) (turned x)

-- ---- the start

pub first : (x : Float) → T (fits binary64 x) → T (finite x) → T (le full_circle x) → Left 1018 x x
first nan f p h = absurd p
first (inf s) f p h = absurd p
first (fin false m e) f p h = left-begins (fin false m e) m e refl f
first (fin true m e) f p h =
    absurd (lt_not_le (fin true m e) d360 (unfold lt in lt→ltb 0 (m * up e * 1 + 45 * 2 ^ 3 * down e) (omega (arith, down_pos e)))
    (subst (λ (z : Float). T (le z (fin true m e))) is360 h))

-- ---- a turn: the number is taken where it is not more than what is left, and then halved

pub taken : (i : ℕ) (x y t : Float) → i < 1016 → Left (1018 - i) x y → t ≡ fin false 45 (pos (1018 - i)) → le t y ≡ true
    → Left (1018 - (i + 1)) x (sub binary64 y t)
taken i x y t h l e k =
    let a : 3 ≤ 1018 - i = omega arith in
    let b : 1018 - i ≤ 1018 = omega arith in
    let n : 1018 - i - 1 ≡ 1018 - (i + 1) = omega arith in
    subst (λ (z : Float). Left (1018 - (i + 1)) x (sub binary64 y z)) (sym e)
    (subst (λ (j : ℕ). Left j x (sub binary64 y (fin false 45 (pos (1018 - i))))) n
    (left-taken (1018 - i) x y a b l (subst (λ (z : Float). le z y ≡ true) e k)))

pub stays : (i : ℕ) (x y t : Float) → i < 1016 → Left (1018 - i) x y → t ≡ fin false 45 (pos (1018 - i)) → le t y ≡ false
    → Left (1018 - (i + 1)) x y
stays i x y t h l e k =
    let a : 1 ≤ 1018 - i = omega arith in
    let n : 1018 - i - 1 ≡ 1018 - (i + 1) = omega arith in
    subst (λ (j : ℕ). Left j x y) n (left-stays (1018 - i) x y a l (subst (λ (z : Float). le z y ≡ false) e k))

pub halves : (i : ℕ) (t : Float) → i < 1016 → t ≡ fin false 45 (pos (1018 - i))
    → div binary64 t two ≡ fin false 45 (pos (1018 - (i + 1)))
halves i t h e =
    let n : 1018 - i ≡ suc (1018 - (i + 1)) = omega arith in
    let b : 1018 - (i + 1) ≤ 1018 = omega arith in
    ap (λ (z : Float). div binary64 z two) (e ∙ ap (λ (j : ℕ). fin false 45 (pos j)) n) ∙ halved (1018 - (i + 1)) b

pub ends : (i : ℕ) (x y : Float) → i ≡ 1016 → Left (1018 - i) x y → y ≡ rem binary64 x full_circle
ends i x y e l =
    subst (λ (z : Float). y ≡ rem binary64 x z) (sym is360) (left-ends x y (subst (λ (j : ℕ). Left (1018 - j) x y) e l))

-- ---- from 360 on, where it is not below 360

pub from-360 : (x : Float) → T (finite x) → lt x d360 ≡ false → T (le full_circle x)
from-360 nan p h = absurd p
from-360 (inf s) p h = absurd p
from-360 (fin s m e) p h =
    subst (λ (z : Float). T (le z (fin s m e))) (sym is360)
    (not-lt→le (fin s m e) d360 (finite-not-nan (fin s m e) tt) (finite-not-nan d360 tt) (subst (λ (b : Bool). T (not b)) (sym h) tt))

-- ---- once is enough below 720

twice : (m u c : ℕ) → m * u * 1 < 45 * 2 ^ 4 * c → m * u < 45 * 2 ^ (3 + 1) * c
twice m u c h = subst (λ (z : ℕ). z < 45 * 2 ^ 4 * c) (mul-one (m * u)) h

pub once : (x : Float) → T (fits binary64 x) → T (finite x) → T (le full_circle x) → lt x (fin false 45 (pos 4)) ≡ true
    → sub binary64 x d360 ≡ rem binary64 x full_circle
unfolding lt
once nan f p h k = absurd p
once (inf s) f p h k = absurd p
once (fin true m e) f p h k =
    absurd (lt_not_le (fin true m e) d360 (unfold lt in lt→ltb 0 (m * up e * 1 + 45 * 2 ^ 3 * down e) (omega (arith, down_pos e)))
    (subst (λ (z : Float). T (le z (fin true m e))) is360 h))
once (fin false m e) f p h k =
    let y = fin false m e in
    let b = twice m (up e) (down e) (ltb→lt _ _ (subst T (sym k) tt)) in
    let l : Left 3 y y = record { m = m; e = e; is = refl; held = f; below = b; same = refl } in
    let g : le d360 y ≡ true = is_true (le d360 y) (subst (λ (z : Float). T (le z y)) is360 h) in
    subst (λ (z : Float). sub binary64 y d360 ≡ rem binary64 y z) (sym is360)
    (left-ends y (sub binary64 y d360) (left-taken 3 y y (omega arith) (omega arith) l g))
