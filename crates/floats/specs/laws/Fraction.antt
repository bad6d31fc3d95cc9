-- A finite float is (plus - mins) / den, three natural numbers, so that no law goes by the cases of two signs: `le`, `lt` and `eq` of
-- finite values are the order of these fractions. The order's own laws are in Order. Assumes nothing.
use Rattle.std.specs.Prelude.{◌≡◌, ℕ, ◌+◌, ◌*◌, ◌<◌, ◌≤◌, Bool, true, false, not, ◌&&◌, ◌||◌, T, ◌⊎◌, ◌==◌, nat_lt, refl, Float}
use Rattle.std.proofs.Common.{sym, ap, ◌∙◌, subst, inl, inr, le_trans, le_of_eq, le_of_lt, le_antisymm, add-mul, mul_right_comm, mul-le-mul_right, le_of_mul-le-mul_right, arith, eqb→eq, ltb→lt, lt→ltb, nltb→le}
use Rattle.std.specs.Float.{nan, inf, fin}
use Rattle.std.specs.Float.Ieee.{up, down, le, lt, eq}
use Rattle.std.specs.Float.Ieee.Fits.{and_i, and_l, and_r, eq→eqb}
use Rattle.std.specs.Float.Ieee.Scale.{finite}
use Rattle.std.specs.Float.Ieee.Positive.{den}
use Rattle.floats.specs.Fraction.{plus}

-- ---- tests
pub or_l : (a b : Bool) → T a → T (a || b)
or_l true b t = tt
or_l false b t = absurd t

pub or_r : (a b : Bool) → T b → T (a || b)
or_r true b t = tt
or_r false b t = t

pub or_split : (a b : Bool) → T (a || b) → T a ⊎ T b
or_split true b t = inl tt
or_split false b t = inr t

pub decide : (a : Bool) → T a ⊎ T (not a)
decide true = inl tt
decide false = inr tt

-- a branch's fact, as a test
pub yes_of : {b : Bool} → b ≡ true → T b
yes_of e = subst T (sym e) tt

pub no_of : {b : Bool} → b ≡ false → T (not b)
no_of e = subst (λ (x : Bool). T (not x)) (sym e) tt

pub is_true : (b : Bool) → T b → b ≡ true
is_true true t = refl
is_true false t = absurd t

abbrev pub mins : Float → ℕ
mins nan = 0
mins (inf s) = 0
mins (fin false m e) = 0
mins (fin true m e) = m * up e

-- x ≤ y and x < y, as one of these fractions
abbrev pub Cross : Float → Float → Type 0
Cross x y = plus x * den y + mins y * den x ≤ plus y * den x + mins x * den y

abbrev pub CrossLt : Float → Float → Type 0
CrossLt x y = plus x * den y + mins y * den x < plus y * den x + mins x * den y

-- ---- the tests on two numbers with their signs, as orders; u and v are what a 0 is multiplied by
le-num : (a b : ℕ) → T (nat_lt a b || (a == b && true)) → a ≤ b
le-num a b t = elim (or_split (nat_lt a b) (a == b && true) t)
    [ inl k ↦ le_of_lt (ltb→lt a b k) | inr k ↦ le_of_eq (eqb→eq a b (and_l (a == b) true k)) ]

num-le : (a b : ℕ) → a ≤ b → T (nat_lt a b || (a == b && true))
num-le a b h = elim (decide (nat_lt a b)) [
  | inl k ↦ or_l (nat_lt a b) (a == b && true) k
  | inr k ↦ or_r (nat_lt a b) (a == b && true) (and_i (a == b) true (eq→eqb (le_antisymm h (nltb→le a b k))) tt)
]

mixed : (a b : ℕ) → T (nat_lt 0 (a + b) || (a == b && (false || a == 0)))
mixed a b = elim (decide (nat_lt 0 (a + b))) [
  | inl k ↦ or_l (nat_lt 0 (a + b)) (a == b && a == 0) k
  | inr k ↦ or_r (nat_lt 0 (a + b)) (a == b && a == 0)
      (and_i (a == b) (a == 0) (eq→eqb (one (nltb→le 0 (a + b) k))) (eq→eqb (two (nltb→le 0 (a + b) k))))
]
  where
    one : a + b ≤ 0 → a ≡ b
    one h = omega arith

    two : a + b ≤ 0 → a ≡ 0
    two h = omega arith

none : (a b : ℕ) → a + b ≤ 0 → T (a == b && a == 0)
none a b h = and_i (a == b) (a == 0) (eq→eqb one) (eq→eqb two)
  where
    one : a ≡ b
    one = omega arith

    two : a ≡ 0
    two = omega arith

c-ff : (a b u v : ℕ) → a ≤ b → a + 0 * u ≤ b + 0 * v
c-ff a b u v h = omega arith

c-tt : (a b u v : ℕ) → b ≤ a → 0 * v + b ≤ 0 * u + a
c-tt a b u v h = omega arith

c-ft : (a b u v : ℕ) → a ≡ b → a ≡ 0 → a + b ≤ 0 * u + 0 * v
c-ft a b u v h k = omega arith

c-tf : (a b u v : ℕ) → 0 * v + 0 * u ≤ b + a
c-tf a b u v = omega arith

d-ff : (a b u v : ℕ) → a + 0 * u ≤ b + 0 * v → a ≤ b
d-ff a b u v h = omega arith

d-tt : (a b u v : ℕ) → 0 * v + b ≤ 0 * u + a → b ≤ a
d-tt a b u v h = omega arith

d-ft : (a b u v : ℕ) → a + b ≤ 0 * u + 0 * v → a + b ≤ 0
d-ft a b u v h = omega arith

s-ff : (a b u v : ℕ) → a < b → a + 0 * u < b + 0 * v
s-ff a b u v h = omega arith

s-tt : (a b u v : ℕ) → b < a → 0 * v + b < 0 * u + a
s-tt a b u v h = omega arith

s-tf : (a b u v : ℕ) → 0 < a + b → 0 * v + 0 * u < b + a
s-tf a b u v h = omega arith

e-ff : (a b u v : ℕ) → a + 0 * u < b + 0 * v → a < b
e-ff a b u v h = omega arith

e-tt : (a b u v : ℕ) → 0 * v + b < 0 * u + a → b < a
e-tt a b u v h = omega arith

e-ft : (a b u v : ℕ) → a + b < 0 * u + 0 * v → ⊥
e-ft a b u v h = omega arith

e-tf : (a b u v : ℕ) → 0 * v + 0 * u < b + a → 0 < a + b
e-tf a b u v h = omega arith

-- ---- `le` and `lt` of finite values are the fractions'
pub le→cross : (x y : Float) → T (finite x) → T (finite y) → T (le x y) → Cross x y
unfolding le
le→cross nan y p q h = absurd p
le→cross (inf s) y p q h = absurd p
le→cross (fin s m e) nan p q h = absurd q
le→cross (fin s m e) (inf t) p q h = absurd q
le→cross (fin false m e) (fin false n d) p q h = c-ff (m * up e * down d) (n * up d * down e) (down e) (down d)
    (le-num (m * up e * down d) (n * up d * down e) h)
le→cross (fin false m e) (fin true n d) p q h =
    let a = m * up e * down d in
    let b = n * up d * down e in
    c-ft a b (down e) (down d) (eqb→eq a b (and_l (a == b) (a == 0) h)) (eqb→eq a 0 (and_r (a == b) (a == 0) h))
le→cross (fin true m e) (fin false n d) p q h = c-tf (m * up e * down d) (n * up d * down e) (down e) (down d)
le→cross (fin true m e) (fin true n d) p q h =
    let a = m * up e * down d in
    let b = n * up d * down e in
    c-tt a b (down e) (down d) (flip a b h)
  where
    flip : (a b : ℕ) → T (nat_lt b a || (a == b && true)) → b ≤ a
    flip a b t = elim (or_split (nat_lt b a) (a == b && true) t)
        [ inl k ↦ le_of_lt (ltb→lt b a k) | inr k ↦ le_of_eq (sym (eqb→eq a b (and_l (a == b) true k))) ]

pub cross→le : (x y : Float) → T (finite x) → T (finite y) → Cross x y → T (le x y)
unfolding le
cross→le nan y p q h = absurd p
cross→le (inf s) y p q h = absurd p
cross→le (fin s m e) nan p q h = absurd q
cross→le (fin s m e) (inf t) p q h = absurd q
cross→le (fin false m e) (fin false n d) p q h =
    num-le (m * up e * down d) (n * up d * down e) (d-ff (m * up e * down d) (n * up d * down e) (down e) (down d) h)
cross→le (fin false m e) (fin true n d) p q h =
    none (m * up e * down d) (n * up d * down e) (d-ft (m * up e * down d) (n * up d * down e) (down e) (down d) h)
cross→le (fin true m e) (fin false n d) p q h = mixed (m * up e * down d) (n * up d * down e)
cross→le (fin true m e) (fin true n d) p q h =
    let a = m * up e * down d in
    let b = n * up d * down e in
    flip a b (d-tt a b (down e) (down d) h)
  where
    flip : (a b : ℕ) → b ≤ a → T (nat_lt b a || (a == b && true))
    flip a b h = elim (decide (nat_lt b a)) [
      | inl k ↦ or_l (nat_lt b a) (a == b && true) k
      | inr k ↦ or_r (nat_lt b a) (a == b && true) (and_i (a == b) true (eq→eqb (le_antisymm (nltb→le b a k) h)) tt)
    ]

pub lt→cross : (x y : Float) → T (finite x) → T (finite y) → T (lt x y) → CrossLt x y
unfolding lt
lt→cross nan y p q h = absurd p
lt→cross (inf s) y p q h = absurd p
lt→cross (fin s m e) nan p q h = absurd q
lt→cross (fin s m e) (inf t) p q h = absurd q
lt→cross (fin false m e) (fin false n d) p q h = s-ff (m * up e * down d) (n * up d * down e) (down e) (down d)
    (ltb→lt (m * up e * down d) (n * up d * down e) h)
lt→cross (fin false m e) (fin true n d) p q h = absurd h
lt→cross (fin true m e) (fin false n d) p q h = s-tf (m * up e * down d) (n * up d * down e) (down e) (down d)
    (ltb→lt 0 (m * up e * down d + n * up d * down e) h)
lt→cross (fin true m e) (fin true n d) p q h = s-tt (m * up e * down d) (n * up d * down e) (down e) (down d)
    (ltb→lt (n * up d * down e) (m * up e * down d) h)

pub cross→lt : (x y : Float) → T (finite x) → T (finite y) → CrossLt x y → T (lt x y)
unfolding lt
cross→lt nan y p q h = absurd p
cross→lt (inf s) y p q h = absurd p
cross→lt (fin s m e) nan p q h = absurd q
cross→lt (fin s m e) (inf t) p q h = absurd q
cross→lt (fin false m e) (fin false n d) p q h =
    lt→ltb (m * up e * down d) (n * up d * down e) (e-ff (m * up e * down d) (n * up d * down e) (down e) (down d) h)
cross→lt (fin false m e) (fin true n d) p q h = absurd (e-ft (m * up e * down d) (n * up d * down e) (down e) (down d) h)
cross→lt (fin true m e) (fin false n d) p q h =
    lt→ltb 0 (m * up e * down d + n * up d * down e) (e-tf (m * up e * down d) (n * up d * down e) (down e) (down d) h)
cross→lt (fin true m e) (fin true n d) p q h =
    lt→ltb (n * up d * down e) (m * up e * down d) (e-tt (m * up e * down d) (n * up d * down e) (down e) (down d) h)

-- ---- three fractions with signs
pub cross-trans : (P N d P' N' d' P'' N'' d'' : ℕ) → 0 < d' → P * d' + N' * d ≤ P' * d + N * d' → P' * d'' + N'' * d' ≤ P'' * d' + N' * d''
    → P * d'' + N'' * d ≤ P'' * d + N * d''
cross-trans P N d P' N' d' P'' N'' d'' D h k =
    le_of_mul-le-mul_right
    (sums (P * d' * d'') (N' * d * d'') (P' * d * d'') (N * d' * d'') (N'' * d' * d) (P'' * d' * d) ((P * d'' + N'' * d) * d')
    ((P'' * d + N * d'') * d')
    (le_trans (le_of_eq (sym (add-mul (P * d') (N' * d) d'')))
    (le_trans (mul-le-mul_right d'' h) (le_of_eq (add-mul (P' * d) (N * d') d''))))
    (le_trans (le_of_eq (ap (λ (z : ℕ). z + N'' * d' * d) (mul_right_comm P' d d'') ∙ sym (add-mul (P' * d'') (N'' * d') d)))
    (le_trans (mul-le-mul_right d k)
    (le_of_eq (add-mul (P'' * d') (N' * d'') d ∙ ap (λ (z : ℕ). P'' * d' * d + z) (mul_right_comm N' d'' d)))))
    (add-mul (P * d'') (N'' * d) d' ∙ ap (λ (z : ℕ). z + N'' * d * d') (mul_right_comm P d'' d')
    ∙ ap (λ (z : ℕ). P * d' * d'' + z) (mul_right_comm N'' d d'))
    (add-mul (P'' * d) (N * d'') d' ∙ ap (λ (z : ℕ). z + N * d'' * d') (mul_right_comm P'' d d')
    ∙ ap (λ (z : ℕ). P'' * d' * d + z) (mul_right_comm N d'' d')))
    D
  where
    sums : (a b c n e f g h : ℕ) → a + b ≤ c + n → c + e ≤ f + b → g ≡ a + e → h ≡ f + n → g ≤ h
    sums a b c n e f g h p q r s = omega arith

q-ff : (a b u v : ℕ) → T (a == b && true) → a + 0 * u ≡ b + 0 * v
q-ff a b u v t = let e : a ≡ b = eqb→eq a b (and_l (a == b) true t) in omega arith

q-tt : (a b u v : ℕ) → T (a == b && true) → 0 * v + b ≡ 0 * u + a
q-tt a b u v t = let e : a ≡ b = eqb→eq a b (and_l (a == b) true t) in omega arith

q-ft : (a b u v : ℕ) → T (a == b && a == 0) → a + b ≡ 0 * u + 0 * v
q-ft a b u v t = let e : a ≡ b = eqb→eq a b (and_l (a == b) (a == 0) t) in let z : a ≡ 0 = eqb→eq a 0 (and_r (a == b) (a == 0) t) in
    omega arith

q-tf : (a b u v : ℕ) → T (a == b && a == 0) → 0 * v + 0 * u ≡ b + a
q-tf a b u v t = let e : a ≡ b = eqb→eq a b (and_l (a == b) (a == 0) t) in let z : a ≡ 0 = eqb→eq a 0 (and_r (a == b) (a == 0) t) in
    omega arith

pub eq→cross : (x y : Float) → T (finite x) → T (finite y) → T (eq x y) → plus x * den y + mins y * den x ≡ plus y * den x + mins x * den y
unfolding eq
eq→cross nan y p q h = absurd p
eq→cross (inf s) y p q h = absurd p
eq→cross (fin s m e) nan p q h = absurd q
eq→cross (fin s m e) (inf t) p q h = absurd q
eq→cross (fin false m e) (fin false n d) p q h = q-ff (m * up e * down d) (n * up d * down e) (down e) (down d) h
eq→cross (fin false m e) (fin true n d) p q h = q-ft (m * up e * down d) (n * up d * down e) (down e) (down d) h
eq→cross (fin true m e) (fin false n d) p q h = q-tf (m * up e * down d) (n * up d * down e) (down e) (down d) h
eq→cross (fin true m e) (fin true n d) p q h = q-tt (m * up e * down d) (n * up d * down e) (down e) (down d) h
