-- What each operation of finite values rounds: a sum, a product and a quotient as (P - N) / c of Rounding, from the fractions of the
-- operands. Assumes nothing.
use Rattle.std.specs.Prelude.{◌≡◌, ℕ, ◌+◌, ◌-◌, ◌*◌, ◌<◌, ◌≤◌, Bool, true, false, cond, not, T, ◌==◌, nat_lt, refl, Float}
use Rattle.std.proofs.Common.{sym, ap, subst, inl, inr, add-mul, mul-add, add_assoc, add_comm, mul_comm, mul_assoc, mul_left_comm, arith, eqb→eq, ltb→lt, nltb→le}
use Rattle.std.proofs.Math.Nat.{add_left_comm}
use Rattle.std.specs.Float.{nan, inf, fin, Format}
use Rattle.std.specs.Float.Ieee.{up, down, round, sum, add, mul, div}
use Rattle.std.specs.Float.Ieee.Scale.{finite}
use Rattle.std.specs.Float.Ieee.Positive.{num, den, positive}
use Rattle.floats.specs.Fraction.{plus}
use Rattle.floats.specs.laws.Fraction.{mins}
use Rattle.floats.specs.laws.Rounding.{Rounds}

-- sums of products in one form
pub ruleset ring = (add-mul, mul-add, mul_assoc, mul_comm, mul_left_comm, add_assoc, add_comm, add_left_comm)

-- ---- what each operation rounds
at-plus : (f : Format) (k P N c : ℕ) → N ≤ P → k ≡ P - N → Rounds f (round f false k c) P N c
at-plus f k P N c h e = inl (h, ap (λ (z : ℕ). round f false z c) e)

at-mins : (f : Format) (k P N c : ℕ) → P ≤ N → k ≡ N - P → Rounds f (round f true k c) P N c
at-mins f k P N c h e = inr (h, ap (λ (z : ℕ). round f true z c) e)

-- a - b
less : (f : Format) (a b c u v : ℕ) → Rounds f (cond (nat_lt a b) (round f true (b - a) c) (round f false (a - b) c)) (a + 0 * u) (0 * v + b) c
less f a b c u v = go (nat_lt a b) (ltb→lt a b) (nltb→le a b)
  where
    go : (t : Bool) → (T t → a < b) → (T (not t) → b ≤ a) → Rounds f (cond t (round f true (b - a) c) (round f false (a - b) c)) (a + 0 * u)
        (0 * v + b) c
    go true h k = let l : a < b = h tt in at-mins f (b - a) (a + 0 * u) (0 * v + b) c (omega arith) (omega arith)
    go false h k = let l : b ≤ a = k tt in at-plus f (a - b) (a + 0 * u) (0 * v + b) c (omega arith) (omega arith)

-- b - a, where a zero is +0
more : (f : Format) (a b c u v : ℕ) → Rounds f (cond (nat_lt a b) (round f false (b - a) c) (round f (nat_lt b a) (a - b) c)) (0 * v + b)
    (a + 0 * u) c
more f a b c u v = go (nat_lt a b) (nat_lt b a) (ltb→lt a b) (nltb→le a b) (ltb→lt b a) (nltb→le b a)
  where
    go : (t w : Bool) → (T t → a < b) → (T (not t) → b ≤ a) → (T w → b < a) → (T (not w) → a ≤ b)
        → Rounds f (cond t (round f false (b - a) c) (round f w (a - b) c)) (0 * v + b) (a + 0 * u) c
    go true w h k i j = let l : a < b = h tt in at-plus f (b - a) (0 * v + b) (a + 0 * u) c (omega arith) (omega arith)
    go false true h k i j = let l : b < a = i tt in at-mins f (a - b) (0 * v + b) (a + 0 * u) c (omega arith) (omega arith)
    go false false h k i j = let l : a ≤ b = j tt in let r : b ≤ a = k tt in
        at-plus f (a - b) (0 * v + b) (a + 0 * u) c (omega arith) (omega arith)

pub add_rounds : (f : Format) (x y : Float) → T (finite x) → T (finite y)
    → Rounds f (add f x y) (plus x * den y + plus y * den x) (mins x * den y + mins y * den x) (den x * den y)
unfolding add sum
add_rounds f nan y p q = absurd p
add_rounds f (inf s) y p q = absurd p
add_rounds f (fin s m e) nan p q = absurd q
add_rounds f (fin s m e) (inf t) p q = absurd q
add_rounds f (fin false m e) (fin false n d) p q = at-plus f (m * up e * down d + n * up d * down e) (m * up e * down d + n * up d * down e)
    (0 * down d + 0 * down e) (down e * down d) (omega arith) (omega arith)
add_rounds f (fin false m e) (fin true n d) p q = less f (m * up e * down d) (n * up d * down e) (down e * down d) (down e) (down d)
add_rounds f (fin true m e) (fin false n d) p q = more f (m * up e * down d) (n * up d * down e) (down e * down d) (down e) (down d)
add_rounds f (fin true m e) (fin true n d) p q = at-mins f (m * up e * down d + n * up d * down e) (0 * down d + 0 * down e)
    (m * up e * down d + n * up d * down e) (down e * down d) (omega arith) (omega arith)

pub mul-rounds : (f : Format) (x y : Float) → T (finite x) → T (finite y)
    → Rounds f (mul f x y) (plus x * plus y + mins x * mins y) (plus x * mins y + mins x * plus y) (den x * den y)
unfolding mul
mul-rounds f nan y p q = absurd p
mul-rounds f (inf s) y p q = absurd p
mul-rounds f (fin s m e) nan p q = absurd q
mul-rounds f (fin s m e) (inf t) p q = absurd q
mul-rounds f (fin false m e) (fin false n d) p q = at-plus f (m * up e * (n * up d)) (m * up e * (n * up d) + 0 * 0)
    (m * up e * 0 + 0 * (n * up d)) (down e * down d) (omega arith) (omega arith)
mul-rounds f (fin false m e) (fin true n d) p q = at-mins f (m * up e * (n * up d)) (m * up e * 0 + 0 * (n * up d))
    (m * up e * (n * up d) + 0 * 0) (down e * down d) (omega arith) (omega arith)
mul-rounds f (fin true m e) (fin false n d) p q = at-mins f (m * up e * (n * up d)) (0 * (n * up d) + m * up e * 0)
    (0 * 0 + m * up e * (n * up d)) (down e * down d) (omega arith) (omega arith)
mul-rounds f (fin true m e) (fin true n d) p q = at-plus f (m * up e * (n * up d)) (0 * 0 + m * up e * (n * up d))
    (0 * (n * up d) + m * up e * 0) (down e * down d) (omega arith) (omega arith)

pub skip : {X : Type 0} (n : ℕ) (u v : X) → T (nat_lt 0 n) → cond (n == 0) u v ≡ v
skip n u v h = go (n == 0) (λ (t : T (n == 0)). absurd (bad (eqb→eq n 0 t)))
  where
    bad : n ≡ 0 → ⊥
    bad e = omega (arith, ltb→lt 0 n h)

    go : (b : Bool) → (T b → ⊥) → cond b u v ≡ v
    go true k = absurd (k tt)
    go false k = refl

pub div-rounds : (f : Format) (x y : Float) → T (finite x) → T (positive y)
    → Rounds f (div f x y) (plus x * den y) (mins x * den y) (num y * den x)
unfolding div
div-rounds f nan y p q = absurd p
div-rounds f (inf s) y p q = absurd p
div-rounds f (fin s m e) nan p q = absurd q
div-rounds f (fin s m e) (inf t) p q = absurd q
div-rounds f (fin s m e) (fin true n d) p q = absurd q
div-rounds f (fin false m e) (fin false n d) p q =
    subst (λ (z : Float). Rounds f z (m * up e * down d) (0 * down d) (n * up d * down e))
    (sym (skip n (cond (m == 0) nan (inf false)) (round f false (m * up e * down d) (n * up d * down e)) q))
    (at-plus f (m * up e * down d) (m * up e * down d) (0 * down d) (n * up d * down e) (omega arith) (omega arith))
div-rounds f (fin true m e) (fin false n d) p q =
    subst (λ (z : Float). Rounds f z (0 * down d) (m * up e * down d) (n * up d * down e))
    (sym (skip n (cond (m == 0) nan (inf true)) (round f true (m * up e * down d) (n * up d * down e)) q))
    (at-mins f (m * up e * down d) (0 * down d) (m * up e * down d) (n * up d * down e) (omega arith) (omega arith))
