-- Signs: the product's sides change places, and a sign goes through it; what is not negative has no part below zero, and its sums,
-- products and quotients are not negative. Assumes nothing.
use Rattle.std.specs.Prelude.{◌≡◌, ℕ, ◌+◌, ◌*◌, ◌<◌, ◌≤◌, Bool, true, false, cond, not, ◌&&◌, T, ◌==◌, refl, Float}
use Rattle.std.proofs.Common.{sym, ap, ap₂, ◌∙◌, inl, le_refl, le_trans, le_of_eq, mul_comm, mul-pos, zero-mul, mul-zero, mul-one, zero-lt-suc, arith, eqb→eq, ltb→lt}
use Prim.Native.Nat.{zero-le}
use Rattle.std.specs.Float.{nan, inf, fin, Format}
use Rattle.std.specs.Float.Ieee.{unlike, up, down, le, round, neg, add, mul, div}
use Rattle.std.specs.Float.Ieee.Fits.{up_pos, and_l, and_r}
use Rattle.std.specs.Float.Ieee.Scale.{finite}
use Rattle.std.specs.Float.Ieee.Positive.{num, den, den_pos, positive}
use Rattle.floats.specs.Numbers.{zero}
use Rattle.floats.specs.Fraction.{plus}
use Rattle.floats.specs.laws.Fraction.{mins}
use Rattle.floats.specs.laws.Operations.{add_rounds, mul-rounds, div-rounds}
use Rattle.floats.specs.laws.Rounding.{Rounds, rounds-mono, neg-round, round-zero}

-- ---- the product's sides
like : (s t : Bool) → unlike s t ≡ unlike t s
like true true = refl
like true false = refl
like false true = refl
like false false = refl

pub mul_commutes : (f : Format) (x y : Float) → mul f x y ≡ mul f y x
unfolding mul
mul_commutes f nan nan = refl
mul_commutes f nan (inf t) = refl
mul_commutes f nan (fin t n d) = refl
mul_commutes f (inf s) nan = refl
mul_commutes f (inf s) (inf t) = ap inf (like s t)
mul_commutes f (inf s) (fin t n d) = ap (λ (b : Bool). cond (n == 0) nan (inf b)) (like s t)
mul_commutes f (fin s m e) nan = refl
mul_commutes f (fin s m e) (inf t) = ap (λ (b : Bool). cond (m == 0) nan (inf b)) (like s t)
mul_commutes f (fin s m e) (fin t n d) =
    ap (λ (b : Bool). round f b (m * up e * (n * up d)) (down e * down d)) (like s t)
    ∙ ap₂ (λ (a c : ℕ). round f (unlike t s) a c) (mul_comm (m * up e) (n * up d)) (mul_comm (down e) (down d))

unlike-not : (s t : Bool) → unlike s (not t) ≡ not (unlike s t)
unlike-not true true = refl
unlike-not true false = refl
unlike-not false true = refl
unlike-not false false = refl

pub mul-neg : (f : Format) (x y : Float) → T (finite x) → T (finite y) → mul f x (neg y) ≡ neg (mul f x y)
unfolding mul neg
mul-neg f nan y p q = absurd p
mul-neg f (inf s) y p q = absurd p
mul-neg f (fin s m e) nan p q = absurd q
mul-neg f (fin s m e) (inf t) p q = absurd q
mul-neg f (fin s m e) (fin t n d) p q =
    ap (λ (b : Bool). round f b (m * up e * (n * up d)) (down e * down d)) (unlike-not s t)
    ∙ sym (neg-round f (unlike s t) (m * up e * (n * up d)) (down e * down d))

-- ---- what is not negative
no-mins : (a b : ℕ) → T (a == b && a == 0) → b ≡ 0
no-mins a b t = sym (eqb→eq a b (and_l (a == b) (a == 0) t)) ∙ eqb→eq a 0 (and_r (a == b) (a == 0) t)

pub nonneg-mins : (y : Float) → T (finite y) → T (le zero y) → mins y ≡ 0
unfolding le
nonneg-mins nan p h = absurd p
nonneg-mins (inf s) p h = absurd p
nonneg-mins (fin false n d) p h = refl
nonneg-mins (fin true n d) p h = sym (mul-one (n * up d)) ∙ no-mins (0 * 1 * down d) (n * up d * 1) h

pub num_pos : (x : Float) → T (positive x) → 0 < num x
num_pos nan p = absurd p
num_pos (inf s) p = absurd p
num_pos (fin true m e) p = absurd p
num_pos (fin false m e) p = mul-pos (ltb→lt 0 m p) (up_pos e)

rounds-nonneg : (f : Format) (x : Float) (P N c : ℕ) → 0 < c → Rounds f x P N c → N ≤ P → T (le zero x)
rounds-nonneg f x P N c C r h =
    rounds-mono f zero x 0 0 1 P N c (zero-lt-suc 0) C (inl (le_refl 0, sym (round-zero f false 1 (zero-lt-suc 0)))) r (omega arith)

nothing-below : (a b c d : ℕ) → b ≡ 0 → c ≡ 0 → a * b + c * d ≡ 0
nothing-below a b c d p q = ap₂ (λ (x y : ℕ). a * x + y * d) p q ∙ ap₂ (λ (x y : ℕ). x + y) (mul-zero a) (zero-mul d)

pub mul-nonneg : (f : Format) (x y : Float) → T (finite x) → T (finite y) → T (le zero x) → T (le zero y) → T (le zero (mul f x y))
mul-nonneg f x y p q h k =
    rounds-nonneg f (mul f x y) (plus x * plus y + mins x * mins y) (plus x * mins y + mins x * plus y) (den x * den y)
    (mul-pos (den_pos x) (den_pos y)) (mul-rounds f x y p q)
    (le_trans (le_of_eq (nothing-below (plus x) (mins y) (mins x) (plus y) (nonneg-mins y q k) (nonneg-mins x p h)))
    Prim.Native.Nat.zero-le)

pub add-nonneg : (f : Format) (x y : Float) → T (finite x) → T (finite y) → T (le zero x) → T (le zero y) → T (le zero (add f x y))
add-nonneg f x y p q h k =
    rounds-nonneg f (add f x y) (plus x * den y + plus y * den x) (mins x * den y + mins y * den x) (den x * den y)
    (mul-pos (den_pos x) (den_pos y)) (add_rounds f x y p q)
    (le_trans (le_of_eq (ap₂ (λ (a b : ℕ). a * den y + b * den x) (nonneg-mins x p h) (nonneg-mins y q k)
    ∙ ap₂ (λ (a b : ℕ). a + b) (zero-mul (den y)) (zero-mul (den x)))) Prim.Native.Nat.zero-le)

pub div-nonneg : (f : Format) (x y : Float) → T (finite x) → T (positive y) → T (le zero x) → T (le zero (div f x y))
div-nonneg f x y p q h =
    rounds-nonneg f (div f x y) (plus x * den y) (mins x * den y) (num y * den x) (mul-pos (num_pos y q) (den_pos x)) (div-rounds f x y p q)
    (le_trans (le_of_eq (ap (λ (a : ℕ). a * den y) (nonneg-mins x p h) ∙ zero-mul (den y))) Prim.Native.Nat.zero-le)
