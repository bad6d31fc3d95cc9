-- Whole numbers up to 2 ^ prec as floats: exact, and so are their sums and products up to there; n / n is 1, and 1 * n is n. `float n` is
-- the whole number n at binary64. Assumes nothing.
use Rattle.std.specs.Prelude.{◌≡◌, ℕ, ◌+◌, ◌*◌, ◌^◌, ◌<◌, ◌≤◌, Bool, true, false, cond, T, pos, ◌==◌, refl}
use Rattle.std.proofs.Common.{sym, ap, ◌∙◌, subst, le_trans, le_of_eq, mul-le-mul_right, mul-le-mul_left, mul-pos, mul-one, one-mul, zero-lt-suc, arith, true≢false}
use Prim.Native.Nat.{zero-le}
use lib.Ieee.{Float, nan, inf, fin, Format, binary64, prec, up, down, le, round, add, mul, div, sum, of_int}
use Rattle.std.specs.Float.Ieee.Fits.{down_pos}
use Rattle.std.specs.Float.Ieee.Exact.{HasValue}
use Rattle.std.specs.Float.Ieee.Back.{round_whole}
use lib.Ieee.Order.{round_mono}
use Rattle.std.specs.Float.Ieee.Scale.{finite, round_same}
use Rattle.std.specs.Float.Ieee.Positive.{positive, positive_of_value, mul_at}
use Rattle.floats.specs.Numbers.{zero, one}
use Rattle.floats.specs.laws.Operations.{ring, skip}
use Rattle.floats.specs.laws.Signs.{num_pos}

pub value-finite : (x : Float) (s : Bool) (a c : ℕ) → HasValue x s a c → T (finite x)
value-finite nan s a c h = absurd h
value-finite (inf t) s a c h = absurd h
value-finite (fin t m e) s a c h = tt

-- ---- a whole number
pub of_int-value : (f : Format) (n : ℕ) → n ≤ 2 ^ prec f → HasValue (of_int f (pos n)) false n 1
unfolding of_int
of_int-value f n h = round_whole f false n h

pub of_int-finite : (f : Format) (n : ℕ) → n ≤ 2 ^ prec f → T (finite (of_int f (pos n)))
of_int-finite f n h = value-finite (of_int f (pos n)) false n 1 (of_int-value f n h)

pub of_int-positive : (f : Format) (n : ℕ) → 0 < n → n ≤ 2 ^ prec f → T (positive (of_int f (pos n)))
of_int-positive f n p h = positive_of_value (of_int f (pos n)) n 1 (of_int-value f n h) p

pub of_int-mono : (f : Format) (m n : ℕ) → m ≤ n → T (le (of_int f (pos m)) (of_int f (pos n)))
unfolding of_int
of_int-mono f m n h = lib.Ieee.Order.round_mono f m 1 n 1 (zero-lt-suc 0) (zero-lt-suc 0) (mul-le-mul_right 1 h)

pub of_int-one : of_int binary64 (pos 1) ≡ one
unfolding of_int round
of_int-one = refl

pub of_int-zero : of_int binary64 (pos 0) ≡ zero
unfolding of_int round
of_int-zero = refl

pub of_int-nonneg : (n : ℕ) → T (le zero (of_int binary64 (pos n)))
of_int-nonneg n = subst (λ (z : Float). T (le z (of_int binary64 (pos n)))) of_int-zero (of_int-mono binary64 0 n Prim.Native.Nat.zero-le)

-- ---- an operation on values that are not negative, by any fractions that they equal
sum-cross : (X Y a b c d u v : ℕ) → X * c ≡ a * u → Y * d ≡ b * v → (X * v + Y * u) * (c * d) ≡ (a * d + b * c) * (u * v)
sum-cross X Y a b c d u v p q =
    let l : (X * v + Y * u) * (c * d) ≡ X * c * (v * d) + Y * d * (u * c) = simp ring in
    let r : (a * d + b * c) * (u * v) ≡ a * u * (v * d) + b * v * (u * c) = simp ring in
    l ∙ ap (λ (z : ℕ). z * (v * d) + Y * d * (u * c)) p ∙ ap (λ (z : ℕ). a * u * (v * d) + z * (u * c)) q ∙ sym r

pub add_at : (f : Format) (x y : Float) (a c b d : ℕ) → 0 < c → 0 < d → HasValue x false a c → HasValue y false b d
    → add f x y ≡ round f false (a * d + b * c) (c * d)
unfolding add sum
add_at f nan y a c b d C D h k = absurd h
add_at f (inf s) y a c b d C D h k = absurd h
add_at f (fin true m e) y a c b d C D h k = absurd (true≢false h.0)
add_at f (fin false m e) nan a c b d C D h k = absurd k
add_at f (fin false m e) (inf t) a c b d C D h k = absurd k
add_at f (fin false m e) (fin true n g) a c b d C D h k = absurd (true≢false k.0)
add_at f (fin false m e) (fin false n g) a c b d C D h k =
    round_same f false (m * up e * down g + n * up g * down e) (down e * down g) (a * d + b * c) (c * d) (mul-pos (down_pos e) (down_pos g))
    (mul-pos C D)
    (sum-cross (m * up e) (n * up g) a b c d (down e) (down g) h.1 k.1)

pub div-at : (f : Format) (x y : Float) (a c b d : ℕ) → 0 < c → 0 < d → 0 < b → HasValue x false a c → HasValue y false b d
    → div f x y ≡ round f false (a * d) (b * c)
unfolding div
div-at f nan y a c b d C D B h k = absurd h
div-at f (inf s) y a c b d C D B h k = absurd h
div-at f (fin true m e) y a c b d C D B h k = absurd (true≢false h.0)
div-at f (fin false m e) nan a c b d C D B h k = absurd k
div-at f (fin false m e) (inf t) a c b d C D B h k = absurd k
div-at f (fin false m e) (fin true n g) a c b d C D B h k = absurd (true≢false k.0)
div-at f (fin false m e) (fin false n g) a c b d C D B h k =
    let q : T (positive (fin false n g)) = positive_of_value (fin false n g) b d k B in
    skip n (cond (m == 0) nan (inf false)) (round f false (m * up e * down g) (n * up g * down e)) q
    ∙ round_same f false (m * up e * down g) (n * up g * down e) (a * d) (b * c) (mul-pos (num_pos (fin false n g) q) (down_pos e))
    (mul-pos B C)
    (cross (m * up e) (n * up g) (down e) (down g) h.1 k.1)
  where
    cross : (X Y u v : ℕ) → X * c ≡ a * u → Y * d ≡ b * v → X * v * (b * c) ≡ a * d * (Y * u)
    cross X Y u v p q =
        let l : X * v * (b * c) ≡ X * c * (b * v) = simp ring in
        let r : a * d * (Y * u) ≡ a * u * (Y * d) = simp ring in
        l ∙ ap (λ (z : ℕ). z * (b * v)) p ∙ ap (λ (z : ℕ). a * u * z) (sym q) ∙ sym r

-- ---- exact operations on whole numbers
pub of_int-add : (f : Format) (a b : ℕ) → a + b ≤ 2 ^ prec f → add f (of_int f (pos a)) (of_int f (pos b)) ≡ of_int f (pos (a + b))
unfolding of_int
of_int-add f a b h =
    add_at f (round f false a 1) (round f false b 1) a 1 b 1 (zero-lt-suc 0) (zero-lt-suc 0) (round_whole f false a (left (2 ^ prec f) h))
    (round_whole f false b (right (2 ^ prec f) h))
    ∙ ap (λ (z : ℕ). round f false z 1) one_each
  where
    left : (k : ℕ) → a + b ≤ k → a ≤ k
    left k g = omega arith

    right : (k : ℕ) → a + b ≤ k → b ≤ k
    right k g = omega arith

    one_each : a * 1 + b * 1 ≡ a + b
    one_each = omega arith

pub of_int-div-self : (f : Format) (n : ℕ) → 0 < n → n ≤ 2 ^ prec f → div f (of_int f (pos n)) (of_int f (pos n)) ≡ of_int f (pos 1)
unfolding of_int
of_int-div-self f n p h =
    div-at f (round f false n 1) (round f false n 1) n 1 n 1 (zero-lt-suc 0) (zero-lt-suc 0) p (round_whole f false n h)
    (round_whole f false n h)
    ∙ round_same f false (n * 1) (n * 1) 1 1 (mul-pos p (zero-lt-suc 0)) (zero-lt-suc 0) (flat n)
  where
    flat : (n : ℕ) → n * 1 * 1 ≡ 1 * (n * 1)
    flat n = omega arith

pub of_int-mul-one : (n : ℕ) → 0 < n → n ≤ 2 ^ 53 → mul binary64 one (of_int binary64 (pos n)) ≡ of_int binary64 (pos n)
of_int-mul-one n p h =
    mul_at binary64 one (of_int binary64 (pos n)) 1 1 n 1 tt (of_int-positive binary64 n p h) (zero-lt-suc 0) (zero-lt-suc 0) (refl, refl)
    (of_int-value binary64 n h)
    ∙ ap (λ (z : ℕ). round binary64 false z 1) (one-mul n) ∙ (unfold of_int in refl)

-- ---- a product of whole numbers
pub of_int-mul : (f : Format) (a b : ℕ) → 0 < a → 0 < b → a * b ≤ 2 ^ lib.Ieee.prec f
    → mul f (of_int f (pos a)) (of_int f (pos b)) ≡ of_int f (pos (a * b))
of_int-mul f a b A B h =
    let u : a ≤ 2 ^ lib.Ieee.prec f = le_trans (le_trans (le_of_eq (sym (mul-one a))) (mul-le-mul_left a B)) h in
    let v : b ≤ 2 ^ lib.Ieee.prec f = le_trans (le_trans (le_of_eq (sym (one-mul b))) (mul-le-mul_right b A)) h in
    mul_at f (of_int f (pos a)) (of_int f (pos b)) a 1 b 1 (of_int-positive f a A u) (of_int-positive f b B v) (zero-lt-suc 0) (zero-lt-suc 0)
    (of_int-value f a u) (of_int-value f b v)
    ∙ (unfold of_int in refl)
