-- Rounded operations keep the order of finite values: the sum, the difference, the product with a value that is not negative and the
-- quotient by a positive value. The quotient shrinks as the divisor grows. A result may be an infinity: nothing here asks that it fits.
-- Assumes nothing.
use Rattle.std.specs.Prelude.{◌≡◌, ℕ, ◌+◌, ◌*◌, ◌≤◌, T}
use Rattle.std.proofs.Common.{sym, ap, ◌∙◌, subst, mul-le-mul_right, mul-pos, zero-mul, mul-zero, zero-add, add-zero, arith}
use lib.Ieee.{Float, nan, inf, fin, Format, le, neg, add, sub, mul, div}
use Rattle.std.specs.Float.Ieee.Scale.{finite}
use lib.Ieee.Positive.{num, den, den_pos, positive}
use Rattle.floats.specs.Numbers.{zero}
use Rattle.floats.specs.Fraction.{plus}
use Rattle.floats.specs.laws.Fraction.{mins, le→cross}
use Rattle.floats.specs.laws.Order.{le-le-trans}
use Rattle.floats.specs.laws.Operations.{ring, add_rounds, mul-rounds, div-rounds}
use Rattle.floats.specs.laws.Rounding.{rounds-mono, neg-le}
use Rattle.floats.specs.laws.Signs.{nonneg-mins, num_pos, mul_commutes}

-- ---- the sum
sum_below : (P N d P' N' d' Q M g Q' M' g' : ℕ) → P * d' + N' * d ≤ P' * d + N * d' → Q * g' + M' * g ≤ Q' * g + M * g'
    → (P * g + Q * d) * (d' * g') + (N' * g' + M' * d') * (d * g) ≤ (P' * g' + Q' * d') * (d * g) + (N * g + M * d) * (d' * g')
sum_below P N d P' N' d' Q M g Q' M' g' h k =
    let a : (P * d' + N' * d) * (g * g') ≤ (P' * d + N * d') * (g * g') = mul-le-mul_right (g * g') h in
    let b : (Q * g' + M' * g) * (d * d') ≤ (Q' * g + M * g') * (d * d') = mul-le-mul_right (d * d') k in
    let l : (P * g + Q * d) * (d' * g') + (N' * g' + M' * d') * (d * g) ≡ (P * d' + N' * d) * (g * g') + (Q * g' + M' * g) * (d * d') =
    simp ring in
    let r : (P' * g' + Q' * d') * (d * g) + (N * g + M * d) * (d' * g') ≡ (P' * d + N * d') * (g * g') + (Q' * g + M * g') * (d * d') =
    simp ring in
    omega arith

pub add-mono : (f : Format) (x x' y y' : Float) → T (finite x) → T (finite x') → T (finite y) → T (finite y') → T (le x x') → T (le y y')
    → T (le (add f x y) (add f x' y'))
add-mono f x x' y y' p p' q q' h k =
    rounds-mono f (add f x y) (add f x' y') (plus x * den y + plus y * den x) (mins x * den y + mins y * den x) (den x * den y)
    (plus x' * den y' + plus y' * den x') (mins x' * den y' + mins y' * den x') (den x' * den y') (mul-pos (den_pos x) (den_pos y))
    (mul-pos (den_pos x') (den_pos y'))
    (add_rounds f x y p q) (add_rounds f x' y' p' q')
    (sum_below (plus x) (mins x) (den x) (plus x') (mins x') (den x') (plus y) (mins y) (den y) (plus y') (mins y') (den y')
    (le→cross x x' p p' h) (le→cross y y' q q' k))

pub neg-finite : (x : Float) → T (finite x) → T (finite (neg x))
unfolding neg
neg-finite nan p = absurd p
neg-finite (inf s) p = absurd p
neg-finite (fin s m e) p = tt

-- the difference grows with the left, and shrinks with the right
pub sub-mono : (f : Format) (x x' y y' : Float) → T (finite x) → T (finite x') → T (finite y) → T (finite y') → T (le x x') → T (le y' y)
    → T (le (sub f x y) (sub f x' y'))
unfolding sub
sub-mono f x x' y y' p p' q q' h k = add-mono f x x' (neg y) (neg y') p p' (neg-finite y q) (neg-finite y' q') h (neg-le y' y k)

-- ---- the product with a value that is not negative
mul-below : (P N d P' N' d' Q M g : ℕ) → P * d' + N' * d ≤ P' * d + N * d' → M ≡ 0
    → (P * Q + N * M) * (d' * g) + (P' * M + N' * Q) * (d * g) ≤ (P' * Q + N' * M) * (d * g) + (P * M + N * Q) * (d' * g)
mul-below P N d P' N' d' Q M g h z =
    let a : (P * d' + N' * d) * (Q * g) ≤ (P' * d + N * d') * (Q * g) = mul-le-mul_right (Q * g) h in
    let l : (P * Q + N * 0) * (d' * g) + (P' * 0 + N' * Q) * (d * g) ≡ (P * d' + N' * d) * (Q * g) =
    simp (mul-zero, zero-add, add-zero, ring) in
    let r : (P' * Q + N' * 0) * (d * g) + (P * 0 + N * Q) * (d' * g) ≡ (P' * d + N * d') * (Q * g) =
    simp (mul-zero, zero-add, add-zero, ring) in
    subst (λ (m : ℕ). (P * Q + N * m) * (d' * g) + (P' * m + N' * Q) * (d * g) ≤ (P' * Q + N' * m) * (d * g) + (P * m + N * Q) * (d' * g))
    (sym z)
    (omega arith)

pub mul_mono : (f : Format) (x x' y : Float) → T (finite x) → T (finite x') → T (finite y) → T (le zero y) → T (le x x')
    → T (le (mul f x y) (mul f x' y))
mul_mono f x x' y p p' q n h =
    rounds-mono f (mul f x y) (mul f x' y) (plus x * plus y + mins x * mins y) (plus x * mins y + mins x * plus y) (den x * den y)
    (plus x' * plus y + mins x' * mins y) (plus x' * mins y + mins x' * plus y) (den x' * den y) (mul-pos (den_pos x) (den_pos y))
    (mul-pos (den_pos x') (den_pos y))
    (mul-rounds f x y p q) (mul-rounds f x' y p' q)
    (mul-below (plus x) (mins x) (den x) (plus x') (mins x') (den x') (plus y) (mins y) (den y) (le→cross x x' p p' h) (nonneg-mins y q n))

-- both factors are not negative
pub mul-mono-both : (f : Format) (x x' y y' : Float) → T (finite x) → T (finite x') → T (finite y) → T (finite y') → T (le zero x')
    → T (le zero y) → T (le x x') → T (le y y') → T (le (mul f x y) (mul f x' y'))
mul-mono-both f x x' y y' p p' q q' a b h k =
    le-le-trans (mul f x y) (mul f x' y) (mul f x' y') (mul_mono f x x' y p p' q b h)
    (subst (λ (z : Float). T (le z (mul f x' y'))) (mul_commutes f y x')
    (subst (λ (z : Float). T (le (mul f y x') z)) (mul_commutes f y' x') (mul_mono f y y' x' q q' p' a k)))

-- ---- the quotient by a positive value
div_below : (P N d P' N' d' Q g : ℕ) → P * d' + N' * d ≤ P' * d + N * d'
    → P * g * (Q * d') + N' * g * (Q * d) ≤ P' * g * (Q * d) + N * g * (Q * d')
div_below P N d P' N' d' Q g h =
    let a : (P * d' + N' * d) * (g * Q) ≤ (P' * d + N * d') * (g * Q) = mul-le-mul_right (g * Q) h in
    let l : P * g * (Q * d') + N' * g * (Q * d) ≡ (P * d' + N' * d) * (g * Q) = simp ring in
    let r : P' * g * (Q * d) + N * g * (Q * d') ≡ (P' * d + N * d') * (g * Q) = simp ring in
    omega arith

pub div_mono : (f : Format) (x x' y : Float) → T (finite x) → T (finite x') → T (positive y) → T (le x x') → T (le (div f x y) (div f x' y))
div_mono f x x' y p p' q h =
    rounds-mono f (div f x y) (div f x' y) (plus x * den y) (mins x * den y) (num y * den x) (plus x' * den y) (mins x' * den y)
    (num y * den x')
    (mul-pos (num_pos y q) (den_pos x)) (mul-pos (num_pos y q) (den_pos x')) (div-rounds f x y p q) (div-rounds f x' y p' q)
    (div_below (plus x) (mins x) (den x) (plus x') (mins x') (den x') (num y) (den y) (le→cross x x' p p' h))

-- ---- the quotient shrinks as the divisor grows
anti-below : (P N d Q g Q' g' : ℕ) → N ≡ 0 → Q * g' ≤ Q' * g → P * g' * (Q * d) + N * g * (Q' * d) ≤ P * g * (Q' * d) + N * g' * (Q * d)
anti-below P N d Q g Q' g' z h =
    let a : Q * g' * (P * d) ≤ Q' * g * (P * d) = mul-le-mul_right (P * d) h in
    let l : P * g' * (Q * d) ≡ Q * g' * (P * d) = simp ring in
    let r : P * g * (Q' * d) ≡ Q' * g * (P * d) = simp ring in
    subst (λ (n : ℕ). P * g' * (Q * d) + n * g * (Q' * d) ≤ P * g * (Q' * d) + n * g' * (Q * d)) (sym z)
    (let u : 0 * g * (Q' * d) ≡ 0 = ap (λ (k : ℕ). k * (Q' * d)) (zero-mul g) ∙ zero-mul (Q' * d) in omega arith)

pos-cross : (y y' : Float) → T (positive y) → T (positive y') → T (le y y') → num y * den y' ≤ num y' * den y
pos-cross y y' p q h = lib.Ieee.Positive.le→cross y y' p q h

pub div-anti : (f : Format) (x y y' : Float) → T (finite x) → T (le zero x) → T (positive y) → T (positive y') → T (le y y')
    → T (le (div f x y') (div f x y))
div-anti f x y y' p a q q' h =
    rounds-mono f (div f x y') (div f x y) (plus x * den y') (mins x * den y') (num y' * den x) (plus x * den y) (mins x * den y)
    (num y * den x)
    (mul-pos (num_pos y' q') (den_pos x)) (mul-pos (num_pos y q) (den_pos x)) (div-rounds f x y' p q') (div-rounds f x y p q)
    (anti-below (plus x) (mins x) (den x) (num y) (den y) (num y') (den y') (nonneg-mins x p a) (pos-cross y y' q q' h))
