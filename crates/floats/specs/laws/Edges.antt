-- A float lies between the rounded edges around it, x - r and x + r, though they are rounded and may be infinities. Assumes nothing.
use Rattle.std.specs.Prelude.{◌≡◌, ℕ, ◌+◌, ◌*◌, ◌≤◌, true, false, T, refl, Float}
use Rattle.std.proofs.Common.{sym, ap, ◌∙◌, subst, mul-pos, zero-mul, add-mul, add-zero, arith}
use Rattle.std.specs.Float.{nan, inf, fin, Format}
use Rattle.std.specs.Float.Ieee.{le, neg, add, sub, fits}
use Rattle.std.specs.Float.Ieee.Scale.{finite}
use Rattle.std.specs.Float.Ieee.Positive.{den, den_pos}
use Rattle.floats.specs.Numbers.{zero}
use Rattle.floats.specs.Fraction.{plus}
use Rattle.floats.specs.laws.Fraction.{mins}
use Rattle.floats.specs.laws.Rounding.{rounds-mono}
use Rattle.floats.specs.laws.Operations.{ring, add_rounds}
use Rattle.floats.specs.laws.Signs.{nonneg-mins}
use Rattle.floats.specs.laws.Monotone.{neg-finite}
use Rattle.floats.specs.laws.Exact.{own-rounds}

-- ---- the edge above
more-below : (P N d Q M g : ℕ) → M ≡ 0 → P * (d * g) + (N * g + M * d) * d ≤ (P * g + Q * d) * d + N * (d * g)
more-below P N d Q M g z =
    let a : P * (d * g) ≡ P * g * d = simp ring in
    let b : N * (d * g) ≡ N * g * d = simp ring in
    let l : (P * g + Q * d) * d ≡ P * g * d + Q * d * d = add-mul (P * g) (Q * d) d in
    let r : (N * g + 0 * d) * d ≡ N * g * d = ap (λ (k : ℕ). k * d) (ap (λ (k : ℕ). N * g + k) (zero-mul d) ∙ add-zero (N * g)) in
    subst (λ (m : ℕ). P * (d * g) + (N * g + m * d) * d ≤ (P * g + Q * d) * d + N * (d * g)) (sym z) (omega arith)

-- x <= x + r
pub le-add : (f : Format) (x r : Float) → T (fits f x) → T (finite x) → T (finite r) → T (le zero r) → T (le x (add f x r))
le-add f x r t p q h =
    rounds-mono f x (add f x r) (plus x) (mins x) (den x) (plus x * den r + plus r * den x) (mins x * den r + mins r * den x)
    (den x * den r) (den_pos x) (mul-pos (den_pos x) (den_pos r))
    (own-rounds f x t p) (add_rounds f x r p q) (more-below (plus x) (mins x) (den x) (plus r) (mins r) (den r) (nonneg-mins r q h))

-- ---- the edge below
pub plus-neg : (r : Float) → T (finite r) → T (le zero r) → plus (neg r) ≡ 0
unfolding neg
plus-neg nan p h = absurd p
plus-neg (inf s) p h = absurd p
plus-neg (fin true m e) p h = nonneg-mins (fin true m e) tt h
plus-neg (fin false m e) p h = refl

less-below : (P N d Q M g : ℕ) → Q ≡ 0 → (P * g + Q * d) * d + N * (d * g) ≤ P * (d * g) + (N * g + M * d) * d
less-below P N d Q M g z =
    let a : P * (d * g) ≡ P * g * d = simp ring in
    let b : N * (d * g) ≡ N * g * d = simp ring in
    let l : (N * g + M * d) * d ≡ N * g * d + M * d * d = add-mul (N * g) (M * d) d in
    let r : (P * g + 0 * d) * d ≡ P * g * d = ap (λ (k : ℕ). k * d) (ap (λ (k : ℕ). P * g + k) (zero-mul d) ∙ add-zero (P * g)) in
    subst (λ (q : ℕ). (P * g + q * d) * d + N * (d * g) ≤ P * (d * g) + (N * g + M * d) * d) (sym z) (omega arith)

-- x - r <= x
pub sub-le : (f : Format) (x r : Float) → T (fits f x) → T (finite x) → T (finite r) → T (le zero r) → T (le (sub f x r) x)
unfolding sub
sub-le f x r t p q h =
    rounds-mono f (add f x (neg r)) x (plus x * den (neg r) + plus (neg r) * den x) (mins x * den (neg r) + mins (neg r) * den x)
    (den x * den (neg r)) (plus x) (mins x) (den x)
    (mul-pos (den_pos x) (den_pos (neg r))) (den_pos x) (add_rounds f x (neg r) p (neg-finite r q)) (own-rounds f x t p)
    (less-below (plus x) (mins x) (den x) (plus (neg r)) (mins (neg r)) (den (neg r)) (plus-neg r q h))
