-- A sum of which one number is replaced. Assumes nothing.
use Rattle.std.specs.Prelude.{◌≡◌, refl, Bool, true, false, not, List, ℕ, ◌+◌, ◌≤◌, eqb}
use Rattle.std.proofs.Common.{sym, ap, ◌∙◌, arith, ne_eqb}
use Rattle.std.proofs.lemmas.Bool.{eqb-false}
use Rattle.law_groups.specs.Sums.{gate, sum, count}
use Rattle.law_groups.specs.laws.Sums.{eqb_same, sum-ext, sum-keep, sum-split}

-- one that is there once, and the rest
pub sum_one : (g : ℕ → ℕ) (i : ℕ) (xs : List ℕ) → count i xs ≡ 1 → sum g xs ≡ g i + sum (λ l. gate (not (eqb l i)) (g l)) xs
sum_one g i xs c =
    sym (sum-keep g (λ l. true) xs)
    ∙ sum-split g (λ l. true) (λ l. not (eqb l i)) i xs c refl (ap not (eqb_same i)) (λ k h. sym (ap not (ne_eqb k i h)))
    ∙ ap (λ (s : ℕ). g i + s) (sum-keep g (λ l. not (eqb l i)) xs)

-- so a sum has each of its numbers in it
pub sum-has : (g : ℕ → ℕ) (i : ℕ) (xs : List ℕ) → count i xs ≡ 1 → g i ≤ sum g xs
sum-has g i xs c = omega (arith, sum_one g i xs c)

-- with another number there, the rest is the same
pub sum-changed : (g h : ℕ → ℕ) (i : ℕ) (xs : List ℕ) → count i xs ≡ 1 → ((k : ℕ) → (k ≡ i → ⊥) → h k ≡ g k)
    → sum h xs + g i ≡ sum g xs + h i
sum-changed g h i xs c e =
    let r = sum-ext (λ l. gate (not (eqb l i)) (h l)) (λ l. gate (not (eqb l i)) (g l)) xs (λ k m. rest k (eqb k i) refl) in
    omega (arith, sum_one g i xs c, sum_one h i xs c, r)
  where
    rest : (k : ℕ) (b : Bool) → eqb k i ≡ b → gate (not (eqb k i)) (h k) ≡ gate (not (eqb k i)) (g k)
    rest k true q = ap (λ (b : Bool). gate (not b) (h k)) q ∙ sym (ap (λ (b : Bool). gate (not b) (g k)) q)
    rest k false q = ap (gate (not (eqb k i))) (e k (eqb-false k i q))
