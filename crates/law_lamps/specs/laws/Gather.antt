-- Lists put one after the other: what they add up to. Sums of zeros and of ones. And which list of numbers below n has given counts, but
-- for its order. Assumes nothing.
use Rattle.std.specs.Prelude.{◌≡◌, refl, Bool, ℕ, zero, suc, ◌*◌, ◌≤◌, ◌<◌, length}
use Rattle.std.proofs.Common.{sym, ap, ap₂, ◌∙◌, inr, ⊎_elim, suc-mul, arith}
use mathlib.Core.List.{List, [], ◌∷◌, ◌++◌, Permᴰ}
use Rattle.kdslots.specs.Keep.{keep}
use Rattle.law_groups.specs.Sums.{gate, one_if, sum, count, range}
use Rattle.law_groups.specs.laws.Sums.{gate-zero, below, count_head, sum-append, count-keep, range-in, range-out}
use Rattle.law_groups.specs.laws.Counts.{same-counts}
use Rattle.law_lamps.specs.Owner.{gather}

pub sum-none : (f : ℕ → ℕ) (ks : List ℕ) → ((k : ℕ) → 0 < count k ks → f k ≡ 0) → sum f ks ≡ 0
sum-none f [] h = refl
sum-none f (k ∷ ks) h =
    let a : f k ≡ 0 = h k (count_head k ks) in
    let b = sum-none f ks (λ j l. h j (omega arith)) in
    omega arith

-- as many ones as the list is long
pub sum_ones : (ks : List ℕ) → sum (λ k. 1) ks ≡ length ks
sum_ones [] = refl
sum_ones (k ∷ ks) = let a = sum_ones ks in omega arith

-- numbers of at most B each
pub sum_bound : (B : ℕ) (f : ℕ → ℕ) → ((k : ℕ) → f k ≤ B) → (ks : List ℕ) → sum f ks ≤ length ks * B
sum_bound B f h [] = omega arith
sum_bound B f h (k ∷ ks) = let a = h k in let b = sum_bound B f h ks in let c = suc-mul (length ks) B in omega arith

-- ---- lists put together

pub sum-gather : (f : ℕ → ℕ) (g : ℕ → List ℕ) (ks : List ℕ) → sum f (gather g ks) ≡ sum (λ k. sum f (g k)) ks
sum-gather f g [] = refl
sum-gather f g (k ∷ ks) = let a = sum-append f (g k) (gather g ks) in let b = sum-gather f g ks in omega arith

pub gather_ext : (f g : ℕ → List ℕ) (ks : List ℕ) → ((k : ℕ) → 0 < count k ks → f k ≡ g k) → gather f ks ≡ gather g ks
gather_ext f g [] h = refl
gather_ext f g (k ∷ ks) h = ap₂ (λ (a b : List ℕ). a ++ b) (h k (count_head k ks)) (gather_ext f g ks (λ j l. h j (omega arith)))

-- ---- numbers below n

pub range_length : (lo n : ℕ) → length (range lo n) ≡ n
range_length lo zero = refl
range_length lo (suc n) = ap suc (range_length (suc lo) n)

pub range-below : (n k : ℕ) → 0 < count k (range 0 n) → k < n
range-below n k h = ⊎_elim (λ l. l) (λ l. absurd (let a = range-out 0 n k (inr (omega arith)) in omega arith)) (below k n)

-- a list that has each number below n once where it passes a test, and no other number, has those that pass, in another order
pub permutes-kept : (n : ℕ) (p : ℕ → Bool) (ks : List ℕ) → ((k : ℕ) → k < n → count k ks ≡ one_if (p k)) → ((k : ℕ) → n ≤ k → count k ks ≡ 0)
    → Permᴰ ks (keep p (range 0 n))
permutes-kept n p ks each none = same-counts ks (keep p (range 0 n)) (λ k. ⊎_elim (inside k) (past k) (below k n))
  where
    inside : (k : ℕ) → k < n → count k ks ≡ count k (keep p (range 0 n))
    inside k h = each k h ∙ sym (count-keep k p (range 0 n) ∙ ap (gate (p k)) (range-in 0 n k (omega arith) (omega arith)))

    past : (k : ℕ) → n ≤ k → count k ks ≡ count k (keep p (range 0 n))
    past k h =
        none k h
        ∙ sym (count-keep k p (range 0 n) ∙ ap (gate (p k)) (range-out 0 n k (inr (omega arith))) ∙ gate-zero (p k))
