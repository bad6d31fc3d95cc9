-- How decimal digits grow by the last digit. Assumes nothing.
use Rattle.std.specs.Prelude.{[], ◌∷◌, ◌++◌, ◌≡◌, refl, ℕ, zero, suc, ◌+◌, ◌-◌, ◌/◌, ◌%◌, ◌<◌, ◌≤◌}
use Rattle.std.proofs.Common.{sub-one, arith, lt-ltb, le-ltb}
use Rattle.lister_text.specs.Digits.{decimal_of}

pub decimal-none : (k n : ℕ) → k < 1 → decimal_of k n ≡ []
unfolding decimal_of
decimal-none zero n h = refl
decimal-none (suc k) n h = let z : ⊥ = omega arith in absurd z

pub decimal-one : (k n : ℕ) → 1 ≤ k → n < 10 → decimal_of k n ≡ (48 + n) ∷ []
unfolding decimal_of
decimal-one zero n h l = let z : ⊥ = omega arith in absurd z
decimal-one (suc k) n h l = simp (lt-ltb n 10 l)

pub decimal-more : (k n : ℕ) → 1 ≤ k → 10 ≤ n → decimal_of k n ≡ decimal_of (k - 1) (n / 10) ++ ((48 + n % 10) ∷ [])
unfolding decimal_of
decimal-more zero n h l = let z : ⊥ = omega arith in absurd z
decimal-more (suc k) n h l = simp (le-ltb n 10 l, sub-one)

pub one-digit : (k n : ℕ) → n < 10 → decimal_of (suc k) n ≡ (48 + n) ∷ []
unfolding decimal_of
one-digit k n h = simp (lt-ltb n 10 h)

pub more-digits : (k n : ℕ) → 10 ≤ n → decimal_of (suc k) n ≡ decimal_of k (n / 10) ++ ((48 + n % 10) ∷ [])
unfolding decimal_of
more-digits k n h = simp (le-ltb n 10 h)
