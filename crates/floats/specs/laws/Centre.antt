-- A centre never leaves [0,1], since rounding is monotone: the running sum of values of 0 to 1, each times its count, is from 0 to the
-- counts' total, and the sum over the total is from 0 to 1. First one step of a loop, then a whole list. Assumes nothing.
use Rattle.std.proofs.Common.{◌∙◌, subst, le_refl, le_trans, arith}
use Rattle.std.specs.Prelude.{ℕ, ◌+◌, ◌^◌, ◌≤◌, T, List, [], ◌∷◌, Float}
use Rattle.std.specs.Float.{binary64}
use Rattle.std.specs.Float.Ieee.{le, add, mul, div}
use Rattle.std.specs.Float.Ieee.Scale.{finite}
use Rattle.floats.specs.Numbers.{zero, one, float}
use Rattle.floats.specs.laws.Order.{between-finite}
use Rattle.floats.specs.laws.Signs.{mul-nonneg, add-nonneg, div-nonneg}
use Rattle.floats.specs.laws.Monotone.{add-mono, mul_mono, div_mono}
use Rattle.floats.specs.laws.Whole.{of_int-finite, of_int-positive, of_int-nonneg, of_int-add, of_int-div-self, of_int-mul-one, of_int-one}
use Rattle.floats.specs.laws.Unit.{In01, In01-finite}

-- ---- a sum of values of 0 to 1, each times its count, with S in all
abbrev pub Weighted : Float → ℕ → Type 0
Weighted w S = T (le zero w) × T (le w (float S))

pub weighted-finite : (w : Float) (S : ℕ) → S ≤ 2 ^ 53 → Weighted w S → T (finite w)
weighted-finite w S h k = between-finite zero w (float S) tt (of_int-finite binary64 S h) k.0 k.1

-- the first
pub weigh-one : (x : Float) (n : ℕ) → In01 x → 1 ≤ n → n ≤ 2 ^ 53 → Weighted (mul binary64 x (float n)) n
weigh-one x n h p q = (
  mul-nonneg binary64 x (float n) (In01-finite x h) (of_int-finite binary64 n q) h.0 (of_int-nonneg n),
  subst (λ (z : Float). T (le (mul binary64 x (float n)) z)) (of_int-mul-one n p q)
      (mul_mono binary64 x one (float n) (In01-finite x h) tt (of_int-finite binary64 n q) (of_int-nonneg n) h.1),
)

-- one more
pub weigh-more : (w : Float) (S : ℕ) (x : Float) (n : ℕ) → Weighted w S → In01 x → 1 ≤ n → S + n ≤ 2 ^ 53
    → Weighted (add binary64 w (mul binary64 x (float n))) (S + n)
weigh-more w S x n k h p q =
    let s : S ≤ 2 ^ 53 = left (2 ^ 53) q in
    let t : n ≤ 2 ^ 53 = right (2 ^ 53) q in
    let v : Float = mul binary64 x (float n) in
    let j : Weighted v n = weigh-one x n h p t in (
      add-nonneg binary64 w v (weighted-finite w S s k) (weighted-finite v n t j) k.0 j.0,
      subst (λ (z : Float). T (le (add binary64 w v) z)) (of_int-add binary64 S n q)
          (add-mono binary64 w (float S) v (float n) (weighted-finite w S s k) (of_int-finite binary64 S s) (weighted-finite v n t j)
          (of_int-finite binary64 n t) k.1 j.1),
    )
  where
    left : (k : ℕ) → S + n ≤ k → S ≤ k
    left k g = omega arith

    right : (k : ℕ) → S + n ≤ k → n ≤ k
    right k g = omega arith

-- the mean
pub weigh-mean : (w : Float) (S : ℕ) → Weighted w S → 1 ≤ S → S ≤ 2 ^ 53 → In01 (div binary64 w (float S))
weigh-mean w S k p q = (
  div-nonneg binary64 w (float S) (weighted-finite w S q k) (of_int-positive binary64 S p q) k.0,
  subst (λ (z : Float). T (le (div binary64 w (float S)) z)) (of_int-div-self binary64 S p q ∙ of_int-one)
      (div_mono binary64 w (float S) (float S) (weighted-finite w S q k) (of_int-finite binary64 S q) (of_int-positive binary64 S p q)
      k.1),
)

-- ---- the same over a list of values with their counts
-- the running sum from w on
abbrev pub weighted_sum : Float → List (Float × ℕ) → Float
weighted_sum w [] = w
weighted_sum w (p ∷ ps) = weighted_sum (add binary64 w (mul binary64 p.0 (float p.1))) ps

-- the running total from S on
abbrev pub centre_total : ℕ → List (Float × ℕ) → ℕ
centre_total S [] = S
centre_total S (p ∷ ps) = centre_total (S + p.1) ps

-- each value is from 0 to 1, and each count at least 1
abbrev pub All01 : List (Float × ℕ) → Type 0
All01 [] = Unit {0}
All01 (p ∷ ps) = In01 p.0 × (1 ≤ p.1) × All01 ps

pub total-le : (S : ℕ) (ps : List (Float × ℕ)) → S ≤ centre_total S ps
total-le S [] = le_refl S
total-le S (p ∷ ps) = le_trans (more S p.1) (total-le (S + p.1) ps)
  where
    more : (a b : ℕ) → a ≤ a + b
    more a b = omega arith

pub sum-weighted : (w : Float) (S : ℕ) (ps : List (Float × ℕ)) → Weighted w S → All01 ps → centre_total S ps ≤ 2 ^ 53
    → Weighted (weighted_sum w ps) (centre_total S ps)
sum-weighted w S [] k a h = k
sum-weighted w S (p ∷ ps) k a h =
    sum-weighted (add binary64 w (mul binary64 p.0 (float p.1))) (S + p.1) ps
    (weigh-more w S p.0 p.1 k a.0 a.1 (le_trans (total-le (S + p.1) ps) h)) a.2 h

-- every centre is within [0,1]: the origin x of count n, then what it absorbs
pub centre : (x : Float) (n : ℕ) (ps : List (Float × ℕ)) → In01 x → 1 ≤ n → All01 ps → centre_total n ps ≤ 2 ^ 53
    → In01 (div binary64 (weighted_sum (mul binary64 x (float n)) ps) (float (centre_total n ps)))
centre x n ps h p a q =
    weigh-mean (weighted_sum (mul binary64 x (float n)) ps) (centre_total n ps)
    (sum-weighted (mul binary64 x (float n)) n ps (weigh-one x n h p (le_trans (total-le n ps) q)) a q)
    (le_trans p (total-le n ps)) q
