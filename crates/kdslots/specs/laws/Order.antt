-- One order of all the slots of an index, in which every search comes to them: it has each slot, once. Assumes nothing.
use Rattle.std.specs.Prelude.{Bool, true, false, ◌≡◌, refl, ◌⊎◌, List, [], ◌∷◌, ◌++◌, ℕ, zero, suc, ◌+◌, ◌-◌, ◌≤◌, ◌<◌, ltb}
use Rattle.std.proofs.Common.{inl, inr, ⊎_elim, arith, ltb-true, ltb-false}
use Rattle.kdsort.specs.Shape.{Shape, shape}
use Rattle.kdsort.specs.laws.Shape.{Spans, all, both, spans}
use Rattle.kdslots.specs.Slots.{Search, scanned, slots}
use Rattle.kdslots.specs.laws.Members.{In, in_left, in_right, BetweenSlots, Distinct}
use Rattle.kdslots.specs.laws.Sound.{slots-between, slots-distinct}

-- a search that skips nothing and answers every slot
abbrev pub everything : Search
everything = record { test = λ i. true; right = λ ax m. true; left = λ ax m. true }

-- all slots of an index of n, for a node size, in the order in which a search comes to them
abbrev pub order : ℕ → ℕ → List ℕ
order size n = slots everything 0 (shape (size + 1) 0 n)

-- ---- the order has every slot, once

three : (i m : ℕ) → (i < m) ⊎ ((i ≡ m) ⊎ (m < i))
three i m = go (ltb i m) refl (ltb m i) refl
  where
    go : (a : Bool) → ltb i m ≡ a → (b : Bool) → ltb m i ≡ b → (i < m) ⊎ ((i ≡ m) ⊎ (m < i))
    go true e b f = inl (ltb-true i m e)
    go false e true f = inr (inr (ltb-true m i f))
    go false e false f = inr (inl (omega (arith, ltb-false i m e, ltb-false m i f)))

all-scanned : (j k i : ℕ) → j ≤ i → i < j + k → In i (scanned everything j k)
unfolding scanned
all-scanned j zero i a b = absurd (omega arith)
all-scanned j (suc k) i a b = ⊎_elim
    (λ h. absurd (omega arith))
    (λ w. ⊎_elim
    (λ h. rw (← h) ([], scanned everything (i + 1) k, refl))
    (λ h. in_right i (j ∷ []) (scanned everything (j + 1) k) (all-scanned (j + 1) k i (omega arith) (omega arith)))
    w)
    (three i j)

all_slots : (ax lo hi : ℕ) (t : Shape) → Spans lo hi t → (i : ℕ) → lo ≤ i → i < hi → In i (slots everything ax t)
unfolding slots
all_slots ax lo hi _ all i a b = all-scanned lo (hi - lo) i a (omega arith)
all_slots ax lo hi _ (both {m = m} {r = r} {l = l} u v g h) i a b =
    let R = slots everything (1 - ax) r in
    let L = slots everything (1 - ax) l in
    ⊎_elim
    (λ k. in_right i (m ∷ []) (R ++ L) (in_right i R L (all_slots (1 - ax) lo m l h i a k)))
    (λ w. ⊎_elim
    (λ k. rw (← k) ([], slots everything (1 - ax) r ++ slots everything (1 - ax) l, refl))
    (λ k. in_right i (m ∷ []) (R ++ L) (in_left i R L (all_slots (1 - ax) (m + 1) hi r g i (omega arith) b)))
    w)
    (three i m)

module _ (size n : ℕ) where
  pub order-all : (i : ℕ) → i < n → In i (order size n)
  order-all i h = all_slots 0 0 n (shape (size + 1) 0 n) (spans (size + 1) 0 n) i (omega arith) h

  pub order-between : BetweenSlots 0 n (order size n)
  order-between = slots-between everything 0 0 n (shape (size + 1) 0 n) (spans (size + 1) 0 n) (omega arith)

  pub order-once : Distinct (order size n)
  order-once = slots-distinct everything 0 0 n (shape (size + 1) 0 n) (spans (size + 1) 0 n) (omega arith)
