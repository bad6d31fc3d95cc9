-- Sums over a list of places and over those of it that pass a test: how they add up, and when they are equal. Assumes nothing.
use Rattle.std.specs.Prelude.{◌≡◌, refl, ◌⊎◌, List, [], ◌∷◌, ◌++◌, Bool, true, false, ℕ, zero, suc, ◌+◌, ◌≤◌, ◌<◌, eqb}
use Rattle.std.proofs.Common.{sym, ap, ap₂, ◌∙◌, inl, inr, ⊎_elim, arith, eqb-true, eq-eqb, ne_eqb}
use Rattle.std.proofs.lemmas.Bool.{eqb-false}
use Rattle.kdslots.specs.Keep.{put, keep}
use Rattle.law_groups.specs.Sums.{gate, one_if, sum, count, range}

-- ---- tests

-- a test is true or false, and not both
pub pick : (b : Bool) → (b ≡ true) ⊎ (b ≡ false)
pick true = inl refl
pick false = inr refl

pub not-both : (b : Bool) → b ≡ true → b ≡ false → ⊥
not-both b p q = let z : ◌≡◌ {A = ℕ} 0 1 = cc in omega arith

pub eqb_same : (n : ℕ) → eqb n n ≡ true
eqb_same n = eq-eqb n n refl

-- two numbers are the same, and count 1, or they are not, and count 0
abbrev pub Hit : ℕ → ℕ → Type 0
Hit k x = ((k ≡ x) × (one_if (eqb k x) ≡ 1)) ⊎ ((k ≡ x → ⊥) × (one_if (eqb k x) ≡ 0))

pub hit : (k x : ℕ) → Hit k x
hit k x = go (eqb k x) refl
  where
    go : (b : Bool) → eqb k x ≡ b → ((k ≡ x) × (one_if b ≡ 1)) ⊎ ((k ≡ x → ⊥) × (one_if b ≡ 0))
    go true e = inl (eqb-true k x e, refl)
    go false e = inr (eqb-false k x e, refl)

-- i is below n or it is not
pub below : (i n : ℕ) → (i < n) ⊎ (n ≤ i)
below i n = go (native.Mathlib.Decide.dec_lt i n)
  where
    go : Dec (i < n) → (i < n) ⊎ (n ≤ i)
    go (yes h) = inl h
    go (no h) = inr (omega arith)

pub count_head : (k : ℕ) (xs : List ℕ) → 0 < count k (k ∷ xs)
count_head k xs = let e : one_if (eqb k k) ≡ 1 = ap one_if (eqb_same k) in omega arith

pub sum-append : (f : ℕ → ℕ) (xs ys : List ℕ) → sum f (xs ++ ys) ≡ sum f xs + sum f ys
sum-append f [] ys = omega arith
sum-append f (x ∷ xs) ys = let h = sum-append f xs ys in omega arith

pub sum-ext : (f g : ℕ → ℕ) (xs : List ℕ) → ((k : ℕ) → 0 < count k xs → f k ≡ g k) → sum f xs ≡ sum g xs
sum-ext f g [] h = refl
sum-ext f g (x ∷ xs) h =
    let a : f x ≡ g x = h x (count_head x xs) in
    let b = sum-ext f g xs (λ k l. h k (omega arith)) in
    omega arith

-- ---- the places that pass a test, in order

sum-put : (f : ℕ → ℕ) (b : Bool) (x : ℕ) (r : List ℕ) → sum f (put b x r) ≡ gate b (f x) + sum f r
sum-put f true x r = refl
sum-put f false x r = omega arith

-- f of those that pass, added up
pub sum-keep : (f : ℕ → ℕ) (p : ℕ → Bool) (xs : List ℕ) → sum f (keep p xs) ≡ sum (λ x. gate (p x) (f x)) xs
sum-keep f p [] = refl
sum-keep f p (x ∷ xs) = let a = sum-put f (p x) x (keep p xs) in let b = sum-keep f p xs in omega arith

gate-hit : (p : ℕ → Bool) (k x : ℕ) → gate (p x) (one_if (eqb k x)) ≡ gate (p k) (one_if (eqb k x))
gate-hit p k x = go (hit k x)
  where
    zeros : (b c : Bool) (n : ℕ) → n ≡ 0 → gate b n ≡ gate c n
    zeros true true n h = refl
    zeros false false n h = refl
    zeros true false n h = h
    zeros false true n h = sym h

    go : Hit k x → gate (p x) (one_if (eqb k x)) ≡ gate (p k) (one_if (eqb k x))
    go (inl h) = ap (λ (z : ℕ). gate (p z) (one_if (eqb k x))) (sym h.0)
    go (inr h) = zeros (p x) (p k) (one_if (eqb k x)) h.1

gate-add : (b : Bool) (m n : ℕ) → gate b m + gate b n ≡ gate b (m + n)
gate-add true m n = refl
gate-add false m n = refl

pub gate-zero : (b : Bool) → gate b 0 ≡ 0
gate-zero true = refl
gate-zero false = refl

pub count-keep : (k : ℕ) (p : ℕ → Bool) (xs : List ℕ) → count k (keep p xs) ≡ gate (p k) (count k xs)
count-keep k p [] = sym (gate-zero (p k))
count-keep k p (x ∷ xs) =
    sum-put (λ x. one_if (eqb k x)) (p x) x (keep p xs) ∙ ap₂ (λ (a b : ℕ). a + b) (gate-hit p k x) (count-keep k p xs)
    ∙ gate-add (p k) (one_if (eqb k x)) (count k xs)

-- what is kept was in the list
pub keep-in : (p : ℕ → Bool) (xs : List ℕ) (k : ℕ) → 0 < count k (keep p xs) → 0 < count k xs
keep-in p xs k h = go (p k) (count-keep k p xs)
  where
    go : (b : Bool) → count k (keep p xs) ≡ gate b (count k xs) → 0 < count k xs
    go true e = omega arith
    go false e = absurd (omega arith)

pub keep-ext : (p q : ℕ → Bool) (xs : List ℕ) → ((k : ℕ) → 0 < count k xs → p k ≡ q k) → keep p xs ≡ keep q xs
keep-ext p q [] h = refl
keep-ext p q (x ∷ xs) h = ap₂ (λ (b : Bool) (r : List ℕ). put b x r) (h x (count_head x xs)) (keep-ext p q xs (λ k l. h k (omega arith)))

-- one that is there once, taken out in front
pub sum-split : (f : ℕ → ℕ) (p q : ℕ → Bool) (i : ℕ) (xs : List ℕ) → count i xs ≡ 1 → p i ≡ true → q i ≡ false
    → ((k : ℕ) → (k ≡ i → ⊥) → p k ≡ q k) →
    sum f (keep p xs) ≡ f i + sum f (keep q xs)
sum-split f p q i [] c a b h = absurd (let z : ◌≡◌ {A = ℕ} 0 1 = c in omega arith)
sum-split f p q i (x ∷ xs) c a b h = go (λ w. sum-split f p q i xs w a b h) (hit i x)
  where
    tail : count i xs ≡ 0 → sum f (keep p xs) ≡ sum f (keep q xs)
    tail z = ap (λ (l : List ℕ). sum f l)
        (keep-ext p q xs (λ k l. h k (λ e. let y : count i xs ≡ count k xs = ap (λ (w : ℕ). count w xs) (sym e) in omega arith)))

    go : (count i xs ≡ 1 → sum f (keep p xs) ≡ f i + sum f (keep q xs)) → Hit i x → sum f (keep p (x ∷ xs)) ≡ f i + sum f (keep q (x ∷ xs))
    go ih (inl e) =
        let t = tail (omega arith) in
        let u : gate (p x) (f x) ≡ f i = ap (λ (z : ℕ). gate (p z) (f z)) (sym e.0) ∙ ap (λ (t : Bool). gate t (f i)) a in
        let v : gate (q x) (f x) ≡ 0 = ap (λ (z : ℕ). gate (q z) (f z)) (sym e.0) ∙ ap (λ (t : Bool). gate t (f i)) b in
        let s = sum-put f (p x) x (keep p xs) in
        let r = sum-put f (q x) x (keep q xs) in
        omega arith
    go ih (inr e) =
        let t = ih (omega arith) in
        let u : gate (p x) (f x) ≡ gate (q x) (f x) = ap (λ (t : Bool). gate t (f x)) (h x (λ w. e.0 (sym w))) in
        let s = sum-put f (p x) x (keep p xs) in
        let r = sum-put f (q x) x (keep q xs) in
        omega arith

pub range-out : (lo n k : ℕ) → (k < lo) ⊎ (lo + n ≤ k) → count k (range lo n) ≡ 0
range-out lo zero k h = refl
range-out lo (suc n) k h =
    let r = range-out (suc lo) n k (⊎_elim (λ a. inl (omega arith)) (λ a. inr (omega arith)) h) in
    let a : one_if (eqb k lo) ≡ 0 = ap one_if (ne_eqb k lo (λ e. ⊎_elim (λ a. omega arith) (λ a. omega arith) h)) in
    omega arith

pub range-in : (lo n k : ℕ) → lo ≤ k → k < lo + n → count k (range lo n) ≡ 1
range-in lo zero k a b = absurd (omega arith)
range-in lo (suc n) k a b = go (λ u v. range-in (suc lo) n k u v) (hit k lo)
  where
    go : (suc lo ≤ k → k < suc lo + n → count k (range (suc lo) n) ≡ 1) → Hit k lo → count k (range lo (suc n)) ≡ 1
    go ih (inl h) = let r = range-out (suc lo) n k (inl (omega arith)) in omega arith
    go ih (inr h) = let n : (k ≡ lo → ⊥) = h.0 in let r = ih (omega arith) (omega arith) in omega arith
