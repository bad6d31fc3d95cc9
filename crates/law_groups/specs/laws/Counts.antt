-- How often a place is in a list, in kdslots' words: once at most where no place is twice in it, once at least where the place is in it;
-- and back. Two lists with the same counts are each other in another order. Assumes nothing.
use Rattle.std.specs.Prelude.{◌≡◌, refl, ℕ, ◌≤◌, ◌<◌, eqb}
use Rattle.std.proofs.Common.{sym, ap, ◌∙◌, subst, inr, ⊎_elim, arith}
use mathlib.Core.List.Permᴰ
use mathlib.Core.List.{List, [], ◌∷◌, ◌++◌, map, Permᴰ}
use Rattle.kdslots.specs.laws.All.{All, AllBelow}
use Rattle.kdslots.specs.laws.Members.{In, NotIn, Distinct}
use Rattle.law_groups.specs.Sums.{one_if, sum, count, range}
use Rattle.law_groups.specs.laws.Sums.{hit, below, count_head, sum-append, range-in, range-out}

-- ---- from kdslots' words to counts

notin-count : (k : ℕ) (l : List ℕ) → NotIn k l → count k l ≡ 0
notin-count k [] h = refl
notin-count k (j ∷ js) h = let a = notin-count k js h.1 in ⊎_elim (λ e. absurd (h.0 e.0)) (λ e. let b = e.1 in omega arith)
    (hit k j)

pub distinct-count : (k : ℕ) (l : List ℕ) → Distinct l → count k l ≤ 1
distinct-count k [] d = omega arith
distinct-count k (j ∷ js) d = ⊎_elim same (other (distinct-count k js d.1)) (hit k j)
  where
    same : (k ≡ j) × (one_if (eqb k j) ≡ 1) → count k (j ∷ js) ≤ 1
    same e =
        let a = notin-count j js d.0 in
        let b : count k js ≡ count j js = ap (λ (i : ℕ). count i js) e.0 in
        let c = e.1 in
        omega arith

    other : count k js ≤ 1 → (k ≡ j → ⊥) × (one_if (eqb k j) ≡ 0) → count k (j ∷ js) ≤ 1
    other a e = let b = e.1 in omega arith

pub in_count : (k : ℕ) (l : List ℕ) → In k l → 1 ≤ count k l
in_count k l h =
    let a : count k l ≡ count k (h.0 ++ k ∷ h.1) = ap (λ (m : List ℕ). count k m) h.2 in
    let b = sum-append (λ x. one_if (eqb k x)) h.0 (k ∷ h.1) in
    let c = count_head k h.1 in
    omega arith

-- ---- and back

count-notin : (k : ℕ) (l : List ℕ) → count k l ≡ 0 → NotIn k l
count-notin k [] c = tt
count-notin k (j ∷ js) c = ((λ e. ⊎_elim (λ h. let a = h.1 in omega arith) (λ h. h.0 e) (hit k j)), count-notin k js (omega arith))

pub count-distinct : (l : List ℕ) → ((k : ℕ) → count k l ≤ 1) → Distinct l
count-distinct [] h = tt
count-distinct (j ∷ js) h = (
  count-notin j js (let a = h j in ⊎_elim (λ e. let b = e.1 in omega arith) (λ e. absurd (e.0 refl)) (hit j j)),
  count-distinct js (λ k. let a = h k in omega arith),
)

pub count-in : (k : ℕ) (l : List ℕ) → 1 ≤ count k l → In k l
count-in k [] c = absurd (omega arith)
count-in k (j ∷ js) c = ⊎_elim here (later (λ w. count-in k js w)) (hit k j)
  where
    here : (k ≡ j) × (one_if (eqb k j) ≡ 1) → In k (j ∷ js)
    here e = ([], js, ap (λ (i : ℕ). i ∷ js) (sym e.0))

    later : (1 ≤ count k js → In k js) → (k ≡ j → ⊥) × (one_if (eqb k j) ≡ 0) → In k (j ∷ js)
    later ih e = let b = e.1 in let w = ih (omega arith) in (j ∷ w.0, w.1, ap (λ (m : List ℕ). j ∷ m) w.2)

pub count-below : (n : ℕ) (l : List ℕ) → ((k : ℕ) → n ≤ k → count k l ≡ 0) → AllBelow n l
unfolding All
count-below n [] h = tt
count-below n (j ∷ js) h = (
  ⊎_elim (λ a. a) (λ a. absurd (let b = h j a in let c = count_head j js in omega arith)) (below j n),
  count-below n js (λ k a. let b = h k a in omega arith),
)

-- what each counted number is mapped to has the property
pub all-counted : {A : Type 0} (P : A → Type 0) (g : ℕ → A) (ks : List ℕ) → ((k : ℕ) → 0 < count k ks → P (g k)) → All P (map g ks)
unfolding All
all-counted P g [] h = tt
all-counted P g (k ∷ ks) h = (h k (count_head k ks), all-counted P g ks (λ j c. h j (omega arith)))

-- ---- the same counts are the same places in another order

pub same-counts : (xs ys : List ℕ) → ((k : ℕ) → count k xs ≡ count k ys) → Permᴰ xs ys
same-counts [] [] h = Permᴰ.nil
same-counts [] (y ∷ ys) h = absurd (let a = h y in let b = count_head y ys in omega arith)
same-counts (x ∷ xs) ys h = Permᴰ.trans (Permᴰ.cons refl (same-counts xs (there.0 ++ there.1) fewer)) back
  where
    there : In x ys
    there = count-in x ys (let a = h x in let b = count_head x xs in omega arith)

    fewer : (k : ℕ) → count k xs ≡ count k (there.0 ++ there.1)
    fewer k =
        let a = h k in
        let b : count k ys ≡ count k (there.0 ++ x ∷ there.1) = ap (λ (m : List ℕ). count k m) there.2 in
        let c = sum-append (λ y. one_if (eqb k y)) there.0 (x ∷ there.1) in
        let d = sum-append (λ y. one_if (eqb k y)) there.0 there.1 in
        omega arith

    back : Permᴰ (x ∷ (there.0 ++ there.1)) ys
    back = subst (λ (m : List ℕ). Permᴰ (x ∷ (there.0 ++ there.1)) m) (sym there.2)
        (Permᴰ.symm (Permᴰ.middle x there.0 there.1))

-- and they add up to the same
pub sum-permute : (f : ℕ → ℕ) {xs ys : List ℕ} → Permᴰ xs ys → sum f xs ≡ sum f ys
sum-permute f Permᴰ.nil = refl
sum-permute f (Permᴰ.cons e d) = let a = ap f e in let b = sum-permute f d in omega arith
sum-permute f (Permᴰ.swap e d) = let a = ap f e in let b = ap f d in omega arith
sum-permute f (Permᴰ.trans d e) = sum-permute f d ∙ sum-permute f e

-- a list with each place below n once, and no other, is the places from 0 up to n in another order
pub permutes : (n : ℕ) (l : List ℕ) → ((k : ℕ) → k < n → count k l ≡ 1) → ((k : ℕ) → n ≤ k → count k l ≡ 0) → Permᴰ l (range 0 n)
permutes n l once out =
    same-counts l (range 0 n)
    (λ k. ⊎_elim (λ h. once k h ∙ sym (range-in 0 n k (omega arith) (omega arith)))
    (λ h. out k h ∙ sym (range-out 0 n k (inr (omega arith)))) (below k n))
