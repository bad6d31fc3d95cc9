-- Any list turned page by page, the page k of a size beginning at k * size: how long a page is, that pages put together are the list, and
-- that what is in the list once is on exactly one page. Laws only; what is said of leaves stands in LeafPages. Assumes nothing.
use Rattle.std.specs.Prelude.{◌≡◌, refl, ◌⊎◌, List, [], ◌∷◌, ◌++◌, ℕ, zero, suc, ◌+◌, ◌-◌, ◌*◌, ◌<◌, ◌≤◌, min, length, take, drop}
use Rattle.std.proofs.Common.{sym, ap, ◌∙◌, subst, inl, inr, ⊎_elim, zero-mul, suc-mul, arith, length-take, length-drop, take-append-drop, drop_of_length-le, drop-drop}
use Rattle.law_groups.specs.Sums.{count, range}
use Rattle.law_groups.specs.laws.Sums.{sum-append}
use Rattle.law_lamps.specs.Owner.{gather}
use Rattle.owners.specs.LeafPages.{OnPage}

-- the items from k * size on, up to the size
abbrev pub page_of : ℕ → ℕ → List ℕ → List ℕ
page_of size k l = take size (drop (k * size) l)

pub page-first : (size : ℕ) (l : List ℕ) → page_of size 0 l ≡ take size l
page-first size l = ap (λ (n : ℕ). take size (drop n l)) (zero-mul size)

-- after the first page of a list come the pages of what is left
pub page-next : (size k : ℕ) (l : List ℕ) → page_of size (suc k) l ≡ page_of size k (drop size l)
page-next size k l =
    let e : suc k * size ≡ size + k * size = suc-mul k size ∙ swap (k * size) size in
    ap (λ (n : ℕ). take size (drop n l)) e ∙ ap (take size) (sym (drop-drop (k * size) size l))
  where
    swap : (a b : ℕ) → a + b ≡ b + a
    swap a b = omega arith

pub page-length : (size k : ℕ) (l : List ℕ) → length (page_of size k l) ≡ min size (length l - k * size)
page-length size k l = length-take size (drop (k * size) l) ∙ ap (min size) (length-drop (k * size) l)

-- from the page lo on, n pages that reach the end are what is left from lo * size on
joined-from : (size lo n : ℕ) (l : List ℕ) → length l ≤ (lo + n) * size → gather (λ k. page_of size k l) (range lo n) ≡ drop (lo * size) l
joined-from size lo zero l h =
    let e : lo + 0 ≡ lo = omega arith in
    sym (drop_of_length-le l (subst (λ (m : ℕ). length l ≤ m * size) e h))
joined-from size lo (suc n) l h =
    let e : lo + suc n ≡ suc lo + n = omega arith in
    let d : suc lo * size ≡ lo * size + size = suc-mul lo size in
    ap (λ (q : List ℕ). page_of size lo l ++ q)
    (joined-from size (suc lo) n l (subst (λ (m : ℕ). length l ≤ m * size) e h) ∙ ap (λ (m : ℕ). drop m l) d
    ∙ sym (drop-drop size (lo * size) l))
    ∙ take-append-drop size (drop (lo * size) l)

-- enough pages put together are the whole list
pub pages-joined : (size n : ℕ) (l : List ℕ) → length l ≤ n * size → gather (λ k. page_of size k l) (range 0 n) ≡ l
pages-joined size n l h =
    let e : n ≡ 0 + n = omega arith in
    joined-from size 0 n l (subst (λ (m : ℕ). length l ≤ m * size) e h) ∙ ap (λ (m : ℕ). drop m l) (zero-mul size)

-- ---- where an item stands

count-split : (x a : ℕ) (l : List ℕ) → count x l ≡ count x (take a l) + count x (drop a l)
count-split x a l = ap (count x) (sym (take-append-drop a l)) ∙ sum-append _ (take a l) (drop a l)

-- what is not in a list is on no page of it
pub none-on : (x size k : ℕ) (l : List ℕ) → count x l ≡ 0 → count x (page_of size k l) ≡ 0
none-on x size k l h =
    let a = count-split x (k * size) l in
    let b = count-split x size (drop (k * size) l) in
    omega arith

-- what is in a list once is on exactly one page, before its end
pub one-page : (x size n : ℕ) (l : List ℕ) → length l ≤ n * size → count x l ≡ 1 → (k : ℕ) × (k < n) × OnPage x (λ i. page_of size i l) k
one-page x size zero [] h e = absurd (omega arith)
one-page x size zero (y ∷ l) h e = absurd (omega arith)
one-page x size (suc n) l h e = ⊎_elim first (later (λ d m. one-page x size n (drop size l) d m))
    (either (count x (take size l)) (count x (drop size l)) (sym (count-split x size l) ∙ e))
  where
    either : (a b : ℕ) → a + b ≡ 1 → ((a ≡ 1) × (b ≡ 0)) ⊎ ((a ≡ 0) × (b ≡ 1))
    either zero b h = inr (refl, omega arith)
    either (suc a) b h = inl (omega arith, omega arith)

    first : ((count x (take size l) ≡ 1) × (count x (drop size l) ≡ 0)) → (k : ℕ) × (k < suc n) × OnPage x (λ i. page_of size i l) k
    first w = (0, omega arith, record { here = ap (count x) (page-first size l) ∙ w.0; nowhere-else = others })
      where
        others : (m : ℕ) → (m ≡ 0 → ⊥) → count x (page_of size m l) ≡ 0
        others zero v = absurd (v refl)
        others (suc m) v = ap (count x) (page-next size m l) ∙ none-on x size m (drop size l) w.1

    later : (length (drop size l) ≤ n * size → count x (drop size l) ≡ 1 → (k : ℕ) × (k < n)
        × OnPage x (λ i. page_of size i (drop size l)) k)
        → ((count x (take size l) ≡ 0) × (count x (drop size l) ≡ 1)) → (k : ℕ) × (k < suc n) × OnPage x (λ i. page_of size i l) k
    later rec w = from (rec few w.1)
      where
        few : length (drop size l) ≤ n * size
        few = let a = length-drop size l in let b = suc-mul n size in omega arith

        from : ((k : ℕ) × (k < n) × OnPage x (λ i. page_of size i (drop size l)) k) → (k : ℕ) × (k < suc n)
            × OnPage x (λ i. page_of size i l) k
        from (k, m, o) = (suc k, omega arith, record { here = ap (count x) (page-next size k l) ∙ o.here; nowhere-else = others })
          where
            others : (i : ℕ) → (i ≡ suc k → ⊥) → count x (page_of size i l) ≡ 0
            others zero v = ap (count x) (page-first size l) ∙ w.0
            others (suc i) v = ap (count x) (page-next size i l) ∙ o.nowhere-else i (λ u. v (ap suc u))
