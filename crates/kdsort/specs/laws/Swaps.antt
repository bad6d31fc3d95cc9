-- What stands where after an exchange of two slots. Assumes nothing.
use Rattle.std.specs.Prelude.{◌≡◌, refl, ◌≢◌, ◌⊎◌, Bool, true, false, cond, List, ℕ, zero, suc, ◌+◌, ◌*◌, ◌<◌, eqb, set, Float}
use Rattle.std.proofs.Math.Path.{ap}
use Rattle.std.proofs.Common.{◌∙◌, ⊎_elim, inl, inr, arith, get_or-set_same, get_or-set_other, eqb-true, eq-eqb, ne_eqb}
use Rattle.std.proofs.Math.ListN.{length, get_or, length-set}
use Rattle.std.specs.Float.Ieee.{nan}
use Rattle.std.proofs.lemmas.Bool.{eqb-false}
use Rattle.kdsort.specs.Cols.{swap, swap_co, swap_ids, key}

-- where p comes from when i and j are exchanged
abbrev pub tr : ℕ → ℕ → ℕ → ℕ
tr i j p = cond (eqb p j) i (cond (eqb p i) j p)

module _ {A : Type 0} (d : A) (xs : List A) (i j : ℕ) where
  pub length-swap : length (swap d xs i j) ≡ length xs
  length-swap = simp length-set

  at_i : (b : Bool) (p : ℕ) → eqb p i ≡ b → p ≢ j → i < length xs → get_or (swap d xs i j) p d ≡ get_or xs (cond b j p) d
  at_i true p e n li = get_or-set_other (set xs i (get_or xs j d)) j p (get_or xs i d) d n
      ∙ ap (λ (q : ℕ). get_or (set xs i (get_or xs j d)) q d) (eqb-true p i e) ∙ get_or-set_same xs i (get_or xs j d) d li
  at_i false p e n li = get_or-set_other (set xs i (get_or xs j d)) j p (get_or xs i d) d n
      ∙ get_or-set_other xs i p (get_or xs j d) d (eqb-false p i e)

  at_j : (b : Bool) (p : ℕ) → eqb p j ≡ b → i < length xs → j < length xs
      → get_or (swap d xs i j) p d ≡ get_or xs (cond b i (cond (eqb p i) j p)) d
  at_j true p e li lj = ap (λ (q : ℕ). get_or (swap d xs i j) q d) (eqb-true p j e)
      ∙ get_or-set_same (set xs i (get_or xs j d)) j (get_or xs i d) d (simp length-set lj)
  at_j false p e li lj = at_i (eqb p i) p refl (eqb-false p j e) li

  pub swap_at : (p : ℕ) → i < length xs → j < length xs → get_or (swap d xs i j) p d ≡ get_or xs (tr i j p) d
  swap_at p li lj = at_j (eqb p j) p refl li lj

pub axis-cases : (a : ℕ) → a < 2 → (a ≡ 0) ⊎ (a ≡ 1)
axis-cases zero h = inl refl
axis-cases (suc zero) h = inr refl
axis-cases (suc (suc a)) h = absurd (omega arith)

pub tr-left : (i j : ℕ) → tr i j i ≡ j
tr-left i j = go (eqb i j) refl where
  go : (b : Bool) → eqb i j ≡ b → cond b i (cond (eqb i i) j i) ≡ j
  go true e = eqb-true i j e
  go false e = ap (λ (b : Bool). cond b j i) (eq-eqb i i refl)

pub tr-right : (i j : ℕ) → tr i j j ≡ i
tr-right i j = ap (λ (b : Bool). cond b i (cond (eqb j i) j j)) (eq-eqb j j refl)

pub tr-other : (i j p : ℕ) → p ≢ i → p ≢ j → tr i j p ≡ p
tr-other i j p ni nj = ap (λ (b : Bool). cond b i (cond (eqb p i) j p)) (ne_eqb p j nj) ∙ ap (λ (b : Bool). cond b j p) (ne_eqb p i ni)

pub length-swap_ids : (l : List ℕ) (i j : ℕ) → length (swap_ids l i j) ≡ length l
unfolding swap_ids
length-swap_ids l i j = length-swap 0 l i j

pub length-swap_co : (c : List Float) (i j : ℕ) → length (swap_co c i j) ≡ length c
unfolding swap_co
length-swap_co c i j = length-swap nan (swap nan c (2 * i) (2 * j)) (2 * i + 1) (2 * j + 1) ∙ length-swap nan c (2 * i) (2 * j)

-- a test of doubled numbers
even-test : (p j : ℕ) → eqb (2 * p) (2 * j) ≡ eqb p j
even-test p j = go (eqb p j) refl where
  go : (b : Bool) → eqb p j ≡ b → eqb (2 * p) (2 * j) ≡ b
  go true e = eq-eqb (2 * p) (2 * j) (ap (λ (q : ℕ). 2 * q) (eqb-true p j e))
  go false e = ne_eqb (2 * p) (2 * j) (λ h. eqb-false p j e (omega arith))

odd-test : (p j : ℕ) → eqb (2 * p + 1) (2 * j + 1) ≡ eqb p j
odd-test p j = go (eqb p j) refl where
  go : (b : Bool) → eqb p j ≡ b → eqb (2 * p + 1) (2 * j + 1) ≡ b
  go true e = eq-eqb (2 * p + 1) (2 * j + 1) (ap (λ (q : ℕ). 2 * q + 1) (eqb-true p j e))
  go false e = ne_eqb (2 * p + 1) (2 * j + 1) (λ h. eqb-false p j e (omega arith))

tr-even : (i j p : ℕ) → tr (2 * i) (2 * j) (2 * p) ≡ 2 * tr i j p
tr-even i j p = rw (even-test p j, even-test p i) (go (eqb p j) (eqb p i)) where
  go : (x y : Bool) → cond x (2 * i) (cond y (2 * j) (2 * p)) ≡ 2 * cond x i (cond y j p)
  go true y = refl
  go false true = refl
  go false false = refl

tr-odd : (i j p : ℕ) → tr (2 * i + 1) (2 * j + 1) (2 * p + 1) ≡ 2 * tr i j p + 1
tr-odd i j p = rw (odd-test p j, odd-test p i) (go (eqb p j) (eqb p i)) where
  go : (x y : Bool) → cond x (2 * i + 1) (cond y (2 * j + 1) (2 * p + 1)) ≡ 2 * cond x i (cond y j p) + 1
  go true y = refl
  go false true = refl
  go false false = refl

module _ (c : List Float) (i j p : ℕ) (li : 2 * i + 1 < length c) (lj : 2 * j + 1 < length c) where
  at-even : get_or (swap_co c i j) (2 * p) nan ≡ get_or c (2 * tr i j p) nan
  unfolding swap_co
  at-even =
      let l1 : 2 * i + 1 < length (swap nan c (2 * i) (2 * j)) = simp length-set (omega arith) in
      let l2 : 2 * j + 1 < length (swap nan c (2 * i) (2 * j)) = simp length-set (omega arith) in
      swap_at nan (swap nan c (2 * i) (2 * j)) (2 * i + 1) (2 * j + 1) (2 * p) l1 l2
      ∙ ap (λ (q : ℕ). get_or (swap nan c (2 * i) (2 * j)) q nan)
      (tr-other (2 * i + 1) (2 * j + 1) (2 * p) (λ h. omega arith) (λ h. omega arith))
      ∙ swap_at nan c (2 * i) (2 * j) (2 * p) (omega arith) (omega arith)
      ∙ ap (λ (q : ℕ). get_or c q nan) (tr-even i j p)

  at-odd : get_or (swap_co c i j) (2 * p + 1) nan ≡ get_or c (2 * tr i j p + 1) nan
  unfolding swap_co
  at-odd =
      let l1 : 2 * i + 1 < length (swap nan c (2 * i) (2 * j)) = simp length-set (omega arith) in
      let l2 : 2 * j + 1 < length (swap nan c (2 * i) (2 * j)) = simp length-set (omega arith) in
      swap_at nan (swap nan c (2 * i) (2 * j)) (2 * i + 1) (2 * j + 1) (2 * p + 1) l1 l2
      ∙ ap (λ (q : ℕ). get_or (swap nan c (2 * i) (2 * j)) q nan) (tr-odd i j p)
      ∙ swap_at nan c (2 * i) (2 * j) (2 * tr i j p + 1) (omega arith) (omega arith)
      ∙ ap (λ (q : ℕ). get_or c q nan) (tr-other (2 * i) (2 * j) (2 * tr i j p + 1) (λ h. omega arith) (λ h. omega arith))

  pub key-swap : (a : ℕ) → a < 2 → key a (swap_co c i j) p ≡ key a c (tr i j p)
  key-swap a h =
      ⊎_elim (λ e. rw e (rw (add-0 (2 * p), add-0 (2 * tr i j p)) at-even)) (λ e. rw e at-odd) (axis-cases a h) where
        add-0 : (n : ℕ) → n + 0 ≡ n
        add-0 n = omega arith
