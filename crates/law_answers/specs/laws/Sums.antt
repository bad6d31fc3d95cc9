-- Sums over the numbers below n: two sums change places, a sum with one term that counts is that term. And the sum over a list of
-- distinct places of a table, as a sum over all its places. Assumes nothing.
use Rattle.std.specs.Prelude.{◌≡◌, Bool, ℕ, zero, suc, ◌+◌, ◌≤◌, ◌<◌, ltb, length}
use Rattle.std.proofs.Math.Path.{refl, sym, ap, ap₂}
use Rattle.std.proofs.Common.{◌∙◌, arith, add-zero, zero-add, eqb-true, eq-eqb, ltb-true, ltb-false}
use Rattle.std.proofs.Math.Bool.{true, false, cond}
use mathlib.Core.List.{List, [], ◌∷◌}
use Rattle.std.proofs.Math.Dec.{eqb}
use Rattle.kdslots.specs.laws.Members.{NotIn, Distinct}
use Rattle.build_tables.specs.declared.Entry.{Entry}
use Rattle.build_tables.specs.Entries.{Table, entry}
use Rattle.build_one_zoom.specs.laws.Lamps.{sum_of}
use Rattle.ask_tile_table.specs.Tally.{member, total}

-- f 0 + f 1 + .. + f (n - 1)
unfoldable pub sum_to : ℕ → (ℕ → ℕ) → ℕ
sum_to zero f = 0
sum_to (suc n) f = f 0 + sum_to n (λ k. f (suc k))

-- ---- sums

pub sum_same : (n : ℕ) (f g : ℕ → ℕ) → ((k : ℕ) → k < n → f k ≡ g k) → sum_to n f ≡ sum_to n g
unfolding sum_to
sum_same zero f g e = refl
sum_same (suc n) f g e = ap₂ (λ (a b : ℕ). a + b) (e 0 (omega arith))
    (sum_same n (λ k. f (suc k)) (λ k. g (suc k)) (λ k h. e (suc k) (omega arith)))

sum-none : (n : ℕ) (f : ℕ → ℕ) → ((k : ℕ) → k < n → f k ≡ 0) → sum_to n f ≡ 0
unfolding sum_to
sum-none zero f e = refl
sum-none (suc n) f e =
    let a = e 0 (omega arith) in
    let b = sum-none n (λ k. f (suc k)) (λ k h. e (suc k) (omega arith)) in
    omega (arith, a, b)

sum-add : (n : ℕ) (f g : ℕ → ℕ) → sum_to n (λ k. f k + g k) ≡ sum_to n f + sum_to n g
unfolding sum_to
sum-add zero f g = refl
sum-add (suc n) f g = let h = sum-add n (λ k. f (suc k)) (λ k. g (suc k)) in rearranged (f 0) (g 0) _ _ _ h
  where
    rearranged : (a b c d e : ℕ) → c ≡ d + e → a + b + c ≡ a + d + (b + e)
    rearranged a b c d e h = omega arith

-- by rows or by columns
pub sum-swap : (n m : ℕ) (f : ℕ → ℕ → ℕ) → sum_to n (λ i. sum_to m (λ j. f i j)) ≡ sum_to m (λ j. sum_to n (λ i. f i j))
unfolding sum_to
sum-swap zero m f = sym (sum-none m (λ j. 0) (λ k h. refl))
sum-swap (suc n) m f =
    ap (λ (k : ℕ). sum_to m (λ j. f 0 j) + k) (sum-swap n m (λ i j. f (suc i) j))
    ∙ sym (sum-add m (λ j. f 0 j) (λ j. sum_to n (λ i. f (suc i) j)))

-- one term counts
pub sum-pick : (n q : ℕ) (f : ℕ → ℕ) (b : ℕ → Bool) → q < n → b q ≡ true → ((k : ℕ) → b k ≡ true → k ≡ q)
    → sum_to n (λ k. cond (b k) (f k) 0) ≡ f q
unfolding sum_to
sum-pick zero q f b h e u = absurd (omega arith)
sum-pick (suc n) zero f b h e u =
    let r : sum_to n (λ k. cond (b (suc k)) (f (suc k)) 0) ≡ 0 = sum-none n _ (λ k l. off k (b (suc k)) refl) in
    rw e (ap (λ (k : ℕ). f 0 + k) r ∙ add-zero (f 0))
  where
    off : (k : ℕ) (c : Bool) → b (suc k) ≡ c → cond (b (suc k)) (f (suc k)) 0 ≡ 0
    off k true q = absurd (let z = u (suc k) q in omega arith)
    off k false q = rw q
sum-pick (suc n) (suc q) f b h e u = first (b 0) refl ∙ sum-pick n q (λ k. f (suc k)) (λ k. b (suc k)) (omega arith) e
    (λ k p. let z = u (suc k) p in omega arith)
  where
    first : (c : Bool) → b 0 ≡ c → cond (b 0) (f 0) 0 + sum_to n (λ k. cond (b (suc k)) (f (suc k)) 0)
        ≡ sum_to n (λ k. cond (b (suc k)) (f (suc k)) 0)
    first true p = absurd (let z = u 0 p in omega arith)
    first false p = rw p (zero-add _)

-- none does
sum-off : (n : ℕ) (f : ℕ → ℕ) (b : ℕ → Bool) → ((k : ℕ) → k < n → b k ≡ true → ⊥) → sum_to n (λ k. cond (b k) (f k) 0) ≡ 0
sum-off n f b u = sum-none n _ (λ k h. go k h (b k) refl)
  where
    go : (k : ℕ) → k < n → (c : Bool) → b k ≡ c → cond (b k) (f k) 0 ≡ 0
    go k h true p = absurd (u k h p)
    go k h false p = rw p

-- ---- a table

-- what its entries carry, by place
pub sum-places : (f : Entry → ℕ) (t : Table) → sum_of f t ≡ sum_to (length t) (λ p. f (entry t p))
unfolding sum_of sum_to
sum-places f [] = refl
sum-places f (e ∷ t) = ap (λ (k : ℕ). f e + k) (sum-places f t)

not-member : (q : ℕ) (l : List ℕ) → NotIn q l → member q l ≡ false
unfolding member
not-member q [] n = refl
not-member q (p ∷ l) n = go (eqb q p) refl (not-member q l n.1)
  where
    go : (b : Bool) → eqb q p ≡ b → member q l ≡ false → member q (p ∷ l) ≡ false
    go true e h = absurd (n.0 (eqb-true q p e))
    go false e h = rw (e, member) h

module _ (t : Table) (w : Entry → ℕ) (past : (q : ℕ) → length t ≤ q → w (entry t q) ≡ 0) where
  one_more : (q : ℕ) (l : List ℕ) → member q l ≡ false → (p : ℕ)
      → cond (eqb p q) (w (entry t p)) 0 + cond (member p l) (w (entry t p)) 0 ≡ cond (member p (q ∷ l)) (w (entry t p)) 0
  unfolding member
  one_more q l n p = go (eqb p q) refl
    where
      go : (b : Bool) → eqb p q ≡ b → cond (eqb p q) (w (entry t p)) 0 + cond (member p l) (w (entry t p)) 0
          ≡ cond (member p (q ∷ l)) (w (entry t p)) 0
      go true e =
          let m : member p l ≡ false = ap (λ (k : ℕ). member k l) (eqb-true p q e) ∙ n in
          rw (e, member, m) (add-zero (w (entry t p)))
      go false e = rw (e, member) (zero-add _)

  single : (q : ℕ) → sum_to (length t) (λ p. cond (eqb p q) (w (entry t p)) 0) ≡ w (entry t q)
  single q = go (length t) past
    where
      go : (n : ℕ) → ((q : ℕ) → n ≤ q → w (entry t q) ≡ 0) → sum_to n (λ p. cond (eqb p q) (w (entry t p)) 0) ≡ w (entry t q)
      go n f = at (ltb q n) refl
        where
          at : (b : Bool) → ltb q n ≡ b → sum_to n (λ p. cond (eqb p q) (w (entry t p)) 0) ≡ w (entry t q)
          at true e = sum-pick n q (λ p. w (entry t p)) (λ p. eqb p q) (ltb-true q n e) (eq-eqb q q refl) (λ k h. eqb-true k q h)
          at false e = sum-off n (λ p. w (entry t p)) (λ p. eqb p q)
              (λ k h p. let z = eqb-true k q p in let y = ltb-false q n e in omega arith) ∙ sym (f q (ltb-false q n e))

  -- over distinct places, as a sum over all places
  pub total-members : (l : List ℕ) → Distinct l → total w t l ≡ sum_to (length t) (λ p. cond (member p l) (w (entry t p)) 0)
  unfolding total member
  total-members [] d = sym (sum-none (length t) (λ p. 0) (λ k h. refl))
  total-members (q ∷ l) d =
      ap₂ (λ (a b : ℕ). a + b) (sym (single q)) (total-members l d.1)
      ∙ sym (sum-add (length t) (λ p. cond (eqb p q) (w (entry t p)) 0) (λ p. cond (member p l) (w (entry t p)) 0))
      ∙ sum_same (length t) _ (λ p. cond (member p (q ∷ l)) (w (entry t p)) 0) (λ p h. one_more q l (not-member q l d.0) p)
