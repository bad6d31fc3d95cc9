-- Exchanges permute the slots: ids and both coordinates move together. Assumes nothing.
use Rattle.std.specs.Prelude.{◌≡◌, refl, ◌⊎◌, Bool, true, false, not, ℕ, ◌+◌, ◌*◌, ◌<◌, ◌≤◌, T, eqb, leb, length, get_or, Float}
use Rattle.std.proofs.Common.{sym, ap, ◌∙◌, subst, ⊎_elim, inl, inr, le_trans, lt_of_lt_of_le, lt_of_le_of_lt, arith, eqb-true, leb-true, leb-false}
use Rattle.std.specs.Float.Ieee.{is_nan}
use Rattle.std.proofs.lemmas.Bool.{eqb-false}
use Rattle.kdsort.specs.Cols.{IndexCols, swap_item, swap_ids}
use Rattle.kdsort.specs.Tree.{Permuted, Numbers}
use Rattle.kdsort.specs.laws.Swaps.{tr, tr-left, tr-right, tr-other, swap_at, length-swap_ids, length-swap_co, key-swap}

pub le-or-lt : (m n : ℕ) → (m ≤ n) ⊎ (n < m)
le-or-lt m n = go (leb m n) refl where
  go : (b : Bool) → leb m n ≡ b → (m ≤ n) ⊎ (n < m)
  go true e = inl (leb-true m n e)
  go false e = inr (leb-false m n e)

-- where p comes from, by whether it is one of the two
tr-cases : (i j p : ℕ) → ((p ≡ i) × (tr i j p ≡ j)) ⊎ (((p ≡ j) × (tr i j p ≡ i)) ⊎ (((p ≡ i) → ⊥) × ((p ≡ j) → ⊥) × (tr i j p ≡ p)))
tr-cases i j p = go (eqb p i) refl where
  other : (b : Bool) → eqb p i ≡ false → eqb p j ≡ b → ((p ≡ i) × (tr i j p ≡ j))
      ⊎ (((p ≡ j) × (tr i j p ≡ i)) ⊎ (((p ≡ i) → ⊥) × ((p ≡ j) → ⊥) × (tr i j p ≡ p)))
  other true ei e = inr (inl (eqb-true p j e, ap (tr i j) (eqb-true p j e) ∙ tr-right i j))
  other false ei e = inr (inr (eqb-false p i ei, eqb-false p j e, tr-other i j p (eqb-false p i ei) (eqb-false p j e)))

  go : (b : Bool) → eqb p i ≡ b → ((p ≡ i) × (tr i j p ≡ j))
      ⊎ (((p ≡ j) × (tr i j p ≡ i)) ⊎ (((p ≡ i) → ⊥) × ((p ≡ j) → ⊥) × (tr i j p ≡ p)))
  go true e = inl (eqb-true p i e, ap (tr i j) (eqb-true p i e) ∙ tr-left i j)
  go false e = other (eqb p j) e refl

tr-twice : (i j p : ℕ) → tr i j (tr i j p) ≡ p
tr-twice i j p =
    ⊎_elim (λ w. ap (tr i j) w.1 ∙ tr-right i j ∙ sym w.0)
    (λ v. ⊎_elim (λ w. ap (tr i j) w.1 ∙ tr-left i j ∙ sym w.0) (λ w. ap (tr i j) w.2 ∙ w.2) v)
    (tr-cases i j p)

tr-inside : (l r i j p : ℕ) → l ≤ i → i ≤ r → l ≤ j → j ≤ r → l ≤ p → p ≤ r → (l ≤ tr i j p) × (tr i j p ≤ r)
tr-inside l r i j p li ir lj jr lp pr =
    ⊎_elim (λ w. let e = w.1 in omega arith) (λ v. ⊎_elim (λ w. let e = w.1 in omega arith) (λ w. let e = w.2 in omega arith) v)
    (tr-cases i j p)

pub perm_same : (l r : ℕ) (s : IndexCols) → Permuted l r s s
perm_same l r s =
    record {
      from = λ p. p;
      to = λ p. p;
      there = λ p. refl;
      back = λ p. refl;
      inside = λ p h k. (h, k);
      before = λ p h. refl;
      after = λ p h. refl;
      id-of = λ p. refl;
      key_of = λ a p h. refl;
      ids-long = refl;
      co-long = refl;
    }

ids_at : (s : IndexCols) (i j p : ℕ) → i < length s.ids → j < length s.ids
    → get_or (swap_ids s.ids i j) p 0 ≡ get_or s.ids (tr i j p) 0
unfolding swap_ids
ids_at s i j p h k = swap_at 0 s.ids i j p h k

pub perm-swap : (l r : ℕ) (s : IndexCols) (i j : ℕ) → l ≤ i → i ≤ r → l ≤ j → j ≤ r → r < length s.ids → 2 * r + 1 < length s.co
    → Permuted l r s (swap_item s i j)
perm-swap l r s i j li ir lj jr rn nm =
    record {
      from = tr i j;
      to = tr i j;
      there = tr-twice i j;
      back = tr-twice i j;
      inside = λ p h k. tr-inside l r i j p li ir lj jr h k;
      before = λ p h. tr-other i j p (λ e. omega arith) (λ e. omega arith);
      after = λ p h. tr-other i j p (λ e. omega arith) (λ e. omega arith);
      id-of = λ p. ids_at s i j p (omega arith) (omega arith);
      key_of = λ a p h. key-swap s.co i j p (omega arith) (omega arith) a h;
      ids-long = length-swap_ids s.ids i j;
      co-long = length-swap_co s.co i j;
    }

pub perm-trans : (l r : ℕ) (s s' s'' : IndexCols) → Permuted l r s s' → Permuted l r s' s'' → Permuted l r s s''
perm-trans l r s s' s'' P Q =
    record {
      from = λ p. P.from (Q.from p);
      to = λ p. Q.to (P.to p);
      there = λ p. ap Q.to (P.there (Q.from p)) ∙ Q.there p;
      back = λ p. ap P.from (Q.back (P.to p)) ∙ P.back p;
      inside = λ p h k. let w = Q.inside p h k in P.inside (Q.from p) w.0 w.1;
      before = λ p h. ap P.from (Q.before p h) ∙ P.before p h;
      after = λ p h. ap P.from (Q.after p h) ∙ P.after p h;
      id-of = λ p. Q.id-of p ∙ P.id-of (Q.from p);
      key_of = λ a p h. Q.key_of a p h ∙ P.key_of a (Q.from p) h;
      ids-long = Q.ids-long ∙ P.ids-long;
      co-long = Q.co-long ∙ P.co-long;
    }

pub perm-widen : (l r l' r' : ℕ) (s s' : IndexCols) → l ≤ l' → r' ≤ r → Permuted l' r' s s' → Permuted l r s s'
perm-widen l r l' r' s s' hl hr P =
    record {
      from = P.from;
      to = P.to;
      there = P.there;
      back = P.back;
      inside = λ p h k. ⊎_elim (λ u. ⊎_elim (λ v. let w = P.inside p u v in (le_trans hl w.0, le_trans w.1 hr))
          (λ v. let e = P.after p v in omega arith) (le-or-lt p r')) (λ u. let e = P.before p u in omega arith) (le-or-lt l' p);
      before = λ p h. P.before p (lt_of_lt_of_le h hl);
      after = λ p h. P.after p (lt_of_le_of_lt hr h);
      id-of = P.id-of;
      key_of = P.key_of;
      ids-long = P.ids-long;
      co-long = P.co-long;
    }

-- an order of numbers keeps numbers
pub numbers-kept : (l r : ℕ) (s s' : IndexCols) → Permuted l r s s' → Numbers l r s → Numbers l r s'
unfolding Numbers
numbers-kept l r s s' P N a p a2 h k =
    let w = P.inside p h k in
    subst (λ (x : Float). T (not (is_nan x))) (sym (P.key_of a p a2)) (N a (P.from p) a2 w.0 w.1)
