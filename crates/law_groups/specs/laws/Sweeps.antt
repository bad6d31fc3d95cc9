-- What a sweep makes of each place: one that is unseen and in the list is changed once, and every other stays; seen and the length are as
-- expected, and a field that the change keeps is kept. Assumes nothing.
use Rattle.std.specs.Prelude.{◌≡◌, refl, List, [], ◌∷◌, Bool, true, false, ℕ, ◌<◌, ltb, eqb, length}
use Rattle.std.proofs.Common.{sym, ap, ◌∙◌, subst, inl, inr, ⊎_elim, arith, le_refl, ltb-true, le-ltb, length-set, get_or-set_same, get_or-set_other}
use Rattle.build_tables.specs.declared.Entry.{Entry}
use Rattle.build_tables.specs.Entries.{Table, entry, none}
use Rattle.build_one_zoom.specs.laws.Unseen.{unseen-in}
use Rattle.law_groups.specs.laws.Sums.{pick, eqb_same, Hit, hit, below}
use Rattle.law_groups.specs.Sums.{one_if, count}
use Rattle.law_groups.specs.Groups.{unseen_at, turn, change, sweep}

-- a place that is unseen is in the table
pub inside : (z : ℕ) (d : Table) (k : ℕ) → unseen_at z d k ≡ true → k < length d
inside z d k e = unseen-in z d k (ltb-true z (entry d k).seen e)

-- an entry that is the same is seen the same
pub seen_alike : (z : ℕ) (a b : Entry) (t : Bool) → a ≡ b → ltb z b.seen ≡ t → ltb z a.seen ≡ t
seen_alike z a b t h e = ap (λ (r : Entry). ltb z r.seen) h ∙ e

pub turn-seen : (b : Bool) (z p : ℕ) (e : Entry) → (turn b z p e).seen ≡ z
turn-seen true z p e = refl
turn-seen false z p e = refl

-- ---- a change that marks as seen by z
module _ (z : ℕ) (f : Entry → Entry) (hf : (e : Entry) → (f e).seen ≡ z) where
  pub now-seen : (e : Entry) → ltb z (f e).seen ≡ false
  now-seen e = ap (λ (s : ℕ). ltb z s) (hf e) ∙ le-ltb z z (le_refl z)

  change-other : (b : Bool) (d : Table) (j k : ℕ) → (k ≡ j → ⊥) → entry (change b f d j) k ≡ entry d k
  change-other true d j k h = get_or-set_other d j k (f (entry d j)) none h
  change-other false d j k h = refl

  change-same : (d : Table) (k : ℕ) → unseen_at z d k ≡ true → entry (change (unseen_at z d k) f d k) k ≡ f (entry d k)
  change-same d k e = ap (λ (b : Bool). entry (change b f d k) k) e ∙ get_or-set_same d k (f (entry d k)) none (inside z d k e)

  change-seen : (d : Table) (j k : ℕ) → unseen_at z d k ≡ false → entry (change (unseen_at z d j) f d j) k ≡ entry d k
  change-seen d j k e = go (hit k j)
    where
      go : Hit k j → entry (change (unseen_at z d j) f d j) k ≡ entry d k
      go (inl h) = ap (λ (b : Bool). entry (change b f d j) k) (ap (λ (i : ℕ). unseen_at z d i) (sym h.0) ∙ e)
      go (inr h) = change-other (unseen_at z d j) d j k h.0

  length-change : (b : Bool) (d : Table) (k : ℕ) → length (change b f d k) ≡ length d
  length-change true d k = length-set d k (f (entry d k))
  length-change false d k = refl

  -- ---- a sweep

  pub length-sweep : (ks : List ℕ) (d : Table) → length (sweep z f ks d) ≡ length d
  length-sweep [] d = refl
  length-sweep (k ∷ ks) d = length-sweep ks (change (unseen_at z d k) f d k) ∙ length-change (unseen_at z d k) d k

  -- what is seen stays as it is
  pub sweep-seen : (ks : List ℕ) (d : Table) (k : ℕ) → unseen_at z d k ≡ false → entry (sweep z f ks d) k ≡ entry d k
  sweep-seen [] d k e = refl
  sweep-seen (j ∷ ks) d k e =
      let h = change-seen d j k e in
      sweep-seen ks (change (unseen_at z d j) f d j) k (seen_alike z _ _ false h e) ∙ h

  -- so does what is not in the list
  pub sweep-out : (ks : List ℕ) (d : Table) (k : ℕ) → count k ks ≡ 0 → entry (sweep z f ks d) k ≡ entry d k
  sweep-out [] d k c = refl
  sweep-out (j ∷ ks) d k c =
      sweep-out ks (change (unseen_at z d j) f d j) k (omega arith)
      ∙ change-other (unseen_at z d j) d j k (λ e. let h : one_if (eqb k j) ≡ 1 = ap (λ (i : ℕ). one_if (eqb k i)) (sym e)
      ∙ ap one_if (eqb_same k) in omega arith)

  -- what is unseen and in the list is changed
  pub sweep-in : (ks : List ℕ) (d : Table) (k : ℕ) → unseen_at z d k ≡ true → 0 < count k ks → entry (sweep z f ks d) k ≡ f (entry d k)
  sweep-in [] d k e c = absurd (omega arith)
  sweep-in (j ∷ ks) d k e c = go (λ u v. sweep-in ks (change (unseen_at z d j) f d j) k u v) (hit k j)
    where
      go : (unseen_at z (change (unseen_at z d j) f d j) k ≡ true → 0 < count k ks
          → entry (sweep z f ks (change (unseen_at z d j) f d j)) k ≡ f (entry (change (unseen_at z d j) f d j) k)) →
          Hit k j → entry (sweep z f ks (change (unseen_at z d j) f d j)) k ≡ f (entry d k)
      go ih (inl h) =
          let a : entry (change (unseen_at z d j) f d j) k ≡ f (entry d k) =
          subst (λ (i : ℕ). entry (change (unseen_at z d i) f d i) k ≡ f (entry d k)) h.0 (change-same d k e) in
          sweep-seen ks (change (unseen_at z d j) f d j) k (seen_alike z _ _ false a (now-seen (entry d k))) ∙ a
      go ih (inr h) =
          let a : entry (change (unseen_at z d j) f d j) k ≡ entry d k = change-other (unseen_at z d j) d j k h.0 in
          ih (seen_alike z _ _ true a e) (omega arith) ∙ ap f a

  -- what becomes of a place depends on that place alone
  pub sweep-local : (ks : List ℕ) (d e : Table) (j : ℕ) → entry d j ≡ entry e j → entry (sweep z f ks d) j ≡ entry (sweep z f ks e) j
  sweep-local ks d e j h = ⊎_elim live dead (pick (unseen_at z d j))
    where
      across : (b : Bool) → unseen_at z d j ≡ b → unseen_at z e j ≡ b
      across b q = seen_alike z _ _ b (sym h) q

      dead : unseen_at z d j ≡ false → entry (sweep z f ks d) j ≡ entry (sweep z f ks e) j
      dead q = sweep-seen ks d j q ∙ h ∙ sym (sweep-seen ks e j (across false q))

      live : unseen_at z d j ≡ true → entry (sweep z f ks d) j ≡ entry (sweep z f ks e) j
      live q =
          ⊎_elim (λ c. sweep-in ks d j q c ∙ ap f h ∙ sym (sweep-in ks e j (across true q) c))
          (λ c. sweep-out ks d j (omega arith) ∙ h ∙ sym (sweep-out ks e j (omega arith)))
          (below 0 (count j ks))

  -- a field that the change keeps
  pub sweep-field : {B : Type 0} (c : Entry → B) → ((e : Entry) → c (f e) ≡ c e) → (ks : List ℕ) (d : Table) (k : ℕ)
      → c (entry (sweep z f ks d) k) ≡ c (entry d k)
  sweep-field c same ks d k =
      ⊎_elim (λ u. ⊎_elim (λ h. ap c (sweep-in ks d k u h) ∙ same (entry d k)) (λ h. ap c (sweep-out ks d k (omega arith)))
      (below 0 (count k ks)))
      (λ u. ap c (sweep-seen ks d k u)) (pick (unseen_at z d k))
