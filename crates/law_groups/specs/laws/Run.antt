-- The groups as a run over the places, one case for a place that is passed by and one for a place that acts: what is seen stays as it is,
-- each place that had its turn is seen, and each place that was unseen comes to be in the groups exactly once. Assumes nothing.
use Rattle.std.specs.Prelude.{◌≡◌, refl, List, [], ◌∷◌, ◌++◌, map, Bool, true, false, not, ◌&&◌, ℕ, ◌+◌, ◌≤◌, ◌<◌, ltb, eqb, length}
use Rattle.std.proofs.Common.{sym, ap, ap₂, ◌∙◌, subst, inl, inr, ⊎_elim, arith, le_refl, le-ltb, ne_eqb, get_or-set_same, get_or-set_other}
use Rattle.kdslots.specs.laws.Keep.{keep-both}
use Rattle.build_tables.specs.declared.Entry.{Entry}
use Rattle.build_tables.specs.Entries.{Table, entry, none, marked}
use Rattle.build_tables.specs.Ids.{cluster_id}
use Rattle.law_groups.specs.laws.Sums.{pick, eqb_same, Hit, hit, below, sum-append, count-keep, sum-split}
use Rattle.law_groups.specs.Sums.{one_if, gate, sum, count}
use Rattle.law_groups.specs.Groups.{Group, copied, from, froms, unseen_at, marked_at, turn, without, others, members, joins, groups_at}
use Rattle.law_groups.specs.Groups.{after_group, turning, groups_from}
use Rattle.law_groups.specs.laws.Sweeps.{inside, seen_alike, turn-seen, length-sweep, sweep-seen, sweep-out, sweep-in}

-- ---- the places of groups

pub sum-froms-append : (f : ℕ → ℕ) (rs qs : List Group) → sum f (froms (rs ++ qs)) ≡ sum f (froms rs) + sum f (froms qs)
sum-froms-append f [] qs = omega arith
sum-froms-append f (r ∷ rs) qs =
    let a = sum-append f (from r) (froms (rs ++ qs)) in
    let b = sum-append f (from r) (froms rs) in
    let c = sum-froms-append f rs qs in
    omega arith

sum-froms-copies : (f : ℕ → ℕ) (g : ℕ → Entry) (ks : List ℕ) → sum f (froms (map (λ k. copied k (g k)) ks)) ≡ sum f ks
sum-froms-copies f g [] = refl
sum-froms-copies f g (k ∷ ks) = let a = sum-froms-copies f g ks in omega arith

-- ---- the run

module _ (n least z : ℕ) (near : ℕ → List ℕ) where
  -- the places in turn, the table before, the table after, the groups
  pub data Run : List ℕ → Table → Table → List Group → Type 0 where
    stop : {d : Table} → Run [] d d []
    pass : {i : ℕ} {is : List ℕ} {d d' : Table} {rs : List Group} → unseen_at z d i ≡ false → Run is d d' rs → Run (i ∷ is) d d' rs
    acts : {i : ℕ} {is : List ℕ} {d d' : Table} {rs : List Group} (b : Bool) → joins least z near d i ≡ b → unseen_at z d i ≡ true →
        Run is (after_group n z near b d i) d' rs → Run (i ∷ is) d d' (groups_at n z near b d i ++ rs)

  pub run : (is : List ℕ) (d : Table) → Run is d (groups_from n least z near is d).0 (groups_from n least z near is d).1
  run [] d = stop
  run (i ∷ is) d = go (λ e. run is e) (unseen_at z d i) refl
    where
      go : ((e : Table) → Run is e (groups_from n least z near is e).0 (groups_from n least z near is e).1) → (b : Bool)
          → unseen_at z d i ≡ b →
          Run (i ∷ is) d (turning n least z near b d i (λ e. groups_from n least z near is e)).0
          (turning n least z near b d i (λ e. groups_from n least z near is e)).1
      go ih true e = acts (joins least z near d i) refl e (ih (after_group n z near (joins least z near d i) d i))
      go ih false e = pass e (ih d)

-- ---- the answers around the places of a table of len places: each names its own place, and none twice
pub record Answers (len : ℕ) (near : ℕ → List ℕ) : Type 0 where
  pub self : (i : ℕ) → i < len → count i (near i) ≡ 1
  pub single : (i k : ℕ) → i < len → count k (near i) ≤ 1

-- ---- members

pub members-seen : (z : ℕ) (near : ℕ → List ℕ) (d : Table) (i k : ℕ) → unseen_at z d k ≡ false → count k (members z near d i) ≡ 0
members-seen z near d i k e = count-keep k (unseen_at z d) (near i) ∙ ap (λ (b : Bool). gate b (count k (near i))) e

pub members-here : (z : ℕ) (near : ℕ → List ℕ) (d : Table) (i k : ℕ) → unseen_at z d k ≡ true
    → count k (members z near d i) ≡ count k (near i)
members-here z near d i k e = count-keep k (unseen_at z d) (near i) ∙ ap (λ (b : Bool). gate b (count k (near i))) e

pub members-unseen : (z : ℕ) (near : ℕ → List ℕ) (d : Table) (i k : ℕ) → 0 < count k (members z near d i) → unseen_at z d k ≡ true
members-unseen z near d i k c = ⊎_elim (λ e. e) (λ e. absurd (let h = members-seen z near d i k e in omega arith)) (pick (unseen_at z d k))

and-not : (b : Bool) → b ≡ (b && not false)
and-not true = refl
and-not false = refl

-- the others are the members without the place itself
pub others-are : (z : ℕ) (near : ℕ → List ℕ) (d : Table) (i : ℕ) → unseen_at z d i ≡ true
    → others z near d i ≡ without i (members z near d i)
others-are z near d i u = keep-both (unseen_at z d) (λ k. not (eqb k i)) (unseen_at z (marked_at z i d)) each (near i)
  where
    each : (k : ℕ) → unseen_at z (marked_at z i d) k ≡ (unseen_at z d k && not (eqb k i))
    each k = ⊎_elim same other (hit k i)
      where
        same : (k ≡ i) × (one_if (eqb k i) ≡ 1) → unseen_at z (marked_at z i d) k ≡ (unseen_at z d k && not (eqb k i))
        same h =
            subst (λ (j : ℕ). unseen_at z (marked_at z i d) j ≡ (unseen_at z d j && not (eqb j i))) (sym h.0)
            (seen_alike z _ _ false (get_or-set_same d i (marked z (entry d i)) none (inside z d i u)) (le-ltb z z (le_refl z))
            ∙ sym (ap₂ (λ (a b : Bool). a && not b) u (eqb_same i)))

        other : (k ≡ i → ⊥) × (one_if (eqb k i) ≡ 0) → unseen_at z (marked_at z i d) k ≡ (unseen_at z d k && not (eqb k i))
        other h =
            ap (λ (r : Entry). ltb z r.seen) (get_or-set_other d i k (marked z (entry d i)) none h.0)
            ∙ and-not (unseen_at z d k) ∙ ap (λ (b : Bool). unseen_at z d k && not b) (sym (ne_eqb k i h.0))

-- ---- one place that acts

module _ (n z : ℕ) (near : ℕ → List ℕ) where
  -- a member is marked, and under the cluster if there is one
  pub after-in : (b : Bool) (d : Table) (i k : ℕ) → 0 < count k (members z near d i)
      → entry (after_group n z near b d i) k ≡ turn b z (cluster_id n z i) (entry d k)
  after-in b d i k c =
      let e = members-unseen z near d i k c in
      let h = members-here z near d i k e in
      sweep-in z (turn b z (cluster_id n z i)) (turn-seen b z (cluster_id n z i)) (i ∷ near i) d k e (omega arith)

  pub after-done : (b : Bool) (d : Table) (i k : ℕ) → 0 < count k (members z near d i) → unseen_at z (after_group n z near b d i) k ≡ false
  after-done b d i k c = seen_alike z _ _ false (after-in b d i k c) (ap (λ (s : ℕ). ltb z s) (turn-seen b z (cluster_id n z i) (entry d k))
      ∙ le-ltb z z (le_refl z))

  pub after-seen : (b : Bool) (d : Table) (i k : ℕ) → unseen_at z d k ≡ false → entry (after_group n z near b d i) k ≡ entry d k
  after-seen b d i k e = sweep-seen z (turn b z (cluster_id n z i)) (turn-seen b z (cluster_id n z i)) (i ∷ near i) d k e

  pub length-after : (b : Bool) (d : Table) (i len : ℕ) → length d ≡ len → length (after_group n z near b d i) ≡ len
  length-after b d i len l = length-sweep z (turn b z (cluster_id n z i)) (turn-seen b z (cluster_id n z i)) (i ∷ near i) d ∙ l

module _ (n least z len : ℕ) (near : ℕ → List ℕ) (A : Answers len near) where
  members-le : (d : Table) (i k : ℕ) → i < len → count k (members z near d i) ≤ 1
  members-le d i k h =
      ⊎_elim (λ e. let c = members-here z near d i k e in let s = A.single i k h in omega arith)
      (λ e. let c = members-seen z near d i k e in omega arith) (pick (unseen_at z d k))

  -- any other place stays as it is
  pub after-out : (b : Bool) (d : Table) (i k : ℕ) → i < len → count k (members z near d i) ≡ 0
      → entry (after_group n z near b d i) k ≡ entry d k
  after-out b d i k l c = ⊎_elim live (λ e. after-seen n z near b d i k e) (pick (unseen_at z d k))
    where
      apart : count k (near i) ≡ 0 → one_if (eqb k i) ≡ 0
      apart w = ⊎_elim (λ h. absurd (let s = A.self i l in let t : count k (near i) ≡ count i (near i) =
          ap (λ (j : ℕ). count j (near i)) h.0 in omega arith)) (λ h. h.1) (hit k i)

      live : unseen_at z d k ≡ true → entry (after_group n z near b d i) k ≡ entry d k
      live e =
          let h = members-here z near d i k e in
          let a = apart (omega arith) in
          sweep-out z (turn b z (cluster_id n z i)) (turn-seen b z (cluster_id n z i)) (i ∷ near i) d k (omega arith)

  -- the members are the place itself and the others, summed by any f
  pub members-split : (f : ℕ → ℕ) (d : Table) (i : ℕ) → length d ≡ len → unseen_at z d i ≡ true
      → sum f (members z near d i) ≡ f i + sum f (others z near d i)
  members-split f d i l e =
      sum-split f (unseen_at z d) (unseen_at z (marked_at z i d)) i (near i) (A.self i (let h = inside z d i e in omega arith)) e
      (seen_alike z _ _ false (get_or-set_same d i (marked z (entry d i)) none (inside z d i e)) (le-ltb z z (le_refl z)))
      (λ k h. ap (λ (r : Entry). ltb z r.seen) (sym (get_or-set_other d i k (marked z (entry d i)) none h)))

  -- the places of its groups are the members, summed by any f
  groups-sum : (f : ℕ → ℕ) (b : Bool) (d : Table) (i : ℕ) → length d ≡ len → unseen_at z d i ≡ true
      → sum f (froms (groups_at n z near b d i)) ≡ sum f (members z near d i)
  groups-sum f true d i l e = let a = sum-append f (members z near d i) [] in omega arith
  groups-sum f false d i l e = let a = sum-froms-copies f (λ k. marked z (entry d k)) (i ∷ others z near d i) in let b =
      members-split f d i l e in omega arith

  -- a place that acts sees its members
  after-count : (b : Bool) (d : Table) (i : ℕ) → length d ≡ len → unseen_at z d i ≡ true → (k : ℕ) →
      count k (members z near d i) + one_if (unseen_at z (after_group n z near b d i) k) ≡ one_if (unseen_at z d k)
  after-count b d i l u k = ⊎_elim member other (below 0 (count k (members z near d i)))
    where
      i<len : i < len
      i<len = let h = inside z d i u in omega arith

      member : 0 < count k (members z near d i) → count k (members z near d i) + one_if (unseen_at z (after_group n z near b d i) k)
          ≡ one_if (unseen_at z d k)
      member h =
          let p : one_if (unseen_at z (after_group n z near b d i) k) ≡ 0 = ap one_if (after-done n z near b d i k h) in
          let q : one_if (unseen_at z d k) ≡ 1 = ap one_if (members-unseen z near d i k h) in
          let r = members-le d i k i<len in
          omega arith

      other : count k (members z near d i) ≤ 0 → count k (members z near d i) + one_if (unseen_at z (after_group n z near b d i) k)
          ≡ one_if (unseen_at z d k)
      other h =
          let c : count k (members z near d i) ≡ 0 = omega arith in
          let p : one_if (unseen_at z (after_group n z near b d i) k) ≡ one_if (unseen_at z d k) =
          ap (λ (x : Entry). one_if (ltb z x.seen)) (after-out b d i k i<len c) in
          omega arith

  -- ---- along a run

  pub run_length : {is : List ℕ} {d d' : Table} {rs : List Group} → Run n least z near is d d' rs → length d ≡ len → length d' ≡ len
  run_length stop l = l
  run_length (pass e r) l = run_length r l
  run_length (acts {i = i} {d = d} b m e r) l = run_length r (length-after n z near b d i len l)

  -- what is seen stays as it is
  pub frame : {is : List ℕ} {d d' : Table} {rs : List Group} → Run n least z near is d d' rs → (k : ℕ) → unseen_at z d k ≡ false
      → entry d' k ≡ entry d k
  frame stop k e = refl
  frame (pass u r) k e = frame r k e
  frame (acts {i = i} {d = d} b m u r) k e =
      let a = after-seen n z near b d i k e in
      frame r k (seen_alike z _ _ false a e) ∙ a

  -- each place that was unseen is in the groups once, or is unseen still
  pub tally : {is : List ℕ} {d d' : Table} {rs : List Group} → Run n least z near is d d' rs → length d ≡ len → (k : ℕ) →
      count k (froms rs) + one_if (unseen_at z d' k) ≡ one_if (unseen_at z d k)
  tally stop l k = omega arith
  tally (pass u r) l k = tally r l k
  tally (acts {i = i} {d = d} {rs = rs} b m u r) l k =
      let a = sum-froms-append (λ x. one_if (eqb k x)) (groups_at n z near b d i) rs in
      let c = groups-sum (λ x. one_if (eqb k x)) b d i l u in
      let s = after-count b d i l u k in
      let t = tally r (length-after n z near b d i len l) k in
      omega arith

  -- a place that has had its turn is seen
  pub covered : {is : List ℕ} {d d' : Table} {rs : List Group} → Run n least z near is d d' rs → length d ≡ len → (k : ℕ) → 0 < count k is
      → unseen_at z d' k ≡ false
  covered stop l k c = absurd (omega arith)
  covered (pass {i = i} {is = is} {d = d} {d' = d'} u r) l k c = go (λ w. covered r l k w) (frame r) (hit k i)
    where
      go : (0 < count k is → unseen_at z d' k ≡ false) → ((j : ℕ) → unseen_at z d j ≡ false → entry d' j ≡ entry d j) → Hit k i
          → unseen_at z d' k ≡ false
      go ih fr (inl h) = let e : unseen_at z d k ≡ false = ap (λ (j : ℕ). unseen_at z d j) h.0 ∙ u in seen_alike z _ _ false (fr k e) e
      go ih fr (inr h) = ih (omega arith)
  covered (acts {i = i} {is = is} {d = d} {d' = d'} b m u r) l k c = go (λ w. covered r (length-after n z near b d i len l) k w) (frame r)
      (hit k i)
    where
      i<len : i < len
      i<len = let h = inside z d i u in omega arith

      go : (0 < count k is → unseen_at z d' k ≡ false)
          → ((j : ℕ) → unseen_at z (after_group n z near b d i) j ≡ false → entry d' j ≡ entry (after_group n z near b d i) j) → Hit k i
          → unseen_at z d' k ≡ false
      go ih fr (inl h) =
          let a = members-here z near d i i u in
          let s = A.self i i<len in
          let e : unseen_at z (after_group n z near b d i) k ≡ false = ap (λ (j : ℕ). unseen_at z (after_group n z near b d i) j) h.0
          ∙ after-done n z near b d i i (omega arith) in
          seen_alike z _ _ false (fr k e) e
      go ih fr (inr h) = ih (omega arith)
