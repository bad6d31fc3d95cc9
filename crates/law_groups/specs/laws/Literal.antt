-- The groups are what a zoom makes: its table afterwards and its next table, step by step as `cluster` has them, are the groups' table
-- and the groups' entries, where no place is answered twice and the own place of each entry is answered around it. Assumes nothing.
use Rattle.std.specs.Prelude.{◌≡◌, ltb, get_or, set, Float}
use Rattle.std.proofs.Math.Path.{refl, sym, ap}
use Rattle.std.proofs.Common.{ap₂, ◌∙◌, subst, ⊎_elim, arith, le_refl, ltb-true, ltb-false, le-ltb, length-set, get_or-set_same, get_or-set_other, ext_get_or}
use mathlib.Core.List.{List, [], ◌∷◌, ◌++◌, map, append_assoc, append-nil}
use Rattle.std.proofs.Math.Bool.{Bool, true, false}
use Prim.Native.Nat.{ℕ, zero, suc, ◌+◌, ◌<◌}
use Rattle.std.proofs.Math.ListN.{length}
use Rattle.std.proofs.Math.Seq.{append_snoc}
use Rattle.kdslots.specs.laws.Members.{In, Distinct}
use Rattle.build_tables.specs.declared.Entry.{Entry}
use Rattle.build_tables.specs.Entries.{Table, entry, none, marked, under}
use Rattle.build_tables.specs.Ids.{cluster_id}
use Rattle.build_one_zoom.specs.laws.Steps.{total_of, visit-made, visit-left, scan-seen, scan-visit}
use Rattle.build_one_zoom.specs.laws.Lamps.{Carried, energy-carried}
use Rattle.build_one_zoom.specs.Zoom.{num_of, energy_of, more_of, Absorbed, absorbed, absorb, started, centre, Scan, made, enough, visit}
use Rattle.build_one_zoom.specs.Zoom.{scan_one}
use Rattle.build_one_zoom.specs.Zoom.{scan_from, cluster}
use Rattle.law_groups.specs.laws.Sums.{hit, sum-ext}
use Rattle.law_groups.specs.Sums.{range}
use Rattle.law_groups.specs.laws.Counts.{distinct-count, in_count, count-distinct}
use Rattle.law_groups.specs.Groups.{Group, copied, entry_of, unseen_at, marked_at, took, turn, change, sweep, others, sum_at, group_total}
use Rattle.law_groups.specs.Groups.{joins}
use Rattle.law_groups.specs.Groups.{weighed_sum, centre_at, groups_at, after_group, turning, groups_from, around, groups_of}
use Rattle.law_groups.specs.laws.Sweeps.{inside, seen_alike, turn-seen, length-sweep, sweep-seen, sweep-local, sweep-field}
use Rattle.law_groups.specs.laws.Run.{Answers, length-after}
use Rattle.law_groups.specs.laws.Walks.{map-ext, more-is, absorb-table, weighed-ext, absorb-sums, copies_of, copy_is}

-- ---- marking the origin first changes no num and no coordinate

marked-like : (z i : ℕ) (d : Table) (k : ℕ) → i < length d → marked z (entry (marked_at z i d) k) ≡ marked z (entry d k)
marked-like z i d k l =
    ⊎_elim (λ e. subst (λ (j : ℕ). marked z (entry (marked_at z i d) j) ≡ marked z (entry d j)) (sym e.0)
    (ap (λ (w : Entry). marked z w) (get_or-set_same d i (marked z (entry d i)) none l)))
    (λ e. ap (λ (w : Entry). marked z w) (get_or-set_other d i k (marked z (entry d i)) none e.0)) (hit k i)

-- ---- the origin's parent, set last or first

last-first : (z p : ℕ) (ks : List ℕ) (d : Table) (i : ℕ) → i < length d →
    set (sweep z (took z p) ks (marked_at z i d)) i (under p (entry (sweep z (took z p) ks (marked_at z i d)) i)) ≡ sweep z (took z p) ks
    (set d i (took z p (entry d i)))
last-first z p ks d i l = ext_get_or none L R lens each
  where
    hf : (e : Entry) → (took z p e).seen ≡ z
    hf e = refl

    M : Table
    M = sweep z (took z p) ks (marked_at z i d)

    L : Table
    L = set (sweep z (took z p) ks (marked_at z i d)) i (under p (entry (sweep z (took z p) ks (marked_at z i d)) i))

    R : Table
    R = sweep z (took z p) ks (set d i (took z p (entry d i)))

    long : length M ≡ length d
    long = length-sweep z (took z p) hf ks (marked_at z i d) ∙ length-set d i (marked z (entry d i))

    lens : length L ≡ length R
    lens = length-set M i (under p (entry M i)) ∙ long
        ∙ sym (length-sweep z (took z p) hf ks (set d i (took z p (entry d i))) ∙ length-set d i (took z p (entry d i)))

    seen-now : (v : Entry) → v.seen ≡ z → unseen_at z (set d i v) i ≡ false
    seen-now v e = seen_alike z _ _ false (get_or-set_same d i v none l) (ap (λ (w : ℕ). ltb z w) e ∙ le-ltb z z (le_refl z))

    here : entry L i ≡ entry R i
    here =
        get_or-set_same M i (under p (entry M i)) none (let a = long in omega arith)
        ∙ ap (λ (w : Entry). under p w) (sweep-seen z (took z p) hf ks (marked_at z i d) i (seen-now (marked z (entry d i)) refl)
        ∙ get_or-set_same d i (marked z (entry d i)) none l)
        ∙ sym (sweep-seen z (took z p) hf ks (set d i (took z p (entry d i))) i (seen-now (took z p (entry d i)) refl)
        ∙ get_or-set_same d i (took z p (entry d i)) none l)

    each : (j : ℕ) → j < length L → entry L j ≡ entry R j
    each j w =
        ⊎_elim (λ e. subst (λ (k : ℕ). entry L k ≡ entry R k) (sym e.0) here)
        (λ e. get_or-set_other M i j (under p (entry M i)) none e.0
        ∙ sweep-local z (took z p) hf ks (marked_at z i d) (set d i (took z p (entry d i))) j
        (get_or-set_other d i j (marked z (entry d i)) none e.0 ∙ sym (get_or-set_other d i j (took z p (entry d i)) none e.0)))
        (hit j i)

-- ---- the entries of groups

entries-copied : (g : ℕ → Entry) (ks : List ℕ) → map entry_of (map (λ k. copied k (g k)) ks) ≡ map g ks
entries-copied g [] = refl
entries-copied g (k ∷ ks) = ap (λ (l : Table). g k ∷ l) (entries-copied g ks)

entries-append : (rs qs : List Group) → map entry_of (rs ++ qs) ≡ map entry_of rs ++ map entry_of qs
entries-append [] qs = refl
entries-append (r ∷ rs) qs = ap (λ (l : Table). entry_of r ∷ l) (entries-append rs qs)

-- the entry at a place of the next table is that of the group there
pub next-entry : (gs : List Group) (g : Group) (j : ℕ) → j < length gs → entry (map entry_of gs) j ≡ entry_of (get_or gs j g)
next-entry [] g j h = absurd (omega arith)
next-entry (r ∷ gs) g zero h = refl
next-entry (r ∷ gs) g (suc j) h = next-entry gs g j (omega arith)

-- ---- one place

-- a scan of the table d and the entries nx, after the place i: b says whether a cluster is made
abbrev scan_after : ℕ → ℕ → (ℕ → List ℕ) → Bool → Table → ℕ → Table → Scan
scan_after n z near b d i nx = record { table = after_group n z near b d i; next = nx ++ map entry_of (groups_at n z near b d i) }

module _ (n least z len : ℕ) (near : ℕ → List ℕ) (A : Answers len near) (d : Table) (i : ℕ) (l : length d ≡ len)
    (u : unseen_at z d i ≡ true) where
  at_i : i < length d
  at_i = inside z d i u

  i<len : i < len
  i<len = let a = at_i in omega arith

  own : entry (marked_at z i d) i ≡ marked z (entry d i)
  own = get_or-set_same d i (marked z (entry d i)) none at_i

  -- a number that a mark leaves, of the place and of its unseen answers
  more-at : (f : Entry → ℕ) → ((e : Entry) (q : ℕ) → f (marked q e) ≡ f e) →
      f (entry (marked_at z i d) i) + more_of f z (marked_at z i d) (near i) ≡ sum_at f z near d i
  more-at f same =
      let like : (k : ℕ) → f (entry (marked_at z i d) k) ≡ f (entry d k) =
      λ k. sym (same (entry (marked_at z i d) k) z) ∙ ap f (marked-like z i d k at_i) ∙ same (entry d k) z in
      let a = more-is f z (marked_at z i d) (near i) in
      let b = like i in
      let c = sum-ext (λ k. f (entry (marked_at z i d) k)) (λ k. f (entry d k)) (others z near d i) (λ k w. like k) in
      omega arith

  total-is : total_of z (near i) i (marked_at z i d) ≡ group_total z near d i
  total-is = more-at num_of (λ e q. refl)

  parent-last : set (sweep z (took z (cluster_id n z i)) (near i) (marked_at z i d)) i
      (under (cluster_id n z i) (entry (sweep z (took z (cluster_id n z i)) (near i) (marked_at z i d)) i))
      ≡ after_group n z near true d i
  parent-last = last-first z (cluster_id n z i) (near i) d i at_i
      ∙ ap (λ (b : Bool). sweep z (took z (cluster_id n z i)) (near i) (change b (took z (cluster_id n z i)) d i)) (sym u)

  sum_is : (c : Entry → Float) → ((e : Entry) → c (marked z e) ≡ c e) → (w : Float)
      → weighed_sum c (marked_at z i d) w (others z near d i) ≡ weighed_sum c d w (others z near d i)
  sum_is c same w =
      weighed-ext c (marked_at z i d) d (others z near d i) w
      (λ k h. (
        sym (same (entry (marked_at z i d) k)) ∙ ap c (marked-like z i d k at_i)
            ∙ same (entry d k),
        ap (λ (e : Entry). e.num) (marked-like z i d k at_i),
      ))

  -- what the answers are absorbed to, and the entry of the cluster
  abbrev grown : Absorbed
  grown = absorb z (cluster_id n z i) (started (marked_at z i d) (marked z (entry d i))) (near i)

  near-distinct : Distinct (near i)
  near-distinct = count-distinct (near i) (λ j. A.single i j i<len)

  centre-is : centre grown (cluster_id n z i) (group_total z near d i) ≡ centre_at n z near d i
  centre-is =
      let p = cluster_id n z i in
      let M = marked_at z i d in
      let s = started M (marked z (entry d i)) in
      let a = absorb-sums z p s (near i) (λ j. A.single i j i<len) in
      let x = a.0 ∙ sum_is (λ e. e.x) (λ e. refl) s.sx in
      let y = a.1 ∙ sum_is (λ e. e.y) (λ e. refl) s.sy in
      let w : grown.se ≡ sum_at energy_of z near d i =
      ap (λ (e : Entry). (absorb z p (started M e) (near i)).se) (sym own)
      ∙ energy-carried.sums z p i (near i) M near-distinct ∙ more-at energy_of energy-carried.marks in
      λ k. centre (absorbed d (x k) (y k) (w k)) p (group_total z near d i)

  -- what the cluster carries: the sum of what the place and the others do
  pub centre-carries : (f : Entry → ℕ) → Carried f → f (centre_at n z near d i) ≡ sum_at f z near d i
  centre-carries f C =
      let p = cluster_id n z i in
      let M = marked_at z i d in
      let whole : centre (absorb z p (started M (entry M i)) (near i)) p (total_of z (near i) i M) ≡ centre_at n z near d i =
      ap₂ (λ (w : Entry) (t : ℕ). centre (absorb z p (started M w) (near i)) p t) own total-is ∙ centre-is in
      sym (ap f whole) ∙ C.sums z p i (near i) M near-distinct ∙ more-at f C.marks

  made-is : (nx : Table) → made i grown nx (cluster_id n z i) (group_total z near d i) ≡ scan_after n z near true d i nx
  made-is nx =
      let p = cluster_id n z i in
      let s = started (marked_at z i d) (marked z (entry d i)) in
      ap₂ (λ (a : Table) (e : Entry). record { table = a; next = nx ++ (e ∷ []) })
      (ap (λ (w : Table). set w i (under p (entry w i))) (absorb-table z p s (near i)) ∙ parent-last) centre-is

  left_is : (nx : Table) → copies_of z (record { table = marked_at z i d; next = nx ++ (marked z (entry d i) ∷ []) }) (near i)
      ≡ scan_after n z near false d i nx
  left_is nx =
      ap₂ (λ (a b : Table). record { table = a; next = b })
      (ap (λ (b : Bool). sweep z (marked z) (near i) (change b (marked z) d i)) (sym u))
      (append_snoc nx (marked z (entry d i)) (map (λ k. marked z (entry (marked_at z i d) k)) (others z near d i))
      ∙ ap (λ (q : Table). nx ++ marked z (entry d i) ∷ q)
      (map-ext (λ k. marked z (entry (marked_at z i d) k)) (λ k. marked z (entry d k)) (others z near d i) (λ k w. marked-like z i d k at_i)
      ∙ sym (entries-copied (λ k. marked z (entry d k)) (others z near d i))))

  test-is : enough (entry (marked_at z i d) i).num (total_of z (near i) i (marked_at z i d)) least ≡ joins least z near d i
  test-is = ap₂ (λ (o t : ℕ). enough o t least) (ap (λ (e : Entry). e.num) own) total-is

  visit-is : (nx : Table) (b : Bool) → joins least z near d i ≡ b
      → visit n least z (near i) i (record { table = marked_at z i d; next = nx }) ≡ scan_after n z near b d i nx
  visit-is nx true e =
      visit-made n least z (near i) i (record { table = marked_at z i d; next = nx }) (test-is ∙ e)
      ∙ ap₂ (λ (w : Entry) (t : ℕ). made i (absorb z (cluster_id n z i) (started (marked_at z i d) w) (near i)) nx (cluster_id n z i) t) own
      total-is
      ∙ made-is nx
  visit-is nx false e =
      visit-left n least z (near i) i (record { table = marked_at z i d; next = nx }) (test-is ∙ e)
      ∙ copy_is z (record { table = marked_at z i d; next = nx ++ (entry (marked_at z i d) i ∷ []) }) (near i) (λ j. A.single i j i<len)
      ∙ ap (λ (w : Entry). copies_of z (record { table = marked_at z i d; next = nx ++ (w ∷ []) }) (near i)) own
      ∙ left_is nx

-- ---- the whole scan

-- each entry of d is where it is in t
abbrev Placed : Table → Table → Type 0
Placed t d = (k : ℕ) → ((entry d k).x ≡ (entry t k).x) × ((entry d k).y ≡ (entry t k).y)

turn-x : (b : Bool) (z p : ℕ) (e : Entry) → (turn b z p e).x ≡ e.x
turn-x true z p e = refl
turn-x false z p e = refl

turn-y : (b : Bool) (z p : ℕ) (e : Entry) → (turn b z p e).y ≡ e.y
turn-y true z p e = refl
turn-y false z p e = refl

placed-after : (n z : ℕ) (near : ℕ → List ℕ) (t : Table) (b : Bool) (d : Table) (i : ℕ) → Placed t d → Placed t (after_group n z near b d i)
placed-after n z near t b d i h k =
    let p = cluster_id n z i in (
      sweep-field z (turn b z p) (turn-seen b z p) (λ e. e.x) (turn-x b z p) (i ∷ near i) d k ∙ (h k).0,
      sweep-field z (turn b z p) (turn-seen b z p) (λ e. e.y) (turn-y b z p) (i ∷ near i) d k ∙ (h k).1,
    )

module _ (n least z : ℕ) (near : Float → Float → List ℕ) (t : Table) (A : Answers (length t) (around near t)) where
  one-is : (d nx : Table) (i : ℕ) → length d ≡ length t → Placed t d → unseen_at z d i ≡ true →
      scan_one n least z near (record { table = d; next = nx }) i ≡ scan_after n z (around near t) (joins least z (around near t) d i) d i nx
  one-is d nx i l h u =
      scan-visit n least z near (record { table = d; next = nx }) i (ltb-true z (entry d i).seen u)
      ∙ ap₂ (λ (x y : Float). visit n least z (near x y) i (record { table = marked_at z i d; next = nx })) (h i).0 (h i).1
      ∙ visit-is n least z (length t) (around near t) A d i l u nx (joins least z (around near t) d i) refl

  from_is : (k i : ℕ) (d nx : Table) → length d ≡ length t → Placed t d →
      scan_from n least z near (record { table = d; next = nx }) i k
      ≡ record {
        table = (groups_from n least z (around near t) (range i k) d).0;
        next =
            nx ++ map entry_of (groups_from n least z (around near t) (range i k) d).1;
      }
  unfolding scan_from
  from_is zero i d nx l h = λ j. record { table = d; next = sym (append-nil nx) j }
  from_is (suc k) i d nx l h = go (λ e q w v. from_is k (suc i) e q w v) (unseen_at z d i) refl
    where
      go : ((e q : Table) → length e ≡ length t → Placed t e → scan_from n least z near (record { table = e; next = q }) (suc i) k
          ≡ record {
            table = (groups_from n least z (around near t) (range (suc i) k) e).0;
            next =
                q ++ map entry_of (groups_from n least z (around near t) (range (suc i) k) e).1;
          }) →
          (b : Bool) → unseen_at z d i ≡ b → scan_from n least z near (scan_one n least z near (record { table = d; next = nx }) i) (suc i) k
          ≡ record {
            table = (turning n least z (around near t) b d i (λ e. groups_from n least z (around near t) (range (suc i) k) e)).0;
            next = nx ++ map entry_of (turning n least z (around near t) b d i
                (λ e. groups_from n least z (around near t) (range (suc i) k) e)).1;
          }
      go ih true u =
          let b : Bool = joins least z (around near t) d i in
          let e : Table = after_group n z (around near t) b d i in
          let g : List Group = groups_at n z (around near t) b d i in
          let r : List Group = (groups_from n least z (around near t) (range (suc i) k) e).1 in
          ap (λ (m : Scan). scan_from n least z near m (suc i) k) (one-is d nx i l h u)
          ∙ ih e (nx ++ map entry_of g) (length-after n z (around near t) b d i (length t) l) (placed-after n z (around near t) t b d i h)
          ∙ ap (λ (q : Table). record { table = (groups_from n least z (around near t) (range (suc i) k) e).0; next = q })
          (append_assoc nx (map entry_of g) (map entry_of r) ∙ ap (λ (q : Table). nx ++ q) (sym (entries-append g r)))
      go ih false u = ap (λ (m : Scan). scan_from n least z near m (suc i) k)
          (scan-seen n least z near (record { table = d; next = nx }) i (ltb-false z (entry d i).seen u)) ∙ ih d nx l h

-- what kdbush promises of the answers, in counts
pub answers : (near : Float → Float → List ℕ) (t : Table) → ((x y : Float) → Distinct (near x y))
    → ((i : ℕ) → i < length t → In i (around near t i)) → Answers (length t) (around near t)
answers near t once own =
    record {
      self = λ i h. let a = distinct-count i (around near t i) (once (entry t i).x (entry t i).y) in let b =
          in_count i (around near t i) (own i h) in omega arith;
      single = λ i k h. distinct-count k (around near t i) (once (entry t i).x (entry t i).y);
    }

-- a zoom's table and its next one are the groups' table and the groups' entries
pub cluster-groups : (n least z : ℕ) (near : Float → Float → List ℕ) (t : Table) → ((x y : Float) → Distinct (near x y))
    → ((i : ℕ) → i < length t → In i (around near t i)) →
    cluster n least z near t ≡ record { table = (groups_of n least z near t).0; next = map entry_of (groups_of n least z near t).1 }
unfolding cluster
cluster-groups n least z near t once own = from_is n least z near t (answers near t once own) (length t) 0 t [] refl (λ k. (refl, refl))
