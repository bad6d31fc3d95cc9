-- Of a table whose entries are all unseen by the zoom and whose parents are all unset, a zoom is one zoom: each place is in one group,
-- once; each group is a copy of one entry, or the cluster of its members by SCOPE. Assumes nothing.
use Rattle.std.specs.Prelude.{◌≡◌, refl, List, ◌∷◌, Bool, not, ℕ, ◌≤◌, ◌<◌, ltb, leb, eqb, length, Float}
use Rattle.std.proofs.Common.{sym, ◌∙◌, subst, inr, ⊎_elim, ltb-true, leb-true, ne_eqb}
use Rattle.std.proofs.Math.Path.{ap}
use Rattle.std.proofs.Math.Bool.{true, false}
use native.Mathlib.Omega.{arith}
use Rattle.std.proofs.Math.ListN.{get_or-eq_default}
use Rattle.std.specs.Float.{binary64}
use Rattle.std.specs.Float.Ieee.{mul, div}
use Rattle.floats.specs.Numbers.{float}
use Rattle.kdslots.specs.laws.All.{All, all_append}
use Rattle.kdslots.specs.laws.Bounds.{and_both}
use Rattle.kdslots.specs.laws.Members.{In, Distinct}
use Rattle.kdslots.specs.Keep.{keep}
use Rattle.build_tables.specs.declared.Entry.{Entry}
use Rattle.build_tables.specs.Entries.{Table, entry, none, unset, unseen, marked}
use Rattle.build_tables.specs.Ids.{cluster_id}
use Rattle.build_tables.specs.laws.Ids.{id-small}
use Rattle.build_one_zoom.specs.laws.Lamps.{Carried}
use Rattle.build_one_zoom.specs.Zoom.{Scan, cluster}
use Rattle.law_groups.specs.laws.Sums.{pick, not-both, eqb_same, below, count_head, sum-ext, keep-ext, keep-in}
use Rattle.law_groups.specs.Sums.{one_if, sum, count, range}
use Rattle.law_groups.specs.laws.Sums.{range-in, range-out}
use Rattle.law_groups.specs.Groups.{Group, copied, unseen_at, turn, weighed_sum, without, mean_of, others, members, group_total, joins}
use Rattle.law_groups.specs.Groups.{centre_at}
use Rattle.law_groups.specs.Groups.{groups_at, after_group, around, groups_of}
use Rattle.law_groups.specs.laws.Counts.{all-counted}
use Rattle.law_groups.specs.laws.Sweeps.{inside, seen_alike}
use Rattle.law_groups.specs.laws.Run.{Run, stop, pass, acts, run, Answers, members-here, members-unseen, others-are, after-in}
use Rattle.law_groups.specs.laws.Run.{after-out}
use Rattle.law_groups.specs.laws.Run.{after-done, after-seen, members-split, length-after, run_length, frame}
use Rattle.law_groups.specs.laws.Walks.{weighed-ext}
use Rattle.law_groups.specs.laws.Literal.{answers, centre-carries, cluster-groups}
use Rattle.law_groups.specs.laws.Once.{groups-once, groups_none}
use Rattle.law_groups.specs.laws.OneZoom.{Copied, FitsZoom, OneZoom}

-- a member's parent is no other cluster's
turn-parent : (n z : ℕ) (b : Bool) (i j : ℕ) (e : Entry) → (i ≡ j → ⊥) → (e.parent ≡ cluster_id n z j → ⊥)
    → (turn b z (cluster_id n z i) e).parent ≡ cluster_id n z j → ⊥
turn-parent n z true i j e h k p = h (omega arith)
turn-parent n z false i j e h k p = k p

module _ (n least z : ℕ) (near : ℕ → List ℕ) (T : Table) (A : Answers (length T) near) where
  -- what holds before the places `is` are scanned: what is unseen is as in T, no parent is one of the ids to come, and no place comes twice
  record Before (is : List ℕ) (d : Table) : Type 0 where
    long : length d ≡ length T
    as_t : (k : ℕ) → unseen_at z d k ≡ true → entry d k ≡ entry T k
    clear : (k i : ℕ) → 0 < count i is → (entry d k).parent ≡ cluster_id n z i → ⊥
    apart : (k : ℕ) → count k is ≤ 1

  before-pass : {i : ℕ} {is : List ℕ} {d : Table} → Before (i ∷ is) d → Before is d
  before-pass h = record {
    long = h.long;
    as_t = h.as_t;
    clear = λ k j c. h.clear k j (omega arith);
    apart = λ k. let a = h.apart k in
        omega arith;
  }

  before-acts : {i : ℕ} {is : List ℕ} {d : Table} (b : Bool) → unseen_at z d i ≡ true → Before (i ∷ is) d
      → Before is (after_group n z near b d i)
  before-acts {i} {is} {d} b u h =
      record {
        long = length-after n z near b d i (length T) h.long;
        as_t = λ k e. ⊎_elim (fresh k e) (stale k e) (below 0 (count k (members z near d i)));
        clear = λ k j c p. ⊎_elim (λ w. taken k j c w p) (λ w. left k j c w p) (below 0 (count k (members z near d i)));
        apart = λ k. let a = h.apart k in omega arith;
      }
    where
      i<len : i < length T
      i<len = let a = inside z d i u in let b = h.long in omega arith

      fresh : (k : ℕ) → unseen_at z (after_group n z near b d i) k ≡ true → 0 < count k (members z near d i)
          → entry (after_group n z near b d i) k ≡ entry T k
      fresh k e c = absurd (not-both (unseen_at z (after_group n z near b d i) k) e (after-done n z near b d i k c))

      stale : (k : ℕ) → unseen_at z (after_group n z near b d i) k ≡ true → count k (members z near d i) ≤ 0
          → entry (after_group n z near b d i) k ≡ entry T k
      stale k e c =
          let a = after-out n least z (length T) near A b d i k i<len (omega arith) in
          a ∙ h.as_t k (seen_alike z _ _ true (sym a) e)

      taken : (k j : ℕ) → 0 < count j is → 0 < count k (members z near d i) → (entry (after_group n z near b d i) k).parent ≡ cluster_id n z j
          → ⊥
      taken k j c w p =
          turn-parent n z b i j (entry d k)
          (λ e. let a = h.apart j in let q : one_if (eqb j i) ≡ 1 = ap (λ (y : ℕ). one_if (eqb j y)) e ∙ ap one_if (eqb_same j) in
          omega arith)
          (h.clear k j (omega arith))
          (ap (λ (x : Entry). x.parent) (sym (after-in n z near b d i k w)) ∙ p)

      left : (k j : ℕ) → 0 < count j is → count k (members z near d i) ≤ 0 → (entry (after_group n z near b d i) k).parent ≡ cluster_id n z j
          → ⊥
      left k j c w p = h.clear k j (omega arith)
          (ap (λ (x : Entry). x.parent) (sym (after-out n least z (length T) near A b d i k i<len (omega arith))) ∙ p)

  -- the groups of a place that acts; d' is the table at the end of the scan
  module _ (i : ℕ) (is : List ℕ) (d d' : Table) (u : unseen_at z d i ≡ true) (h : Before (i ∷ is) d) where
    at-T : i < length T
    at-T = let a = inside z d i u in let b = h.long in omega arith

    member-in : (k : ℕ) → 0 < count k (members z near d i) → k < length T
    member-in k c = let a = inside z d k (members-unseen z near d i k c) in let b = h.long in omega arith

    member-as : (k : ℕ) → 0 < count k (members z near d i) → entry d k ≡ entry T k
    member-as k c = h.as_t k (members-unseen z near d i k c)

    carried : (f : Entry → ℕ) → Carried f → f (centre_at n z near d i) ≡ sum (λ k. f (entry T k)) (members z near d i)
    carried f C =
        centre-carries n least z (length T) near A d i h.long u f C
        ∙ sym (members-split n least z (length T) near A (λ k. f (entry d k)) d i h.long u)
        ∙ sum-ext (λ k. f (entry d k)) (λ k. f (entry T k)) (members z near d i) (λ k c. ap f (member-as k c))

    lots : joins least z near d i ≡ true → ((entry T i).num < group_total z near d i) × (least ≤ group_total z near d i)
    lots m =
        let w = and_both (ltb (entry d i).num (group_total z near d i)) (leb least (group_total z near d i)) m in
        let a : (entry d i).num < group_total z near d i = ltb-true (entry d i).num (group_total z near d i) w.0 in
        (subst (λ (e : Entry). e.num < group_total z near d i) (h.as_t i u) a, leb-true least (group_total z near d i) w.1)

    mean : (c : Entry → Float) → mean_of c d i (others z near d i) (group_total z near d i) ≡ mean_of c T i (without i (members z near d i))
        (group_total z near d i)
    mean c =
        let ks = without i (members z near d i) in
        let w : Float = mul binary64 (c (entry T i)) (float (entry T i).num) in
        ap (λ (l : List ℕ). mean_of c d i l (group_total z near d i)) (others-are z near d i u)
        ∙ ap (λ (e : Entry). div binary64 (weighed_sum c d (mul binary64 (c e) (float e.num)) ks) (float (group_total z near d i)))
        (h.as_t i u)
        ∙ ap (λ (v : Float). div binary64 v (float (group_total z near d i)))
        (weighed-ext c d T ks w (λ k l. let a = member-as k (keep-in (λ j. not (eqb j i)) (members z near d i) k l) in
        (ap c a, ap (λ (e : Entry). e.num) a)))

    -- a member at the end of the scan
    member-end : (b : Bool) → ((k : ℕ) → unseen_at z (after_group n z near b d i) k ≡ false
        → entry d' k ≡ entry (after_group n z near b d i) k) →
        (k : ℕ) → 0 < count k (members z near d i) → entry d' k ≡ turn b z (cluster_id n z i) (entry T k)
    member-end b fr k c = fr k (after-done n z near b d i k c) ∙ after-in n z near b d i k c
        ∙ ap (λ (x : Entry). turn b z (cluster_id n z i) x) (member-as k c)

    kids-are : ((k : ℕ) → unseen_at z (after_group n z near true d i) k ≡ false → entry d' k ≡ entry (after_group n z near true d i) k) →
        members z near d i ≡ keep (λ k. eqb (entry d' k).parent (cluster_id n z i)) (near i)
    kids-are fr = keep-ext (unseen_at z d) (λ k. eqb (entry d' k).parent (cluster_id n z i)) (near i)
        (λ k c. ⊎_elim (taken k c) (left k) (pick (unseen_at z d k)))
      where
        taken : (k : ℕ) → 0 < count k (near i) → unseen_at z d k ≡ true → unseen_at z d k ≡ eqb (entry d' k).parent (cluster_id n z i)
        taken k c e =
            let w = members-here z near d i k e in
            e ∙ sym (ap (λ (x : Entry). eqb x.parent (cluster_id n z i)) (member-end true fr k (omega arith))
            ∙ eqb_same (cluster_id n z i))

        left : (k : ℕ) → unseen_at z d k ≡ false → unseen_at z d k ≡ eqb (entry d' k).parent (cluster_id n z i)
        left k e =
            let a = after-seen n z near true d i k e in
            let f : entry d' k ≡ entry d k = fr k (seen_alike z _ _ false a e) ∙ a in
            e ∙ sym (ne_eqb (entry d' k).parent (cluster_id n z i)
            (λ p. h.clear k i (count_head i is) (ap (λ (x : Entry). x.parent) (sym f) ∙ p)))

    groups-fit : (b : Bool) → joins least z near d i ≡ b
        → ((k : ℕ) → unseen_at z (after_group n z near b d i) k ≡ false → entry d' k ≡ entry (after_group n z near b d i) k) →
        All (FitsZoom n least z near T d') (groups_at n z near b d i)
    unfolding All
    groups-fit true m fr = (
      record {
        place = at-T;
        has = members-here z near d i i u ∙ A.self i at-T;
        member = member-in;
        made-id = refl;
        carries = carried;
        made-x = mean (λ e. e.x);
        made-y = mean (λ e. e.y);
        made-seen = refl;
        made-parent = refl;
        beyond = (lots m).0;
        plenty = (lots m).1;
        finer = member-end true fr;
        kids = kids-are fr;
      },
      tt,
    )
    groups-fit false m fr = all-counted (FitsZoom n least z near T d') (λ k. copied k (marked z (entry d k))) (i ∷ others z near d i) each
      where
        each : (k : ℕ) → 0 < count k (i ∷ others z near d i) → Copied n least z near T d' k (marked z (entry d k))
        each k c =
            let s = members-split n least z (length T) near A (λ x. one_if (eqb k x)) d i h.long u in
            let w : 0 < count k (members z near d i) = omega arith in
            record { place = member-in k w; same = ap (λ (x : Entry). marked z x) (member-as k w); finer = member-end false fr k w }

  fits : {is : List ℕ} {d d' : Table} {gs : List Group} → Run n least z near is d d' gs → Before is d
      → All (FitsZoom n least z near T d') gs
  unfolding All
  fits stop h = tt
  fits (pass e r) h = fits r (before-pass h)
  fits (acts {i = i} {is = is} {d = d} {d' = d'} {rs = rs} b m u r) h =
      all_append (FitsZoom n least z near T d') (groups_at n z near b d i) rs
      (groups-fit i is d d' u h b m (frame n least z (length T) near A r)) (fits r (before-acts b u h))

-- ---- one zoom of a table of which nothing is seen and nothing has a parent

module _ (n least z : ℕ) (near : Float → Float → List ℕ) (t : Table) (once : (x y : Float) → Distinct (near x y))
    (own : (i : ℕ) → i < length t → In i (around near t i))
    (hz : z ≤ 30) (hn : n ≤ 1048576) (few : length t ≤ n) (ready : (k : ℕ) → k < length t → unseen z (entry t k) ≡ true)
    (lone : (k : ℕ) → k < length t → (entry t k).parent ≡ unset) where
  A : Answers (length t) (around near t)
  A = answers near t once own

  no-parent : (k : ℕ) → (entry t k).parent ≡ unset
  no-parent k = ⊎_elim (lone k) (λ h. ap (λ (e : Entry). e.parent) (get_or-eq_default t none h)) (below k (length t))

  start : Before n least z (around near t) t A (range 0 (length t)) t
  start =
      record {
        long = refl;
        as_t = λ k e. refl;
        clear = λ k i c p. ⊎_elim (λ l. let a = id-small n z i hz hn (omega arith) in let b = no-parent k in omega arith)
            (λ l. let w = range-out 0 (length t) i (inr (omega arith)) in omega arith) (below i (length t));
        apart = λ k. ⊎_elim (λ l. let w = range-in 0 (length t) k (omega arith) (omega arith) in omega arith)
            (λ l. let w = range-out 0 (length t) k (inr (omega arith)) in omega arith) (below k (length t));
      }

  r : Run n least z (around near t) (range 0 (length t)) t (groups_of n least z near t).0 (groups_of n least z near t).1
  r = run n least z (around near t) (range 0 (length t)) t

  pub groups-one-zoom : OneZoom n least z (around near t) t (groups_of n least z near t).0 (groups_of n least z near t).1
  groups-one-zoom =
      record {
        long = run_length n least z (length t) (around near t) A r refl;
        once = groups-once n least z near t once own ready;
        none = groups_none n least z near t once own;
        fit = fits n least z (around near t) t A r start;
      }

  -- the same of the table that `cluster` leaves
  pub one-zoom : OneZoom n least z (around near t) t (cluster n least z near t).table (groups_of n least z near t).1
  one-zoom =
      subst (λ (d : Table). OneZoom n least z (around near t) t d (groups_of n least z near t).1)
      (sym (ap (λ (s : Scan). s.table) (cluster-groups n least z near t once own))) groups-one-zoom
