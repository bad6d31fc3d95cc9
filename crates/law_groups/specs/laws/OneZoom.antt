-- What one zoom is, read off its groups: each place is in one group, once; a group is a copy of one entry, or the cluster of its members
-- by SCOPE. And of any such zoom: the places of the groups are those of the table in another order, and the clusters it made have different
-- ids. Assumes nothing.
use Rattle.std.specs.Prelude.{◌≡◌, ℕ, zero, suc, ◌+◌, ◌≤◌, ◌<◌, eqb, length, get_or}
use Rattle.std.proofs.Common.{sym, ◌∙◌, subst, ⊎_elim}
use Rattle.std.proofs.Math.Path.{ap}
use mathlib.Core.List.{List, [], ◌∷◌, Permᴰ}
use native.Mathlib.Omega.{arith}
use Rattle.kdslots.specs.laws.All.{All, AllBelow, all_get_d}
use Rattle.kdslots.specs.laws.Members.{NotIn, Distinct}
use Rattle.kdslots.specs.Keep.{keep}
use Rattle.build_tables.specs.declared.Entry.{Entry}
use Rattle.build_tables.specs.Entries.{Table, entry, never, unset, marked}
use Rattle.build_tables.specs.Ids.{cluster_id}
use Rattle.build_one_zoom.specs.laws.Lamps.{Carried}
use Rattle.law_groups.specs.Sums.{one_if, sum, count, range}
use Rattle.law_groups.specs.laws.Sums.{below, sum-append}
use Rattle.law_groups.specs.laws.Counts.{count-distinct, count-below, permutes}
use Rattle.law_groups.specs.Groups.{Group, copied, joined_group, entry_of, from, froms, took, without, mean_of}

-- ---- what the groups are. n is the number of points, least is min_points, z the zoom, `near i` the places answered around i, T the table,
-- T' the table afterwards

module _ (n least z : ℕ) (near : ℕ → List ℕ) (T : Table) where
  -- e is the copy of the entry at k, marked; the entry itself is marked too
  pub record Copied (T' : Table) (k : ℕ) (e : Entry) : Type 0 where
    pub place : k < length T
    pub same : e ≡ marked z (entry T k)
    pub finer : entry T' k ≡ marked z (entry T k)

  -- e is the cluster of the entries at ks, made at i
  pub record Joined (T' : Table) (i : ℕ) (ks : List ℕ) (e : Entry) : Type 0 where
    pub place : i < length T
    -- i is a member, and each member is in the table
    pub has : count i ks ≡ 1
    pub member : (k : ℕ) → 0 < count k ks → k < length T
    -- the fields of the entry
    pub made-id : e.id ≡ cluster_id n z i
    -- what entries carry is added up over the members, so its num is the sum of theirs
    pub carries : (f : Entry → ℕ) → Carried f → f e ≡ sum (λ k. f (entry T k)) ks
    pub made-x : e.x ≡ mean_of (λ e. e.x) T i (without i ks) e.num
    pub made-y : e.y ≡ mean_of (λ e. e.y) T i (without i ks) e.num
    pub made-seen : e.seen ≡ never
    pub made-parent : e.parent ≡ unset
    -- more than the origin's own num, and at least min_points
    pub beyond : (entry T i).num < e.num
    pub plenty : least ≤ e.num
    -- each member is marked, and under the cluster
    pub finer : (k : ℕ) → 0 < count k ks → entry T' k ≡ took z (cluster_id n z i) (entry T k)
    -- the members are the answers around the origin whose parent it is
    pub kids : ks ≡ keep (λ k. eqb (entry T' k).parent (cluster_id n z i)) (near i)

  -- what a group is
  abbrev pub FitsZoom : Table → Group → Type 0
  FitsZoom T' (copied k e) = Copied T' k e
  FitsZoom T' (joined_group i ks e) = Joined T' i ks e

  -- one zoom, whole
  pub record OneZoom (T' : Table) (gs : List Group) : Type 0 where
    pub long : length T' ≡ length T
    pub once : (k : ℕ) → k < length T → count k (froms gs) ≡ 1
    pub none : (k : ℕ) → length T ≤ k → count k (froms gs) ≡ 0
    pub fit : All (FitsZoom T') gs

-- what the entry of a group carries is the sum of what the places that it stands for do
pub fits-carry : (n least z : ℕ) (near : ℕ → List ℕ) (T T' : Table) (f : Entry → ℕ) → Carried f → (g : Group)
    → FitsZoom n least z near T T' g
    → f (entry_of g) ≡ sum (λ k. f (entry T k)) (from g)
fits-carry n least z near T T' f C (copied k e) w = let a = ap f w.same in let b = C.marks (entry T k) z in omega arith
fits-carry n least z near T T' f C (joined_group i ks e) w = w.carries f C

-- the ids of the clusters that were made
abbrev pub made_ids : List Group → List ℕ
made_ids [] = []
made_ids (copied k e ∷ gs) = made_ids gs
made_ids (joined_group i ks e ∷ gs) = e.id ∷ made_ids gs

-- a place that is in two of the groups is in them twice
from-count : (k : ℕ) (g : Group) (gs : List Group) (a : ℕ) → a < length gs → count k (from (get_or gs a g)) ≤ count k (froms gs)
from-count k g [] a h = absurd (omega arith)
from-count k g (r ∷ gs) zero h = let a = sum-append (λ x. one_if (eqb k x)) (from r) (froms gs) in omega arith
from-count k g (r ∷ gs) (suc a) h = let b = sum-append (λ x. one_if (eqb k x)) (from r) (froms gs) in let c =
    from-count k g gs a (omega arith) in omega arith

pair-count : (k : ℕ) (g : Group) (gs : List Group) (a b : ℕ) → a < b → b < length gs
    → count k (from (get_or gs a g)) + count k (from (get_or gs b g)) ≤ count k (froms gs)
pair-count k g [] a b h l = absurd (omega arith)
pair-count k g (r ∷ gs) a zero h l = absurd (omega arith)
pair-count k g (r ∷ gs) zero (suc b) h l = let a = sum-append (λ x. one_if (eqb k x)) (from r) (froms gs) in let c =
    from-count k g gs b (omega arith) in omega arith
pair-count k g (r ∷ gs) (suc a) (suc b) h l =
    let c = sum-append (λ x. one_if (eqb k x)) (from r) (froms gs) in let d = pair-count k g gs a b (omega arith) (omega arith) in
    omega arith

-- clusters of different origins have different ids
origin-of : (n z i j : ℕ) → cluster_id n z i ≡ cluster_id n z j → i ≡ j
origin-of n z i j h = omega arith

module _ (n least z : ℕ) (near : ℕ → List ℕ) (T T' : Table) where
  -- an id of a cluster whose origin is in none of the groups is not theirs
  id-new : (i : ℕ) (gs : List Group) → count i (froms gs) ≡ 0 → All (FitsZoom n least z near T T') gs → NotIn (cluster_id n z i) (made_ids gs)
  unfolding All
  id-new i [] c w = tt
  id-new i (copied k e ∷ gs) c w = id-new i gs (omega arith) w.1
  id-new i (joined_group j ks e ∷ gs) c w =
      let a = sum-append (λ x. one_if (eqb i x)) ks (froms gs) in
      (other, id-new i gs (omega arith) w.1)
    where
      other : cluster_id n z i ≡ e.id → ⊥
      other h =
          let a = sum-append (λ x. one_if (eqb i x)) ks (froms gs) in
          let b : count i ks ≡ count j ks = ap (λ (k : ℕ). count k ks) (origin-of n z i j (h ∙ w.0.made-id)) in
          let d = w.0.has in
          omega arith

  ids-apart : (gs : List Group) → ((k : ℕ) → count k (froms gs) ≤ 1) → All (FitsZoom n least z near T T') gs → Distinct (made_ids gs)
  unfolding All
  ids-apart [] c w = tt
  ids-apart (copied k e ∷ gs) c w = ids-apart gs (λ j. let a = c j in omega arith) w.1
  ids-apart (joined_group i ks e ∷ gs) c w =
      let a = sum-append (λ x. one_if (eqb i x)) ks (froms gs) in
      let b = c i in
      let d = w.0.has in (
        rw w.0.made-id (id-new i gs (omega arith) w.1),
        ids-apart gs (λ j. let a = c j in let b = sum-append (λ x. one_if (eqb j x)) ks (froms gs) in omega arith) w.1,
      )

  module _ (gs : List Group) (Z : OneZoom n least z near T T' gs) where
    at-most-once : (k : ℕ) → count k (froms gs) ≤ 1
    at-most-once k = ⊎_elim (λ h. let a = Z.once k h in omega arith) (λ h. let a = Z.none k h in omega arith) (below k (length T))

    -- no place is in two groups, or in one twice, and each is below the table's length
    pub places-distinct : Distinct (froms gs)
    places-distinct = count-distinct (froms gs) at-most-once

    pub places-below : AllBelow (length T) (froms gs)
    places-below = count-below (length T) (froms gs) Z.none

    -- the places of the groups are those of the table, in another order
    pub places-permute : Permᴰ (froms gs) (range 0 (length T))
    places-permute = permutes (length T) (froms gs) Z.once Z.none

    -- no two clusters that were made have the same id
    pub made-distinct : Distinct (made_ids gs)
    made-distinct = ids-apart gs at-most-once Z.fit

    -- the same by place: clusters at two places of the next table have different ids. g is what get_or answers past the end
    pub made-apart : (g : Group) (a b i j : ℕ) (ks ls : List ℕ) (e f : Entry) → a < b → b < length gs → get_or gs a g ≡ joined_group i ks e
        → get_or gs b g ≡ joined_group j ls f → e.id ≡ f.id → ⊥
    made-apart g a b i j ks ls e f h k p q s =
        let u : Joined n least z near T T' i ks e =
        subst (λ (r : Group). FitsZoom n least z near T T' r) p
        (all_get_d (FitsZoom n least z near T T') gs a g Z.fit (omega arith)) in
        let v : Joined n least z near T T' j ls f =
        subst (λ (r : Group). FitsZoom n least z near T T' r) q (all_get_d (FitsZoom n least z near T T') gs b g Z.fit k) in
        let o : j ≡ i = origin-of n z j i (sym v.made-id ∙ sym s ∙ u.made-id) in
        let c = pair-count i g gs a b h k in
        let d : count i (from (get_or gs a g)) ≡ count i ks = ap (λ (r : Group). count i (from r)) p in
        let w : count i (from (get_or gs b g)) ≡ count j ls = ap (λ (r : Group). count i (from r)) q ∙ ap (λ (m : ℕ). count m ls) (sym o) in
        let x = u.has in
        let y = v.has in
        let m = at-most-once i in
        omega arith
