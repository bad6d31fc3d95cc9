-- Of every such build: the lamps of a lamp are itself. Entries of any two tables with the same id have the same lamps, in the same order.
-- The lamps of a cluster are those of its members, in the order in which they are answered around its origin, in the table that its id
-- names. Assumes nothing.
use Rattle.std.specs.Prelude.{◌≡◌, refl, List, [], ◌∷◌, ℕ, suc, ◌+◌, ◌-◌, ◌≤◌, ◌<◌, eqb, length, Float}
use Rattle.std.proofs.Common.{sym, ap, ap₂, ◌∙◌, subst, inl, inr, ⊎_elim, arith}
use Rattle.kdslots.specs.Keep.{keep}
use Rattle.build_tables.specs.laws.Bounds.{options-are}
use Rattle.build_tables.specs.declared.Entry.{Entry}
use Rattle.build_tables.specs.Entries.{entry}
use Rattle.build_tables.specs.Ids.{cluster_id, origin_of, table_of}
use Rattle.build_tables.specs.laws.Ids.{id-from, id-origin}
use Rattle.build_tables.specs.Radius.{radius_at}
use Rattle.build_one_zoom.specs.Zoom.{num_of}
use Rattle.law_groups.specs.laws.Sums.{below}
use Rattle.law_groups.specs.Sums.{count}
use Rattle.law_groups.specs.Groups.{Group, copied, joined_group, entry_of}
use Rattle.law_groups.specs.laws.OneZoom.{Copied, Joined, FitsZoom}
use Rattle.build_all_zooms.specs.Zooms.{near_in}
use Rattle.law_builds.specs.Given.{Given, AcceptedBuild, points, min_z, max_z}
use Rattle.law_builds.specs.Came.{came, table_of_zoom, down}
use Rattle.law_builds.specs.GroupsOfBuild.{groups_by, near_by}
use Rattle.law_builds.specs.Identities.{Known, identities, ids-distinct, id-table-suc}
use Rattle.law_builds.specs.Places.{group_at}
use Rattle.law_builds.specs.Same.{id_of, table_same, near_same}
use Rattle.law_lamps.specs.Owner.{gather, lamps_of, answers_at, members_of}
use Rattle.law_lamps.specs.laws.Owners.{lamps-first, lamps-joined, lamps-copied, first-long, first-id, group-same, group-id}
use Rattle.law_lamps.specs.laws.Owners.{group-fits}
use Rattle.law_lamps.specs.laws.Carries.{lamps-long}

module _ (G : Given) (a : AcceptedBuild G) where
  high : max_z G ≤ 30
  high = (options-are G.options a.options).zoom-to

  -- what the zoom z makes of a group
  abbrev FitsBy : ℕ → Group → Type 0
  FitsBy z g = FitsZoom (points G) G.options.min_points z (near_by G z) (came G (suc z)) (table_of_zoom G (suc z)) g

  -- what the zoom z answered around a place of table z + 1 as it came is answered around it in the build's table
  near-build : (z : ℕ) → min_z G ≤ z → z ≤ max_z G → (i : ℕ) → i < length (came G (suc z)) → near_by G z i ≡ answers_at G (suc z) i
  near-build z h l i q =
      let T = table_of_zoom G (suc z) in
      let C = came G (suc z) in
      let e : suc z - 1 ≡ z = omega arith in
      let r = radius_at G.options.radius G.options.extent z in
      let s = (table_same G a (suc z) (omega arith) (omega arith)).each i q in
      let n = near_same G a (suc z) (omega arith) (omega arith) G.options.node_size r in
      ap₂ (λ (x y : Float). near_in G.options.node_size r C x y) (sym (ap (λ (e : Entry). e.x) s)) (sym (ap (λ (e : Entry). e.y) s))
      ∙ ap (λ (g : Float → Float → List ℕ). g (entry T i).x (entry T i).y) (sym n)
      ∙ ap (λ (v : ℕ). near_in G.options.node_size (radius_at G.options.radius G.options.extent v) T (entry T i).x
      (entry T i).y) (sym e)

  -- where the entry at j of table z is from: the copy of one of table z + 1 with the same id and lamps, or a cluster with the members'
  -- lamps, of which its origin is one, with fewer lamps
  pub data From (z j : ℕ) : Type 0 where
    again : (k : ℕ) → k < length (table_of_zoom G (suc z)) → (entry (table_of_zoom G z) j).id ≡ (entry (table_of_zoom G (suc z)) k).id →
        lamps_of G z j ≡ lamps_of G (suc z) k → From z j
    anew : (i : ℕ) (ks : List ℕ) → (entry (table_of_zoom G z) j).id ≡ cluster_id (points G) z i →
        (entry (table_of_zoom G (suc z)) i).num < (entry (table_of_zoom G z) j).num → count i ks ≡ 1 →
        ks ≡ keep (λ k. eqb (entry (table_of_zoom G (suc z)) k).parent (cluster_id (points G) z i)) (answers_at G (suc z) i) →
        lamps_of G z j ≡ gather (λ k. lamps_of G (suc z) k) ks → From z j

  pub from-by : (z : ℕ) → min_z G ≤ z → z ≤ max_z G → (j : ℕ) → j < length (table_of_zoom G z) → From z j
  from-by z h l j q = by (group_at (groups_by G z) j) refl
    where
      fit : (g : Group) → group_at (groups_by G z) j ≡ g → FitsBy z g
      fit g e = subst (λ (r : Group). FitsBy z r) e (group-fits G a z h l j q)

      by : (g : Group) → group_at (groups_by G z) j ≡ g → From z j
      by (copied k e) p =
          let w : Copied (points G) G.options.min_points z (near_by G z) (came G (suc z)) (table_of_zoom G (suc z)) k e = fit
          (copied k e) p in
          let s = table_same G a (suc z) (omega arith) (omega arith) in
          let n = s.long in
          let m = w.place in
          again k (omega arith)
          (group-id G a z h l j q ∙ ap (λ (g : Group). (entry_of g).id) p ∙ ap (λ (x : Entry). x.id) w.same ∙ sym (ap id_of (s.each k m)))
          (lamps-copied G z l j k e p)
      by (joined_group i ks e) p =
          let w : Joined (points G) G.options.min_points z (near_by G z) (came G (suc z)) (table_of_zoom G (suc z)) i ks e = fit
          (joined_group i ks e) p in
          let s = ap num_of ((table_same G a (suc z) (omega arith) (omega arith)).each i w.place) in
          let n = ap num_of (group-same G a z h l j q) ∙ ap (λ (g : Group). (entry_of g).num) p in
          let b = w.beyond in
          anew i ks (group-id G a z h l j q ∙ ap (λ (g : Group). (entry_of g).id) p ∙ w.made-id) (omega arith) w.has
          (w.kids ∙ ap (λ (r : List ℕ). keep (λ k. eqb (entry (table_of_zoom G (suc z)) k).parent (cluster_id (points G) z i)) r)
          (near-build z h l i w.place))
          (lamps-joined G z l j i ks e p)

  -- ---- a lamp

  -- the lamps of a lamp: its id alone
  abbrev Itself : ℕ → Type 0
  Itself z = (j : ℕ) → j < length (table_of_zoom G z) → (entry (table_of_zoom G z) j).id < points G
      → lamps_of G z j ≡ (entry (table_of_zoom G z) j).id ∷ []

  pub lamps-of-lamp : (z : ℕ) → min_z G ≤ z → z ≤ max_z G + 1 → Itself z
  lamps-of-lamp =
      down Itself (min_z G) (max_z G + 1) (λ j q b. lamps-first G j ∙ ap (λ (i : ℕ). i ∷ []) (sym (first-id G a j q)))
      (λ z h k ih j q b. by z j b ih (from-by z h (omega arith) j q))
    where
      by : (z j : ℕ) → (entry (table_of_zoom G z) j).id < points G → Itself (suc z) → From z j
          → lamps_of G z j ≡ (entry (table_of_zoom G z) j).id ∷ []
      by z j b ih (again k q e s) = s ∙ ih k q (omega arith) ∙ ap (λ (i : ℕ). i ∷ []) (sym e)
      by z j b ih (anew i ks e m w c s) = absurd (let w = id-from (points G) z i in omega arith)

  -- an entry that counts one is a lamp
  pub one-lamp : (z : ℕ) → min_z G ≤ z → z ≤ max_z G + 1 → (j : ℕ) → j < length (table_of_zoom G z) → (entry (table_of_zoom G z) j).num ≡ 1 →
      (entry (table_of_zoom G z) j).id < points G
  one-lamp z h k j q e = by (identities G a z h k j q)
    where
      by : Known G z (entry (table_of_zoom G z) j) → (entry (table_of_zoom G z) j).id < points G
      by (inl w) = w.below
      by (inr w) = absurd (let m = w.many in omega arith)

  pub lamps-of-one : (z : ℕ) → min_z G ≤ z → z ≤ max_z G + 1 → (j : ℕ) → j < length (table_of_zoom G z) → (entry (table_of_zoom G z) j).num ≡ 1 →
      lamps_of G z j ≡ (entry (table_of_zoom G z) j).id ∷ []
  lamps-of-one z h k j q e = lamps-of-lamp z h k j q (one-lamp z h k j q e)

  -- ---- entries with the same id

  -- no cluster that the zoom z made is in a finer table
  not_yet : (z w i k : ℕ) → z < w → min_z G ≤ w → w ≤ max_z G + 1 → k < length (table_of_zoom G w) →
      (entry (table_of_zoom G w) k).id ≡ cluster_id (points G) z i → ⊥
  not_yet z w i k h l m q e = by (identities G a w l m k q)
    where
      by : Known G w (entry (table_of_zoom G w) k) → ⊥
      by (inl u) = let b = u.below in omega arith
      by (inr u) =
          let b = u.table-from in
          let t = high in
          let s : table_of (points G) (entry (table_of_zoom G w) k).id ≡ suc z = ap (table_of (points G)) e
          ∙ id-table-suc (points G) z i (omega arith) in
          omega arith

  abbrev Like : ℕ → ℕ → ℕ → Type 0
  Like w k v = (j : ℕ) → j < length (table_of_zoom G v) → (entry (table_of_zoom G v) j).id ≡ (entry (table_of_zoom G w) k).id
      → lamps_of G v j ≡ lamps_of G w k

  same_above : (z w : ℕ) → min_z G ≤ z → z ≤ w → w ≤ max_z G + 1 → (k : ℕ) → k < length (table_of_zoom G w) → Like w k z
  same_above z w h l m k q =
      down (Like w k) (min_z G) w (λ j p e. ap (λ (i : ℕ). lamps_of G w i) (ids-distinct G a w (omega arith) m j k p q e))
      (λ v r s ih j p e. by v r s ih j e (from-by v r (omega arith) j p)) z h l
    where
      by : (v : ℕ) → min_z G ≤ v → v < w → Like w k (suc v) → (j : ℕ) → (entry (table_of_zoom G v) j).id ≡ (entry (table_of_zoom G w) k).id
          → From v j →
          lamps_of G v j ≡ lamps_of G w k
      by v r s ih j e (again i p d t) = t ∙ ih i p (sym d ∙ e)
      by v r s ih j e (anew i ks d u y c t) = absurd (not_yet v w i k s (omega arith) m q (sym e ∙ d))

  -- entries of any two tables with the same id have the same lamps
  pub lamps-same : (z w : ℕ) → min_z G ≤ z → z ≤ max_z G + 1 → min_z G ≤ w → w ≤ max_z G + 1 → (j k : ℕ) → j < length (table_of_zoom G z) →
      k < length (table_of_zoom G w) →
      (entry (table_of_zoom G z) j).id ≡ (entry (table_of_zoom G w) k).id → lamps_of G z j ≡ lamps_of G w k
  lamps-same z w h l m n j k p q e =
      ⊎_elim (λ s. same_above z w h (omega arith) n k q j p e) (λ s. sym (same_above w z m s l j p k q (sym e))) (below z w)

  -- ---- a cluster

  -- the members of a cluster that the zoom z made
  members-made : (z i : ℕ) → z ≤ 30 →
      members_of G (cluster_id (points G) z i) ≡ keep (λ k. eqb (entry (table_of_zoom G (suc z)) k).parent (cluster_id (points G) z i))
      (answers_at G (suc z) i)
  members-made z i h =
      ap₂ (λ (t v : ℕ). keep (λ k. eqb (entry (table_of_zoom G t) k).parent (cluster_id (points G) z i)) (answers_at G t v))
      (id-table-suc (points G) z i h) (id-origin (points G) z i h)

  -- the num of the origin of the cluster id
  abbrev origin_num : ℕ → ℕ
  origin_num id = (entry (table_of_zoom G (table_of (points G) id)) (origin_of (points G) id)).num

  -- the cluster id with the lamps ls: they are those of its members, its origin is one of these, and has fewer lamps
  pub record Clustered (id : ℕ) (ls : List ℕ) : Type 0 where
    pub lamps : ls ≡ gather (λ k. lamps_of G (table_of (points G) id) k) (members_of G id)
    pub has : count (origin_of (points G) id) (members_of G id) ≡ 1
    pub beyond : (entry (table_of_zoom G (table_of (points G) id)) (origin_of (points G) id)).num < length ls

  -- a cluster that the zoom z made
  clustered-made : (z i : ℕ) (ks ls : List ℕ) → z ≤ 30 → members_of G (cluster_id (points G) z i) ≡ ks → count i ks ≡ 1 →
      ls ≡ gather (λ k. lamps_of G (suc z) k) ks →
      (entry (table_of_zoom G (suc z)) i).num < length ls → Clustered (cluster_id (points G) z i) ls
  clustered-made z i ks ls t v c s m =
      let id = cluster_id (points G) z i in
      let w : table_of (points G) id ≡ suc z = id-table-suc (points G) z i t in
      let x : origin_of (points G) id ≡ i = id-origin (points G) z i t in
      let n : origin_num id ≡ (entry (table_of_zoom G (suc z)) i).num = ap₂ (λ (u y : ℕ). (entry (table_of_zoom G u) y).num) w x in
      record {
        lamps = s ∙ sym (ap₂ (λ (u : ℕ) (r : List ℕ). gather (λ k. lamps_of G u k) r) w v);
        has = ap₂ (λ (u : ℕ) (r : List ℕ). count u r) x v ∙ c;
        beyond = omega arith;
      }

  -- each cluster of each table
  abbrev AllClustered : ℕ → Type 0
  AllClustered z =
      (j : ℕ) → j < length (table_of_zoom G z) → points G ≤ (entry (table_of_zoom G z) j).id
      → Clustered (entry (table_of_zoom G z) j).id (lamps_of G z j)

  pub clustered : (z : ℕ) → min_z G ≤ z → z ≤ max_z G + 1 → AllClustered z
  clustered =
      down AllClustered (min_z G) (max_z G + 1) (λ j q b. absurd (let n = first-long G a in let e = first-id G a j q in omega arith))
      (λ z h k ih j q b. by z h (omega arith) j q b ih (from-by z h (omega arith) j q))
    where
      by : (z : ℕ) → min_z G ≤ z → z ≤ max_z G → (j : ℕ) → j < length (table_of_zoom G z) → points G ≤ (entry (table_of_zoom G z) j).id →
          AllClustered (suc z) → From z j → Clustered (entry (table_of_zoom G z) j).id (lamps_of G z j)
      by z h l j q b ih (again k p e s) =
          subst (λ (id : ℕ). Clustered id (lamps_of G z j)) (sym e)
          (subst (λ (ls : List ℕ). Clustered (entry (table_of_zoom G (suc z)) k).id ls) (sym s) (ih k p (omega arith)))
      by z h l j q b ih (anew i ks e m w c s) =
          let t = high in
          let n = lamps-long G a z h (omega arith) j q in
          subst (λ (id : ℕ). Clustered id (lamps_of G z j)) (sym e)
          (clustered-made z i ks (lamps_of G z j) (omega arith) (members-made z i (omega arith) ∙ sym c) w s (omega arith))

  -- the members of the cluster of a group are the group's, in its order
  pub members-are : (z : ℕ) → min_z G ≤ z → z ≤ max_z G → (j i : ℕ) (ks : List ℕ) (e : Entry) → j < length (table_of_zoom G z) →
      group_at (groups_by G z) j ≡ joined_group i ks e →
      members_of G e.id ≡ ks
  members-are z h l j i ks e q p =
      let t = high in
      let w : Joined (points G) G.options.min_points z (near_by G z) (came G (suc z)) (table_of_zoom G (suc z)) i ks e =
      subst (λ (g : Group). FitsBy z g) p (group-fits G a z h l j q) in
      ap (members_of G) w.made-id ∙ members-made z i (omega arith)
      ∙ sym (w.kids
      ∙ ap (λ (r : List ℕ). keep (λ k. eqb (entry (table_of_zoom G (suc z)) k).parent (cluster_id (points G) z i)) r)
      (near-build z h l i w.place))
