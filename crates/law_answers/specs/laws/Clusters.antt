-- Of a build that is accepted: the id of each of its clusters leads to its origin, where it is asked for and where a walk goes on into
-- it; it has two children or more, its members in the order of the answers; and it expands at the zoom after the one that made it.
-- Assumes nothing.
use Rattle.std.specs.Prelude.{◌≡◌, refl, Bool, false, Ok}
use Rattle.std.proofs.Math.Path.{ap}
use Rattle.std.proofs.Common.{ap₂, sym, ◌∙◌, subst, inl, inr}
use Rattle.std.proofs.Math.Bool.{true}
use mathlib.Core.List.{List, [], ◌∷◌, append-nil}
use Prim.Native.Nat.{ℕ, suc, ◌+◌, ◌-◌, ◌<◌, ◌≤◌}
use native.Mathlib.Omega.{arith}
use borrow.Author.Tests.{le-leb, lt-leb, le-ltb, ne_eqb}
use Rattle.std.proofs.Math.ListN.{length}
use Rattle.build_tables.specs.declared.Entry.{Entry}
use Rattle.build_tables.specs.declared.State.{State}
use Rattle.build_tables.specs.Entries.{entry}
use Rattle.build_tables.specs.Ids.{origin_of, table_of}
use Rattle.build_tables.specs.State.{len_of}
use Rattle.law_groups.specs.Groups.{Group, joined_group, entry_of}
use Rattle.law_groups.specs.laws.OneZoom.{Joined, FitsZoom}
use Rattle.law_groups.specs.Sums.{count}
use Rattle.law_groups.specs.laws.Sums.{Hit, hit}
use Rattle.ask_base.specs.Asked.{told}
use Rattle.build_tables.specs.Room.{Columns, room_of}
use Rattle.ask_base.specs.Columns.{table_at}
use Rattle.ask_base.specs.Ids.{target_of, onward}
use Rattle.ask_base.specs.Ids.{Target, origin}
use Rattle.ask_child_walk.specs.Kids.{kids_at, clean_at, childless}
use Rattle.ask_cluster.specs.Children.{at_target, children_at, children_of}
use Rattle.ask_cluster.specs.Expansion.{fetched, expand, zoom_at, zoom_of}
use Rattle.supercluster.specs.Build.{BuildColumns, need}
use Rattle.supercluster.specs.laws.Load.{Holds}
use Rattle.law_builds.specs.Given.{Given, AcceptedBuild, points, min_z, max_z}
use Rattle.law_builds.specs.Came.{came, table_of_zoom as built}
use Rattle.law_builds.specs.GroupsOfBuild.{groups_by, near_by}
use Rattle.law_builds.specs.Identities.{Known, Cluster, identities}
use Rattle.law_builds.specs.Places.{group_at}
use Rattle.law_lamps.specs.Owner.{gather, lamps_of, members_of}
use Rattle.law_lamps.specs.laws.Owners.{group-id, group-fits}
use Rattle.law_lamps.specs.laws.Carries.{lamps-long}
use Rattle.law_lamps.specs.laws.Copies.{Clustered, clustered, members-are}
use Rattle.law_answers.specs.laws.Stored.{state_by, columns_by, state-sound, long-is}
use Rattle.law_answers.specs.laws.Children.{clean, kids-at}

module _ (G : Given) (a : AcceptedBuild G) (l : BuildColumns) (r : Holds (need G.options (points G)) l) where
  abbrev S : State
  S = state_by G

  abbrev C : Columns
  C = columns_by G l

  -- a cluster of the build: the entry at j of table z, whose id is N or more
  module _ (z j : ℕ) (h : min_z G ≤ z) (k : z ≤ max_z G + 1) (q : j < length (built G z)) (b : points G ≤ (entry (built G z) j).id) where
    abbrev Id : ℕ
    Id = (entry (built G z) j).id

    abbrev T : ℕ
    T = table_of (points G) (entry (built G z) j).id

    abbrev I : ℕ
    I = origin_of (points G) (entry (built G z) j).id

    -- what is known of it
    known : Cluster G z (entry (built G z) j).id (entry (built G z) j).num
    known = by (identities G a z h k j q)
      where
        by : Known G z (entry (built G z) j) → Cluster G z (entry (built G z) j).id (entry (built G z) j).num
        by (inl w) = absurd (let v = w.below in omega arith)
        by (inr w) = w

    pub above : z < T
    above = known.table-from

    pub top : T ≤ max_z G + 1
    top = known.table_to

    pub inside : I < length (built G T)
    inside = known.origin

    inside-len : I < len_of S T
    inside-len = let n = long-is G a T (let w = above in omega arith) top in let i = inside in omega arith

    -- asked for, it is found at its origin
    pub target_is : target_of (state_by G) (room_of (columns_by G l)) (entry (built G z) j).id ≡ Ok (origin T I)
    unfolding target_of
    target_is =
        let w = above in
        rw (
          state-sound G a l r,
          le-ltb Id (points G) b,
          le-leb (min_z G) T (omega arith),
          le-leb T (max_z G + 1) top,
          ne_eqb T (min_z G) (λ e. omega arith),
          lt-leb (len_of S T) I inside-len,
        )

    -- and a walk in a smaller table goes on into it there
    pub onward-is : (w : ℕ) → w ≤ z → onward (state_by G) w (entry (built G z) j).id ≡ Ok (origin T I)
    unfolding onward
    onward-is w m =
        let v = above in
        rw (
          le-ltb Id (points G) b,
          lt-leb T w (omega arith),
          le-leb (min_z G) T (omega arith),
          le-leb T (max_z G + 1) top,
          lt-leb (len_of S T) I inside-len,
        )

    pub no-spoiled-slot : clean_at (state_by G) (columns_by G l) T I ≡ true
    no-spoiled-slot = clean G a l r T I (let w = above in omega arith) top

    -- its children
    pub kids-are : kids_at (state_by G) (columns_by G l) (entry (built G z) j).id T I ≡ members_of G (entry (built G z) j).id
    kids-are = kids-at G a l r T I (let w = above in omega arith) top Id

    made : Clustered G a (entry (built G z) j).id (lamps_of G z j)
    made = clustered G a z h k j q b

    -- a sole member would be the origin, with all the lamps
    not-sole : (x : ℕ) → members_of G (entry (built G z) j).id ≡ x ∷ [] → ⊥
    not-sole x e = meet (hit I x)
      where
        sole-lamps : I ≡ x → length (lamps_of G z j) ≡ (entry (built G T) I).num
        sole-lamps w =
            ap length (made.lamps ∙ ap (gather (λ y. lamps_of G T y)) e ∙ append-nil (lamps_of G T x) ∙ ap (lamps_of G T) (sym w))
            ∙ sym (lamps-long G a T (let v = above in omega arith) top I inside)

        meet : Hit I x → ⊥
        meet (inl w) = let n = sole-lamps w.0 in let m = made.beyond in omega arith
        meet (inr w) = let v = made.has in let u = ap (count I) e in let n = w.1 in omega arith

    -- two or more
    pub two-members : 2 ≤ length (members_of G (entry (built G z) j).id)
    two-members = by (members_of G Id) refl
      where
        by : (ks : List ℕ) → members_of G (entry (built G z) j).id ≡ ks → 2 ≤ length ks
        by [] e = let w = made.has in let v = ap (count I) e in absurd (omega arith)
        by (x ∷ []) e = absurd (not-sole x e)
        by (x ∷ y ∷ ks) e = omega arith

    pub not-childless : childless (state_by G) (columns_by G l) (entry (built G z) j).id T I ≡ false
    not-childless =
        let n = two-members in
        let e = ap length kids-are in
        rw (no-spoiled-slot, ne_eqb (length (kids_at S C Id T I)) 0 (λ w. omega arith))

    -- the question for children: exactly the members, in the order of the answers
    pub children-are : children_of (state_by G) (columns_by G l) (entry (built G z) j).id ≡ told true (members_of G (entry (built G z) j).id)
    unfolding children_of children_at
    children-are =
        ap (λ (t : Target). at_target t (λ u i. children_at S C Id u i)) target_is
        ∙ rw not-childless (ap₂ (λ (c : Bool) (ks : List ℕ). told c ks) no-spoiled-slot kids-are)

    -- the question for the expansion zoom: that of the table of its origin, one above the zoom that made it
    pub expansion-is : zoom_of (state_by G) (columns_by G l) (entry (built G z) j).id ≡ Ok
        (table_of (points G) (entry (built G z) j).id)
    unfolding zoom_of expand
    expansion-is =
        let w = above in
        let t = top in
        let n : max_z G + 1 - (T - 1) ≡ suc (max_z G + 1 - T) = omega arith in
        ap (λ (t : Target). zoom_at t (λ u i. expand S C (max_z G + 1 - (u - 1)) (Ok (origin u i)) Id (u - 1) true)) target_is
        ∙ ap (λ (m : ℕ). expand S C m (Ok (origin T I)) Id (T - 1) true) n
        ∙ rw no-spoiled-slot (ap (λ (ks : List ℕ). fetched (table_at S C T) ks true (T - 1)
        (λ v. expand S C (max_z G + 1 - T) (onward S T v) v (T - 1 + 1) false)) kids-are)
        ∙ by (members_of G Id) two-members
      where
        by : (ks : List ℕ) → 2 ≤ length ks
            →
            fetched (table_at S C T) ks true (T - 1)
            (λ v. expand S C (max_z G + 1 - T) (onward S T v) v (T - 1 + 1) false) ≡ Ok T
        by [] e = absurd (omega arith)
        by (x ∷ []) e = absurd (omega arith)
        by (x ∷ y ∷ ks) e = let m : T - 1 + 1 ≡ T = (let w = above in omega arith) in ap Ok m

  -- the children of a cluster that a zoom made are its group, in the order of the answers
  pub children-group : (z : ℕ) → min_z G ≤ z → z ≤ max_z G → (j i : ℕ) (ks : List ℕ) (e : Entry) → j < length (built G z) →
      group_at (groups_by G z) j ≡ joined_group i ks e
      → children_of (state_by G) (columns_by G l) e.id ≡ told true ks
  children-group z h k j i ks e q p =
      let d : (entry (built G z) j).id ≡ e.id = group-id G a z h k j q ∙ ap (λ (g : Group). (entry_of g).id) p in
      let m = made-above z h k j i ks e q p in
      subst (λ (v : ℕ). children_of S C v ≡ told true (members_of G v)) d (children-are z j h (omega arith) q (omega arith))
      ∙ ap (told true) (members-are G a z h k j i ks e q p)
    where
      made-above : (z : ℕ) → min_z G ≤ z → z ≤ max_z G → (j i : ℕ) (ks : List ℕ) (e : Entry) → j < length (built G z) →
          group_at (groups_by G z) j ≡ joined_group i ks e → points G ≤ e.id
      made-above z h k j i ks e q p =
          let w : Joined (points G) G.options.min_points z (near_by G z) (came G (suc z)) (built G (suc z)) i ks e =
          subst (λ (g : Group). FitsZoom (points G) G.options.min_points z (near_by G z) (came G (suc z)) (built G (suc z)) g) p
          (group-fits G a z h k j q) in
          let m = w.made-id in
          omega arith
