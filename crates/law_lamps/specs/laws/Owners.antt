-- Of every accepted build: each lamp's owner is a place of each table, and the lamp is among the lamps of this entry once, and of no other.
-- So the lamps of an entry are those that it owns, and the lamps of a table's entries are all lamps, in another order. Lamps that share an
-- owner share one in each coarser table. Assumes nothing.
use Rattle.std.specs.Prelude.{◌≡◌, eqb, length}
use Rattle.std.proofs.Common.{sym, ◌∙◌, ⊎_elim, le_refl, ne_eqb}
use Rattle.std.proofs.Math.Path.{ap}
use mathlib.Core.List.{List, [], ◌∷◌, append-nil, Permᴰ}
use Prim.Native.Nat.{ℕ, suc, ◌+◌, ◌-◌, ◌≤◌, ◌<◌}
use native.Mathlib.Omega.{arith}
use Rattle.std.proofs.lemmas.List.{length-map}
use Rattle.kdslots.specs.laws.All.{AllBelow, all_get_d}
use Rattle.kdslots.specs.laws.Members.{Distinct}
use Rattle.kdslots.specs.Keep.{keep}
use Rattle.build_tables.specs.laws.Bounds.{options-are}
use Rattle.build_tables.specs.declared.Entry.{Entry}
use Rattle.build_tables.specs.Entries.{Table, entry, none}
use Rattle.law_groups.specs.Sums.{one_if, count, range}
use Rattle.law_groups.specs.laws.Sums.{hit, below, sum-ext, range-in}
use Rattle.law_groups.specs.laws.Counts.{count-distinct, count-below, permutes}
use Rattle.law_groups.specs.Groups.{Group, copied, joined_group, entry_of, from, froms}
use Rattle.law_groups.specs.laws.Literal.{next-entry}
use Rattle.law_groups.specs.laws.OneZoom.{FitsZoom}
use Rattle.law_builds.specs.Given.{Given, AcceptedBuild, points, min_z, max_z, lamp_of, lamps_in-length, lamps_in-at}
use Rattle.law_builds.specs.Came.{came, came-first, table_of_zoom, down}
use Rattle.law_builds.specs.GroupsOfBuild.{groups_by, near_by, groups-of-build}
use Rattle.law_builds.specs.Places.{group_at}
use Rattle.law_builds.specs.Same.{plain_entry, SameBuild, id_of, table_same}
use Rattle.law_lamps.specs.Owner.{place_in, gather, owner, owner_at, lamps_of, lamps_at}
use Rattle.law_lamps.specs.laws.Gather.{sum-none, sum-gather, range-below, permutes-kept}
use Rattle.law_lamps.specs.laws.PlaceIn.{place_at, place-in, member-in}

-- ---- by table number, of any build

module _ (G : Given) where
  top-zero : max_z G + 1 - (max_z G + 1) ≡ 0
  top-zero = omega arith

  -- in the finest table a lamp is its own owner
  pub owner-first : (l : ℕ) → owner G (max_z G + 1) l ≡ l
  unfolding owner owner_at
  owner-first l = ap (λ (d : ℕ). owner_at G d l) top-zero

  -- in the next it is the place of the group that has the owner
  pub owner-next : (z : ℕ) → z ≤ max_z G → (l : ℕ) → owner G z l ≡ place_in (groups_by G z) (owner G (suc z) l)
  unfolding owner owner_at
  owner-next z h l =
      let d = max_z G + 1 - suc z in
      let e : max_z G + 1 - z ≡ suc (max_z G + 1 - suc z) = omega arith in
      let f : max_z G - (max_z G + 1 - suc z) ≡ z = omega arith in
      ap (λ (d : ℕ). owner_at G d l) e ∙ ap (λ (w : ℕ). place_in (groups_by G w) (owner_at G d l)) f

  -- the lamps of an entry of the finest table: itself
  pub lamps-first : (j : ℕ) → lamps_of G (max_z G + 1) j ≡ j ∷ []
  unfolding lamps_of lamps_at
  lamps-first j = ap (λ (d : ℕ). lamps_at G d j) top-zero

  -- in the next: those of the members, one after the other
  pub lamps-next : (z : ℕ) → z ≤ max_z G → (j : ℕ) → lamps_of G z j ≡ gather (λ k. lamps_of G (suc z) k) (from (group_at (groups_by G z) j))
  unfolding lamps_of lamps_at
  lamps-next z h j =
      let d = max_z G + 1 - suc z in
      let e : max_z G + 1 - z ≡ suc (max_z G + 1 - suc z) = omega arith in
      let f : max_z G - (max_z G + 1 - suc z) ≡ z = omega arith in
      ap (λ (d : ℕ). lamps_at G d j) e ∙ ap (λ (w : ℕ). gather (λ k. lamps_at G d k) (from (group_at (groups_by G w) j))) f

  -- the lamps of a cluster that the zoom z made of ks, and those of a copy
  pub lamps-joined : (z : ℕ) → z ≤ max_z G → (j i : ℕ) (ks : List ℕ) (e : Entry) → group_at (groups_by G z) j ≡ joined_group i ks e →
      lamps_of G z j ≡ gather (λ k. lamps_of G (suc z) k) ks
  lamps-joined z h j i ks e q = lamps-next z h j ∙ ap (λ (g : Group). gather (λ k. lamps_of G (suc z) k) (from g)) q

  pub lamps-copied : (z : ℕ) → z ≤ max_z G → (j k : ℕ) (e : Entry) → group_at (groups_by G z) j ≡ copied k e →
      lamps_of G z j ≡ lamps_of G (suc z) k
  lamps-copied z h j k e q =
      lamps-next z h j ∙ ap (λ (g : Group). gather (λ k. lamps_of G (suc z) k) (from g)) q ∙ append-nil (lamps_of G (suc z) k)

  -- lamps that share an owner share one in each coarser table
  pub owners-share : (z w : ℕ) → z ≤ max_z G + 1 → w ≤ z → (l m : ℕ) → owner G z l ≡ owner G z m → owner G w l ≡ owner G w m
  owners-share z w h k l m e =
      down (λ v. owner G v l ≡ owner G v m) 0 z e
      (λ v p q s. owner-next v (omega arith) l ∙ ap (place_in (groups_by G v)) s ∙ sym (owner-next v (omega arith) m)) w (omega arith) k

-- ---- of a build that is accepted

module _ (G : Given) (a : AcceptedBuild G) where
  low : min_z G ≤ max_z G
  low = (options-are G.options a.options).zooms

  -- the finest table has the lamps, at their places
  pub first-long : length (table_of_zoom G (max_z G + 1)) ≡ points G
  first-long =
      let w = low in
      (table_same G a (max_z G + 1) (omega arith) (le_refl (max_z G + 1))).long
      ∙ ap length (came-first G) ∙ lamps_in-length G a

  -- each with its point
  pub first-same : (j : ℕ) → j < points G →
      SameBuild (entry (table_of_zoom G (max_z G + 1)) j) (lamp_of G j)
  first-same j h =
      let w = low in
      let s = table_same G a (max_z G + 1) (omega arith) (le_refl (max_z G + 1)) in
      let t = s.long in
      let n = first-long in
      s.each j (omega arith) ∙ ap (λ (t : Table). plain_entry (entry t j)) (came-first G) ∙ ap plain_entry (lamps_in-at G a j h)

  pub first-id : (j : ℕ) → j < length (table_of_zoom G (max_z G + 1)) → (entry (table_of_zoom G (max_z G + 1)) j).id ≡ j
  first-id j h = ap id_of (first-same j (let n = first-long in omega arith))

  -- ---- the zoom z: from table z + 1 to table z

  module _ (z : ℕ) (h : min_z G ≤ z) (k : z ≤ max_z G) where
    -- a place of table z + 1 as it came
    pub place-came : (i : ℕ) → i < length (table_of_zoom G (suc z)) → i < length (came G (suc z))
    place-came i l = let w = (table_same G a (suc z) (omega arith) (omega arith)).long in omega arith

    -- table z has an entry for each group
    pub groups-long : length (table_of_zoom G z) ≡ length (groups_by G z)
    groups-long =
        let g = groups-of-build G a z h k in
        (table_same G a z h (omega arith)).long ∙ ap length g.next ∙ length-map (groups_by G z) entry_of

    -- which is the group's, but for seen and parent
    pub group-same : (j : ℕ) → j < length (table_of_zoom G z) → SameBuild (entry (table_of_zoom G z) j) (entry_of (group_at (groups_by G z) j))
    group-same j l =
        let g = groups-of-build G a z h k in
        let s = table_same G a z h (omega arith) in
        let n = s.long in
        let m = groups-long in
        s.each j (omega arith) ∙ ap (λ (t : Table). plain_entry (entry t j)) g.next
        ∙ ap plain_entry (next-entry (groups_by G z) (copied 0 none) j (omega arith))

    pub group-id : (j : ℕ) → j < length (table_of_zoom G z) → (entry (table_of_zoom G z) j).id ≡ (entry_of (group_at (groups_by G z) j)).id
    group-id j l = ap id_of (group-same j l)

    -- what the group is
    pub group-fits : (j : ℕ) → j < length (table_of_zoom G z) →
        FitsZoom (points G) G.options.min_points z (near_by G z) (came G (suc z)) (table_of_zoom G (suc z)) (group_at (groups_by G z) j)
    group-fits j l =
        let m = groups-long in
        all_get_d (FitsZoom (points G) G.options.min_points z (near_by G z) (came G (suc z)) (table_of_zoom G (suc z))) (groups_by G z) j
        (copied 0 none)
        (groups-of-build G a z h k).groups.fit (omega arith)

    -- its members are places of table z + 1
    pub group-member : (j : ℕ) → j < length (table_of_zoom G z) → (i : ℕ) → 0 < count i (from (group_at (groups_by G z) j)) →
        i < length (table_of_zoom G (suc z))
    group-member j l i c =
        let w = (table_same G a (suc z) (omega arith) (omega arith)).long in
        let m = member-in (points G) G.options.min_points z (near_by G z) (came G (suc z)) (table_of_zoom G (suc z))
        (group_at (groups_by G z) j) (group-fits j l) i c in
        omega arith

    -- a place of table z + 1 is in the groups once
    pub place-once : (i : ℕ) → i < length (table_of_zoom G (suc z)) → count i (froms (groups_by G z)) ≡ 1
    place-once i l = (groups-of-build G a z h k).groups.once i (place-came i l)

  -- ---- owners

  -- the owner is a place of its table
  pub owner-in : (z : ℕ) → min_z G ≤ z → z ≤ max_z G + 1 → (l : ℕ) → l < points G → owner G z l < length (table_of_zoom G z)
  owner-in =
      down (λ z. (l : ℕ) → l < points G → owner G z l < length (table_of_zoom G z)) (min_z G) (max_z G + 1)
      (λ l h. let e = owner-first G l in let n = first-long in omega arith)
      (λ z h k ih l w.
      let e = owner-next G z (omega arith) l in
      let n = groups-long z h (omega arith) in
      let p = place-in (owner G (suc z) l) (groups_by G z) (place-once z h (omega arith) (owner G (suc z) l) (ih l w)) in
      omega arith)

  -- a lamp is among the lamps of its owner once, and of no other entry
  abbrev Owns : ℕ → Type 0
  Owns z = (l : ℕ) → l < points G → (j : ℕ) → j < length (table_of_zoom G z) → count l (lamps_of G z j) ≡ one_if (eqb (owner G z l) j)

  pub owns : (z : ℕ) → min_z G ≤ z → z ≤ max_z G + 1 → Owns z
  owns = down Owns (min_z G) (max_z G + 1) first next
    where
      first : Owns (max_z G + 1)
      first l h j w =
          let e : one_if (eqb l j) + 0 ≡ one_if (eqb l j) = omega arith in
          ap (λ (q : List ℕ). count l q) (lamps-first G j) ∙ e ∙ ap (λ (v : ℕ). one_if (eqb v j)) (sym (owner-first G l))

      next : (z : ℕ) → min_z G ≤ z → z < max_z G + 1 → Owns (suc z) → Owns z
      next z h k ih l w j q =
          let m : z ≤ max_z G = omega arith in
          let ks : List ℕ = from (group_at (groups_by G z) j) in
          let p = owner G (suc z) l in
          let n = groups-long z h m in
          ap (λ (r : List ℕ). count l r) (lamps-next G z m j)
          ∙ sum-gather (λ x. one_if (eqb l x)) (λ i. lamps_of G (suc z) i) ks
          ∙ sum-ext (λ i. count l (lamps_of G (suc z) i)) (λ i. one_if (eqb p i)) ks (λ i c. ih l w i (group-member z h m j q i c))
          ∙ place_at p (groups_by G z) (place-once z h m p (owner-in (suc z) (omega arith) (omega arith) l w)) j (omega arith)
          ∙ ap (λ (v : ℕ). one_if (eqb v j)) (sym (owner-next G z m l))

  -- no other number is among them
  pub owns_none : (z : ℕ) → min_z G ≤ z → z ≤ max_z G + 1 → (l : ℕ) → points G ≤ l → (j : ℕ) → j < length (table_of_zoom G z) →
      count l (lamps_of G z j) ≡ 0
  owns_none =
      down (λ z. (l : ℕ) → points G ≤ l → (j : ℕ) → j < length (table_of_zoom G z) → count l (lamps_of G z j) ≡ 0) (min_z G) (max_z G + 1)
      (λ l h j w.
      let n = first-long in
      let e : one_if (eqb l j) ≡ 0 = ap one_if (ne_eqb l j (λ e. omega arith)) in
      let d : one_if (eqb l j) + 0 ≡ 0 = omega arith in
      ap (λ (q : List ℕ). count l q) (lamps-first G j) ∙ d)
      (λ z h k ih l w j q.
      let m : z ≤ max_z G = omega arith in
      let ks : List ℕ = from (group_at (groups_by G z) j) in
      ap (λ (r : List ℕ). count l r) (lamps-next G z m j)
      ∙ sum-gather (λ x. one_if (eqb l x)) (λ i. lamps_of G (suc z) i) ks
      ∙ sum-none (λ i. count l (lamps_of G (suc z) i)) ks (λ i c. ih l w i (group-member z h m j q i c)))

  -- ---- each lamp once

  -- no lamp is twice among the lamps of an entry, and each is below N
  pub lamps-distinct : (z : ℕ) → min_z G ≤ z → z ≤ max_z G + 1 → (j : ℕ) → j < length (table_of_zoom G z) → Distinct (lamps_of G z j)
  lamps-distinct z h k j q =
      count-distinct (lamps_of G z j) (λ l. ⊎_elim (inside l) (λ w. let e = owns_none z h k l w j q in omega arith) (below l (points G)))
    where
      inside : (l : ℕ) → l < points G → count l (lamps_of G z j) ≤ 1
      inside l w =
          let e = owns z h k l w j q in ⊎_elim (λ d. let t = d.1 in omega arith) (λ d. let t = d.1 in omega arith) (hit (owner G z l) j)

  pub lamps-below : (z : ℕ) → min_z G ≤ z → z ≤ max_z G + 1 → (j : ℕ) → j < length (table_of_zoom G z) → AllBelow (points G) (lamps_of G z j)
  lamps-below z h k j q = count-below (points G) (lamps_of G z j) (λ l w. owns_none z h k l w j q)

  -- they are the lamps that it owns, in another order
  pub lamps-owned : (z : ℕ) → min_z G ≤ z → z ≤ max_z G + 1 → (j : ℕ) → j < length (table_of_zoom G z) →
      Permᴰ (lamps_of G z j) (keep (λ l. eqb (owner G z l) j) (range 0 (points G)))
  lamps-owned z h k j q =
      permutes-kept (points G) (λ l. eqb (owner G z l) j) (lamps_of G z j) (λ l w. owns z h k l w j q) (λ l w. owns_none z h k l w j q)

  -- the lamps of the entries of a table, one entry after the other, are all lamps in another order
  pub lamps-permute : (z : ℕ) → min_z G ≤ z → z ≤ max_z G + 1 →
      Permᴰ (gather (λ j. lamps_of G z j) (range 0 (length (table_of_zoom G z)))) (range 0 (points G))
  lamps-permute z h k =
      permutes (points G) (gather (λ j. lamps_of G z j) (range 0 n))
      (λ l w.
      let i = owner-in z h k l w in
      sum-gather (λ x. one_if (eqb l x)) (λ j. lamps_of G z j) (range 0 n)
      ∙ sum-ext (λ j. count l (lamps_of G z j)) (λ j. one_if (eqb (owner G z l) j)) (range 0 n) (λ j c. owns z h k l w j (range-below n j c))
      ∙ range-in 0 n (owner G z l) (omega arith) (omega arith))
      (λ l w.
      sum-gather (λ x. one_if (eqb l x)) (λ j. lamps_of G z j) (range 0 n)
      ∙ sum-none (λ j. count l (lamps_of G z j)) (range 0 n) (λ j c. owns_none z h k l w j (range-below n j c)))
    where
      n : ℕ
      n = length (table_of_zoom G z)
