-- Of every such build: each entry of each table is a lamp, with the id, the place and the num of its point; or a cluster of two lamps or
-- more, whose id is that of a place in a finer table, an entry of the build which is under it. No two entries of a table have the same
-- id. Assumes nothing.
use Rattle.std.specs.Prelude.{◌≡◌, refl, ◌⊎◌, ℕ, suc, ◌+◌, ◌-◌, ◌≤◌, ◌<◌, length}
use Rattle.std.proofs.Common.{sym, ap, ◌∙◌, subst, inl, inr, arith}
use Rattle.build_tables.specs.laws.Bounds.{options-are}
use Rattle.build_tables.specs.declared.Entry.{Entry}
use Rattle.build_tables.specs.Entries.{Table, entry}
use Rattle.build_tables.specs.Ids.{cluster_id, origin_of, table_of}
use Rattle.build_tables.specs.laws.Ids.{id-origin, id-from}
use Rattle.build_one_zoom.specs.laws.Keeps.{all-at}
use Rattle.build_one_zoom.specs.laws.Sound.{Next}
use Rattle.build_one_zoom.specs.Zoom.{num_of}
use Rattle.law_groups.specs.Sums.{count}
use Rattle.law_groups.specs.Groups.{from}
use Rattle.law_builds.specs.Given.{Given, AcceptedBuild, points, min_z, max_z, lamps_in, lamps_in-length, lamps_in-at}
use Rattle.law_builds.specs.Came.{came, came-first, table_of_zoom, down}
use Rattle.law_builds.specs.GroupsOfBuild.{groups_by, near_by, groups-of-build, came-coming}
use Rattle.law_builds.specs.Places.{Arose, group_at, sole}
use Rattle.law_builds.specs.Same.{plain_entry, SameBuild, id_of, arose-by, table_same}

-- a lamp: its id is its point's number, and it has that point's place and num
pub record Lamp (G : Given) (e : Entry) : Type 0 where
  pub below : e.id < points G
  pub num : e.num ≡ 1
  pub same : SameBuild e (entry (lamps_in G) e.id)

-- a cluster's id and num, in table z: the id names a place of a finer table, whose entry is under the cluster
pub record Cluster (G : Given) (z id num : ℕ) : Type 0 where
  pub above : points G ≤ id
  pub many : 2 ≤ num
  pub table-from : suc z ≤ table_of (points G) id
  pub table_to : table_of (points G) id ≤ max_z G + 1
  pub origin : origin_of (points G) id < length (table_of_zoom G (table_of (points G) id))
  pub origin-parent : (entry (table_of_zoom G (table_of (points G) id)) (origin_of (points G) id)).parent ≡ id
  pub decodes : id ≡ cluster_id (points G) (table_of (points G) id - 1) (origin_of (points G) id)

-- what an entry of table z is
abbrev pub Known : Given → ℕ → Entry → Type 0
Known G z e = Lamp G e ⊎ Cluster G z e.id e.num

pub id-table-suc : (n z i : ℕ) → z ≤ 30 → table_of n (cluster_id n z i) ≡ suc z
id-table-suc n z i h = omega arith

id-whole : (n id : ℕ) → n ≤ id → 1 ≤ table_of n id → id ≡ cluster_id n (table_of n id - 1) (origin_of n id)
id-whole n id h k = omega arith

-- ---- laws over one entry

module _ (G : Given) where
  lamp-same : (a b : Entry) → SameBuild a b → Lamp G b → Lamp G a
  lamp-same a b s l =
      let i = ap id_of s in
      let w = l.below in
      record {
        below = omega arith;
        num = ap num_of s ∙ l.num;
        same = subst (λ (k : ℕ). SameBuild a (entry (lamps_in G) k)) (sym i) (s ∙ l.same);
      }

  cluster-same : (z w : ℕ) (a b : Entry) → w ≤ z → SameBuild a b → Cluster G z b.id b.num → Cluster G w a.id a.num
  cluster-same z w a b h s c =
      subst (λ (i : ℕ). Cluster G w i a.num) (sym (ap id_of s))
      (subst (λ (n : ℕ). Cluster G w b.id n) (sym (ap num_of s))
      (let t = c.table-from in
      record {
        above = c.above;
        many = c.many;
        table-from = omega arith;
        table_to = c.table_to;
        origin = c.origin;
        origin-parent =
            c.origin-parent;
        decodes = c.decodes;
      }))

  -- what an entry is, it is in each coarser table that it is copied to
  pub known_same : (z w : ℕ) (a b : Entry) → w ≤ z → SameBuild a b → Known G z b → Known G w a
  known_same z w a b h s (inl l) = inl (lamp-same a b s l)
  known_same z w a b h s (inr c) = inr (cluster-same z w a b h s c)

  -- a cluster that is made
  made-known : (z i num : ℕ) → z ≤ 30 → z ≤ max_z G → i < length (table_of_zoom G (suc z)) →
      (entry (table_of_zoom G (suc z)) i).parent ≡ cluster_id (points G) z i → 2 ≤ num →
      Cluster G z (cluster_id (points G) z i) num
  made-known z i num h k l p m =
      let n = points G in
      let et = id-table-suc n z i h in
      let eo = id-origin n z i h in
      record {
        above = id-from n z i;
        many = m;
        table-from = omega arith;
        table_to = omega arith;
        origin = subst (λ (w : ℕ). origin_of n (cluster_id n z i) < length (table_of_zoom G w)) (sym et)
            (subst (λ (v : ℕ). v < length (table_of_zoom G (suc z))) (sym eo) l);
        origin-parent =
            subst (λ (w : ℕ). (entry (table_of_zoom G w) (origin_of n (cluster_id n z i))).parent ≡ cluster_id n z i) (sym et)
            (subst (λ (v : ℕ). (entry (table_of_zoom G (suc z)) v).parent ≡ cluster_id n z i) (sym eo) p);
        decodes = id-whole n (cluster_id n z i) (id-from n z i) (omega arith);
      }

-- ---- of a build

module _ (G : Given) (a : AcceptedBuild G) where
  high : max_z G ≤ 30
  high = (options-are G.options a.options).zoom-to

  -- the finest table
  lamps-id : (i : ℕ) → i < length (lamps_in G) → (entry (lamps_in G) i).id ≡ i
  lamps-id i h = ap (λ (e : Entry). e.id) (lamps_in-at G a i (let w = lamps_in-length G a in omega arith))

  lamps-known : (i : ℕ) → i < length (lamps_in G) → Lamp G (entry (lamps_in G) i)
  lamps-known i h =
      let l = lamps_in-length G a in
      let e = lamps-id i h in
      record {
        below = omega arith;
        num = ap (λ (e : Entry). e.num) (lamps_in-at G a i (omega arith));
        same = subst (λ (k : ℕ). SameBuild (entry (lamps_in G) i) (entry (lamps_in G) k)) (sym e) refl;
      }

  -- ---- each table as it came

  known_step : (z : ℕ) → min_z G ≤ z → z < max_z G + 1 →
      ((i : ℕ) → i < length (came G (suc z)) → Known G (suc z) (entry (came G (suc z)) i)) → (j : ℕ) → j < length (came G z) →
      Known G z (entry (came G z) j)
  known_step z h l ih j k = by (arose-by G a z h (omega arith) j k)
    where
      by : Arose (points G) z (came G (suc z)) (table_of_zoom G (suc z)) (came G z) (groups_by G z) j → Known G z (entry (came G z) j)
      by (inl (i, s)) = known_same G (suc z) z _ _ (omega arith) (ap plain_entry s.copy) (ih i s.place)
      by (inr (i, s)) =
          let t = high in
          let w = (table_same G a (suc z) (omega arith) (omega arith)).long in
          let p = s.place in
          let c = (came-coming G a (suc z) (omega arith) (omega arith)).fine in
          let b = (all-at (Next (suc z)) (came G (suc z)) i c p).0.2 in
          let m = s.beyond in
          inr (subst (λ (v : ℕ). Cluster G z v (entry (came G z) j).num) (sym s.id)
          (made-known G z i (entry (came G z) j).num (omega arith) (omega arith) (omega arith)
          (ap (λ (e : Entry). e.parent) s.origin-finer) (omega arith)))

  pub came-known : (z : ℕ) → min_z G ≤ z → z ≤ max_z G + 1 → (i : ℕ) → i < length (came G z) → Known G z (entry (came G z) i)
  came-known =
      down (λ z. (i : ℕ) → i < length (came G z) → Known G z (entry (came G z) i)) (min_z G) (max_z G + 1)
      (subst (λ (t : Table). (i : ℕ) → i < length t → Known G (max_z G + 1) (entry t i)) (sym (came-first G)) (λ i h. inl (lamps-known i h)))
      known_step

  -- a copy is no cluster that its zoom made
  not_new : (z i k : ℕ) → min_z G ≤ z → z ≤ max_z G → k < length (came G (suc z)) → (entry (came G (suc z)) k).id ≡ cluster_id (points G) z i →
      ⊥
  not_new z i k h l q e = by (came-known (suc z) (omega arith) (omega arith) k q)
    where
      by : Known G (suc z) (entry (came G (suc z)) k) → ⊥
      by (inl w) = let b = w.below in omega arith
      by (inr c) =
          let t = c.table-from in
          let m = high in
          let s : table_of (points G) (entry (came G (suc z)) k).id ≡ suc z = ap (table_of (points G)) e
          ∙ id-table-suc (points G) z i (omega arith) in
          omega arith

  -- a place is in no two groups
  alone : (z : ℕ) → min_z G ≤ z → z ≤ max_z G → (i j : ℕ) → i < length (came G z) → j < length (came G z) → (k m : ℕ) → k ≡ m →
      0 < count k (from (group_at (groups_by G z) i)) → 0 < count m (from (group_at (groups_by G z) j)) → i ≡ j
  alone z h l i j p q k m e u v =
      let g = groups-of-build G a z h l in
      sole (points G) G.options.min_points z (near_by G z) (came G (suc z)) (table_of_zoom G (suc z)) (came G z) (groups_by G z)
      g.groups
      g.next k i j p q
      u (subst (λ (w : ℕ). 0 < count w (from (group_at (groups_by G z) j))) (sym e) v)

  -- the entries of a table have different ids
  abbrev Apart : Table → Type 0
  Apart t = (i j : ℕ) → i < length t → j < length t → (entry t i).id ≡ (entry t j).id → i ≡ j

  came-distinct : (z : ℕ) → min_z G ≤ z → z ≤ max_z G + 1 → Apart (came G z)
  came-distinct =
      down (λ z. Apart (came G z)) (min_z G) (max_z G + 1)
      (subst Apart (sym (came-first G)) (λ i j h k e. sym (lamps-id i h) ∙ e ∙ lamps-id j k))
      (λ z h l ih i j p q e. step z h (omega arith) ih i j p q e (arose-by G a z h (omega arith) i p) (arose-by G a z h (omega arith) j q))
    where
      step : (z : ℕ) → min_z G ≤ z → z ≤ max_z G → Apart (came G (suc z)) →
          (i j : ℕ) → i < length (came G z) → j < length (came G z) → (entry (came G z) i).id ≡ (entry (came G z) j).id →
          Arose (points G) z (came G (suc z)) (table_of_zoom G (suc z)) (came G z) (groups_by G z) i →
          Arose (points G) z (came G (suc z)) (table_of_zoom G (suc z)) (came G z) (groups_by G z) j → i ≡ j
      step z h l ih i j p q e (inl (k, s)) (inl (m, t)) =
          alone z h l i j p q k m (ih k m s.place t.place (ap (λ (v : Entry). v.id) (sym s.copy) ∙ e
          ∙ ap (λ (v : Entry). v.id) t.copy)) s.has t.has
      step z h l ih i j p q e (inl (k, s)) (inr (m, t)) =
          absurd (not_new z m k h l s.place (ap (λ (v : Entry). v.id) (sym s.copy) ∙ e ∙ t.id))
      step z h l ih i j p q e (inr (k, s)) (inl (m, t)) =
          absurd (not_new z k m h l t.place (ap (λ (v : Entry). v.id) (sym t.copy) ∙ sym e ∙ s.id))
      step z h l ih i j p q e (inr (k, s)) (inr (m, t)) = alone z h l i j p q k m (let w = s.id in let v = t.id in omega arith) s.has
          t.has

  -- ---- each table of the build

  -- each entry is a lamp or a cluster
  pub identities : (z : ℕ) → min_z G ≤ z → z ≤ max_z G + 1 → (i : ℕ) → i < length (table_of_zoom G z) → Known G z (entry (table_of_zoom G z) i)
  identities z h l i k =
      let s = table_same G a z h l in
      let w = s.long in
      let q : i < length (came G z) = omega arith in
      known_same G z z _ _ (omega arith) (s.each i q) (came-known z h l i q)

  -- entries at two places have different ids
  pub ids-distinct : (z : ℕ) → min_z G ≤ z → z ≤ max_z G + 1 → Apart (table_of_zoom G z)
  ids-distinct z h l i j p q e =
      let s = table_same G a z h l in
      let w = s.long in
      let u : i < length (came G z) = omega arith in
      let v : j < length (came G z) = omega arith in
      came-distinct z h l i j u v (sym (ap id_of (s.each i u)) ∙ e ∙ ap id_of (s.each j v))
