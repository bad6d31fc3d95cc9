-- Of every accepted build, in rows where its tables stand: from each entry's id the lamp that the entry began with is come to, from origin
-- to origin, in at most as many steps as there are finer tables. It is one of the entry's lamps, so the entry owns it. Assumes nothing.
use Rattle.std.specs.Prelude.{◌≡◌, Bool, List, [], ◌∷◌, eqb, length, get_or}
use Rattle.std.proofs.Math.Path.{refl, ap}
use Rattle.std.proofs.Common.{sym, ◌∙◌, subst, ⊎_elim, arith, lt-ltb, le-ltb}
use Rattle.std.proofs.Math.Logic.{inl, inr}
use Rattle.std.proofs.Math.Bool.{true, false}
use Prim.Native.Nat.{ℕ, zero, suc, ◌+◌, ◌-◌, ◌≤◌, ◌<◌}
use Rattle.build_tables.specs.declared.Entry.{Entry}
use Rattle.build_tables.specs.Entries.{Table, entry}
use Rattle.build_tables.specs.Ids.{origin_of, table_of}
use Rattle.law_groups.specs.Sums.{one_if, sum, count}
use Rattle.law_groups.specs.laws.Sums.{hit, below, count_head}
use Rattle.law_builds.specs.Given.{Given, AcceptedBuild, points, min_z, max_z}
use Rattle.law_builds.specs.Came.{table_of_zoom}
use Rattle.law_builds.specs.Identities.{Known, Cluster, identities}
use Rattle.law_lamps.specs.Owner.{owner, lamps_of, members_of}
use Rattle.law_lamps.specs.laws.Owners.{owns, owns_none}
use Rattle.law_lamps.specs.laws.Gather.{sum-gather}
use Rattle.law_lamps.specs.laws.Copies.{lamps-of-lamp, clustered}
use Rattle.build_owners.specs.laws.Climbs.{origin_id, lead_of, Chain}

-- ---- one step

module _ (n : ℕ) (ss : List ℕ) (R : Table) (f c : ℕ) where
  -- a lamp began with itself
  pub lead-lamp : c < n → lead_of n ss R f c ≡ c
  unfolding lead_of
  lead-lamp h = by f
    where
      by : (f : ℕ) → lead_of n ss R f c ≡ c
      by zero = refl
      by (suc f) = ap (λ (b : Bool). elim b as (λ v. ℕ) [ true ↦ c | false ↦ lead_of n ss R f (origin_id n ss R c) ]) (lt-ltb c n h)

  pub chain-lamp : c < n → Chain n ss R f c
  unfolding Chain
  chain-lamp h = by f
    where
      by : (f : ℕ) → Chain n ss R f c
      by zero = h
      by (suc f) = inl h

  -- a cluster with what its origin began with
  pub lead-cluster : n ≤ c → lead_of n ss R (suc f) c ≡ lead_of n ss R f (origin_id n ss R c)
  unfolding lead_of
  lead-cluster h = ap (λ (b : Bool). elim b as (λ v. ℕ) [ true ↦ c | false ↦ lead_of n ss R f (origin_id n ss R c) ]) (le-ltb c n h)

  pub chain-cluster : n ≤ c → get_or ss (table_of n c) 0 + origin_of n c < length R → Chain n ss R f (origin_id n ss R c)
      → Chain n ss R (suc f) c
  unfolding Chain
  chain-cluster h k w = inr (h, k, w)

-- what one of a list has is at most what all have
sum-has : (g : ℕ → ℕ) (k : ℕ) (ks : List ℕ) → 0 < count k ks → g k ≤ sum g ks
sum-has g k [] h = absurd (omega arith)
sum-has g k (x ∷ ks) h =
    ⊎_elim (λ d. let e = ap g d.0 in omega arith) (λ d. let e = d.1 in let r = sum-has g k ks (omega arith) in omega arith) (hit k x)

-- ---- the tables of a build stand in the rows R, where ss says

pub record Standing (G : Given) (ss : List ℕ) (R : Table) : Type 0 where
  pub same : (z : ℕ) → min_z G ≤ z → z ≤ max_z G + 1 → (j : ℕ) → j < length (table_of_zoom G z) →
      entry R (get_or ss z 0 + j) ≡ entry (table_of_zoom G z) j
  pub inside : (z : ℕ) → min_z G ≤ z → z ≤ max_z G + 1 → get_or ss z 0 + length (table_of_zoom G z) ≤ length R

module _ (G : Given) (a : AcceptedBuild G) (ss : List ℕ) (R : Table) (S : Standing G ss R) where
  -- the lamp come to from the entry at j of table z, in at most f steps
  abbrev lead : ℕ → ℕ → ℕ → ℕ
  lead f z j = lead_of (points G) ss R f (entry (table_of_zoom G z) j).id

  pub record Led (f z j : ℕ) : Type 0 where
    pub chain : Chain (points G) ss R f (entry (table_of_zoom G z) j).id
    pub has : 0 < count (lead_of (points G) ss R f (entry (table_of_zoom G z) j).id) (lamps_of G z j)

  -- a lamp
  led-lamp : (f z : ℕ) → min_z G ≤ z → z ≤ max_z G + 1 → (j : ℕ) → j < length (table_of_zoom G z) →
      (entry (table_of_zoom G z) j).id < points G → Led f z j
  led-lamp f z h k j q b =
      let c = (entry (table_of_zoom G z) j).id in
      let e = lamps-of-lamp G a z h k j q b in
      record {
        chain = chain-lamp (points G) ss R f c b;
        has = subst (λ (x : ℕ). 0 < count x (lamps_of G z j)) (sym (lead-lamp (points G) ss R f c b))
            (subst (λ (ls : List ℕ). 0 < count c ls) (sym e) (count_head c []));
      }

  -- a cluster, whose origin is led
  module _ (f z : ℕ) (h : min_z G ≤ z) (k : z ≤ max_z G + 1) (j : ℕ) (q : j < length (table_of_zoom G z))
      (w : Cluster G z (entry (table_of_zoom G z) j).id (entry (table_of_zoom G z) j).num) where
    abbrev c : ℕ
    c = (entry (table_of_zoom G z) j).id

    abbrev t : ℕ
    t = table_of (points G) c

    abbrev o : ℕ
    o = origin_of (points G) c

    from : min_z G ≤ t
    from = let b = w.table-from in omega arith

    origin-is : origin_id (points G) ss R c ≡ (entry (table_of_zoom G t) o).id
    origin-is = ap (λ (e : Entry). e.id) (S.same t from w.table_to o w.origin)

    led-cluster : Led f t o → Led (suc f) z j
    led-cluster ih =
        let m = clustered G a z h k j q w.above in
        let i = S.inside t from w.table_to in
        let p = w.origin in
        let x = lead f t o in
        let e : lead (suc f) z j ≡ x = lead-cluster (points G) ss R f c w.above ∙ ap (lead_of (points G) ss R f) origin-is in
        let u : count x (lamps_of G z j) ≡ sum (λ v. count x (lamps_of G t v)) (members_of G c) =
        ap (count x) m.lamps ∙ sum-gather (λ y. one_if (eqb x y)) (λ v. lamps_of G t v) (members_of G c) in
        let one = m.has in
        let v = sum-has (λ v. count x (lamps_of G t v)) o (members_of G c) (omega arith) in
        let y = ih.has in
        record {
          chain = chain-cluster (points G) ss R f c w.above (omega arith)
              (subst (λ (i : ℕ). Chain (points G) ss R f i) (sym origin-is) ih.chain);
          has = subst (λ (x : ℕ). 0 < count x (lamps_of G z j)) (sym e) (omega arith);
        }

  -- each entry, by as many steps as there are finer tables
  pub leads : (f z : ℕ) → min_z G ≤ z → z ≤ max_z G + 1 → max_z G + 1 - z ≤ f → (j : ℕ) → j < length (table_of_zoom G z) → Led f z j
  leads zero z h k b j q = by (identities G a z h k j q)
    where
      by : Known G z (entry (table_of_zoom G z) j) → Led zero z j
      by (inl w) = led-lamp zero z h k j q w.below
      by (inr w) = absurd (let u = w.table-from in let v = w.table_to in omega arith)
  leads (suc f) z h k b j q = by (λ t l m p o r. leads f t l m p o r) (identities G a z h k j q)
    where
      by : ((t : ℕ) → min_z G ≤ t → t ≤ max_z G + 1 → max_z G + 1 - t ≤ f → (o : ℕ) → o < length (table_of_zoom G t) → Led f t o)
          → Known G z (entry (table_of_zoom G z) j) → Led (suc f) z j
      by ih (inl w) = led-lamp (suc f) z h k j q w.below
      by ih (inr w) =
          let u = w.table-from in
          let v = w.table_to in
          led-cluster f z h k j q w (ih (table_of (points G) (entry (table_of_zoom G z) j).id) (omega arith) v (omega arith)
          (origin_of (points G) (entry (table_of_zoom G z) j).id) w.origin)

  -- so it is a lamp of the build, and its owner is the entry
  pub lead-below : (f z : ℕ) → min_z G ≤ z → z ≤ max_z G + 1 → max_z G + 1 - z ≤ f → (j : ℕ) → j < length (table_of_zoom G z) →
      lead_of (points G) ss R f (entry (table_of_zoom G z) j).id < points G
  lead-below f z h k b j q =
      let w = (leads f z h k b j q).has in
      ⊎_elim (λ l. l) (λ l. absurd (let e = owns_none G a z h k (lead f z j) l j q in omega arith)) (below (lead f z j) (points G))

  pub lead-owner : (f z : ℕ) → min_z G ≤ z → z ≤ max_z G + 1 → max_z G + 1 - z ≤ f → (j : ℕ) → j < length (table_of_zoom G z) →
      owner G z (lead_of (points G) ss R f (entry (table_of_zoom G z) j).id) ≡ j
  lead-owner f z h k b j q =
      let w = (leads f z h k b j q).has in
      let e = owns G a z h k (lead f z j) (lead-below f z h k b j q) j q in
      ⊎_elim (λ d. d.0) (λ d. absurd (let r = d.1 in omega arith)) (hit (owner G z (lead f z j)) j)
