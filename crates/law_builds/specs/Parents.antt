-- Of every such build: in each table but the last, an entry has no parent, and then the next table has it too; or its parent is a cluster
-- that the zoom made at a place of the same table, and then the next table has an entry with this id. In the last table no entry has a
-- parent. Assumes nothing.
use Rattle.std.specs.Prelude.{◌≡◌, ◌⊎◌, ℕ, suc, ◌≤◌, ◌<◌, length}
use Rattle.std.proofs.Common.{sym, ap, ◌∙◌, inl, inr, arith, le_refl}
use Rattle.build_tables.specs.laws.Bounds.{options-are}
use Rattle.build_tables.specs.declared.Entry.{Entry}
use Rattle.build_tables.specs.Entries.{Table, entry, unset}
use Rattle.build_tables.specs.Ids.{cluster_id}
use Rattle.build_tables.specs.laws.Ids.{id-small}
use Rattle.build_one_zoom.specs.laws.Keeps.{all-at}
use Rattle.law_builds.specs.Given.{Given, AcceptedBuild, points, min_z, max_z, plan}
use Rattle.law_builds.specs.Came.{came, table_of_zoom, table-last}
use Rattle.law_builds.specs.GroupsOfBuild.{groups_by, came-coming}
use Rattle.law_builds.specs.Places.{WentOn}
use Rattle.law_builds.specs.Same.{plain_entry, SameBuild, id_of, Alike, went-by, table_same}
use Rattle.law_builds.specs.Steps.{Coming, Lone}

-- T is table z + 1 and U table z, of a build of n points

-- the entry at i has no parent, and U has it too
pub record Alone (T U : Table) (i : ℕ) : Type 0 where
  pub parent : (entry T i).parent ≡ unset
  pub place : ℕ
  pub there : place < length U
  pub same : SameBuild (entry U place) (entry T i)

-- its parent is the cluster made at the place `origin` of T, whose parent it is too, and U has this cluster. The id is not the unset parent
pub record Under (n z : ℕ) (T U : Table) (i : ℕ) : Type 0 where
  pub origin : ℕ
  pub inside : origin < length T
  pub parent : (entry T i).parent ≡ cluster_id n z origin
  pub origin-parent : (entry T origin).parent ≡ cluster_id n z origin
  pub small : cluster_id n z origin < unset
  pub place : ℕ
  pub there : place < length U
  pub id : (entry U place).id ≡ cluster_id n z origin

module _ (G : Given) (a : AcceptedBuild G) where
  -- table z + 1
  pub parents : (z : ℕ) → min_z G ≤ z → z ≤ max_z G → (i : ℕ) → i < length (table_of_zoom G (suc z)) →
      Alone (table_of_zoom G (suc z)) (table_of_zoom G z) i ⊎ Under (points G) z (table_of_zoom G (suc z)) (table_of_zoom G z) i
  parents z h l i k = by (went-by G a z h l i here)
    where
      fine : Alike (table_of_zoom G (suc z)) (came G (suc z))
      fine = table_same G a (suc z) (omega arith) (omega arith)

      next : Alike (table_of_zoom G z) (came G z)
      next = table_same G a z h (omega arith)

      here : i < length (came G (suc z))
      here = let w = fine.long in omega arith

      c : Coming (plan G) (suc z) (came G (suc z))
      c = came-coming G a (suc z) (omega arith) (omega arith)

      by : WentOn (points G) z (came G (suc z)) (table_of_zoom G (suc z)) (came G z) (groups_by G z) i →
          Alone (table_of_zoom G (suc z)) (table_of_zoom G z) i ⊎ Under (points G) z (table_of_zoom G (suc z)) (table_of_zoom G z) i
      by (inl (j, s)) =
          let w = next.long in
          let p = s.to in
          inl (record {
            parent = ap (λ (e : Entry). e.parent) s.finer ∙ all-at Lone (came G (suc z)) i c.lone here;
            place = j;
            there = omega arith;
            same = next.each j p ∙ ap plain_entry s.copy ∙ sym (fine.each i here);
          })
      by (inr (x, j, s)) =
          let w = next.long in
          let v = fine.long in
          let p = s.to in
          let q = s.origin in
          let few = c.few in
          let most = a.few in
          let top = (options-are G.options a.options).zoom-to in
          inr (record {
            origin = x;
            inside = omega arith;
            parent = ap (λ (e : Entry). e.parent) s.finer;
            origin-parent = ap (λ (e : Entry). e.parent) s.origin-finer;
            small = id-small (points G) z x (omega arith) most (omega arith);
            place = j;
            there = omega arith;
            id = ap id_of (next.each j p) ∙ s.id;
          })

  -- the last table
  pub parents-last : (i : ℕ) → i < length (table_of_zoom G (min_z G)) → (entry (table_of_zoom G (min_z G)) i).parent ≡ unset
  parents-last i k =
      let m = min_z G in
      let w = (options-are G.options a.options).zooms in
      let e = table-last G w in
      let v = ap length e in
      ap (λ (t : Table). (entry t i).parent) e ∙ all-at Lone (came G m) i (came-coming G a m (le_refl m) (omega arith)).lone (omega arith)
