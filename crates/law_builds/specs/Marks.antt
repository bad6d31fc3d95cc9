-- Of every such build: in each table but the last, each entry is marked with the zoom that clustered it, one below the table's number. In
-- the last table an entry that was carried there is marked with min_zoom, and one that was made there is marked by none. Assumes nothing.
use Rattle.std.specs.Prelude.{◌≡◌, ◌⊎◌, ℕ, suc, ◌≤◌, ◌<◌, length}
use Rattle.std.proofs.Common.{sym, ap, ◌∙◌, subst, inl, inr, ⊎_elim, arith, le_refl}
use Rattle.build_tables.specs.laws.Bounds.{options-are}
use Rattle.build_tables.specs.declared.Entry.{Entry}
use Rattle.build_tables.specs.Entries.{Table, entry, never}
use Rattle.build_tables.specs.Ids.{cluster_id}
use Rattle.law_builds.specs.Given.{Given, AcceptedBuild, points, min_z, max_z}
use Rattle.law_builds.specs.Came.{came, table_of_zoom, table-last}
use Rattle.law_builds.specs.GroupsOfBuild.{groups_by}
use Rattle.law_builds.specs.Places.{Arose}
use Rattle.law_builds.specs.Same.{plain_entry, SameBuild, Alike, went-by, arose-by, table_same}

-- T is table z + 1 and U table z, of a build of n points

-- the entry at j was carried from one of T by the zoom z
pub record CarriedOver (z : ℕ) (T U : Table) (j : ℕ) : Type 0 where
  pub source : ℕ
  pub place : source < length T
  pub same : SameBuild (entry U j) (entry T source)
  pub seen : (entry U j).seen ≡ z

-- it is a cluster that the zoom z made at a place of T
pub record New (n z : ℕ) (T U : Table) (j : ℕ) : Type 0 where
  pub origin : ℕ
  pub place : origin < length T
  pub id : (entry U j).id ≡ cluster_id n z origin
  pub seen : (entry U j).seen ≡ never

module _ (G : Given) (a : AcceptedBuild G) where
  -- table z + 1: each entry is marked z
  pub marks : (z : ℕ) → min_z G ≤ z → z ≤ max_z G → (i : ℕ) → i < length (table_of_zoom G (suc z)) → (entry (table_of_zoom G (suc z)) i).seen ≡ z
  marks z h l i k =
      ⊎_elim (λ s. ap (λ (e : Entry). e.seen) s.1.finer) (λ s. ap (λ (e : Entry). e.seen) s.2.finer)
      (went-by G a z h l i (let w = (table_same G a (suc z) (omega arith) (omega arith)).long in omega arith))

  -- table z as it came: carried and marked z, or new and not marked
  pub marks-came : (z : ℕ) → min_z G ≤ z → z ≤ max_z G → (j : ℕ) → j < length (came G z) →
      CarriedOver z (table_of_zoom G (suc z)) (came G z) j ⊎ New (points G) z (table_of_zoom G (suc z)) (came G z) j
  marks-came z h l j k = by (arose-by G a z h l j k)
    where
      alike : Alike (table_of_zoom G (suc z)) (came G (suc z))
      alike = table_same G a (suc z) (omega arith) (omega arith)

      by : Arose (points G) z (came G (suc z)) (table_of_zoom G (suc z)) (came G z) (groups_by G z) j →
          CarriedOver z (table_of_zoom G (suc z)) (came G z) j ⊎ New (points G) z (table_of_zoom G (suc z)) (came G z) j
      by (inl (k, s)) =
          let w = alike.long in
          let p = s.place in
          inl (record {
            source = k;
            place = omega arith;
            same = ap plain_entry s.copy ∙ sym (alike.each k p);
            seen = ap (λ (e : Entry). e.seen) s.copy;
          })
      by (inr (i, s)) =
          let w = alike.long in
          let p = s.place in
          inr (record { origin = i; place = omega arith; id = s.id; seen = s.seen })

  -- the last table
  pub marks-last : (j : ℕ) → j < length (table_of_zoom G (min_z G)) →
      CarriedOver (min_z G) (table_of_zoom G (suc (min_z G))) (table_of_zoom G (min_z G)) j
      ⊎ New (points G) (min_z G) (table_of_zoom G (suc (min_z G))) (table_of_zoom G (min_z G)) j
  marks-last j k =
      let m = min_z G in
      let w = (options-are G.options a.options).zooms in
      let e = table-last G w in
      let v = ap length e in
      subst (λ (t : Table). CarriedOver m (table_of_zoom G (suc m)) t j ⊎ New (points G) m (table_of_zoom G (suc m)) t j) (sym e)
      (marks-came m (le_refl m) w j (omega arith))
