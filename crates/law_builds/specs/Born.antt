-- Of every such build: a cluster of any table stands in the table in which it was made, with the same place, id and num. So an id
-- determines the entry: two entries of the build's tables with the same id differ in seen and parent at most. Assumes nothing.
use Rattle.std.specs.Prelude.{◌≡◌, ℕ, suc, ◌+◌, ◌-◌, ◌≤◌, ◌<◌, length}
use Rattle.std.proofs.Common.{sym, ap, ◌∙◌, subst, inl, inr, arith, le_refl}
use Rattle.build_tables.specs.laws.Bounds.{options-are}
use Rattle.build_tables.specs.declared.Entry.{Entry}
use Rattle.build_tables.specs.Entries.{entry}
use Rattle.build_tables.specs.Ids.{table_of}
use Rattle.law_builds.specs.Given.{Given, AcceptedBuild, points, min_z, max_z, lamps_in}
use Rattle.law_builds.specs.Came.{came, table_of_zoom, down}
use Rattle.law_builds.specs.GroupsOfBuild.{groups_by}
use Rattle.law_builds.specs.Identities.{Known, came-known, identities, ids-distinct, id-table-suc}
use Rattle.law_builds.specs.Places.{Arose}
use Rattle.law_builds.specs.Same.{plain_entry, SameBuild, id_of, arose-by, table_same}

-- where the cluster of an entry e was made: the place in the table before that of its origin, and the entry there is e
pub record Born (G : Given) (e : Entry) : Type 0 where
  pub place : ℕ
  pub there : place < length (table_of_zoom G (table_of (points G) e.id - 1))
  pub same : SameBuild (entry (table_of_zoom G (table_of (points G) e.id - 1)) place) e

-- the entry b is a copy of a
born-same : (G : Given) (a b : Entry) → SameBuild a b → Born G a → Born G b
born-same G a b s w =
    record {
      place = w.place;
      there = subst (λ (i : ℕ). w.place < length (table_of_zoom G (table_of (points G) i - 1))) (ap id_of s) w.there;
      same = subst (λ (i : ℕ). SameBuild (entry (table_of_zoom G (table_of (points G) i - 1)) w.place) a) (ap id_of s) w.same ∙ s;
    }

-- e is made in table z, at j
born-here : (G : Given) (z j : ℕ) (e : Entry) → table_of (points G) e.id - 1 ≡ z → j < length (table_of_zoom G z) →
    SameBuild (entry (table_of_zoom G z) j) e → Born G e
born-here G z j e q h s =
    record {
      place = j;
      there = subst (λ (v : ℕ). j < length (table_of_zoom G v)) (sym q) h;
      same = subst (λ (v : ℕ). SameBuild (entry (table_of_zoom G v) j) e) (sym q) s;
    }

module _ (G : Given) (a : AcceptedBuild G) where
  -- no cluster is in the finest table
  none-finest : (i : ℕ) → i < length (came G (max_z G + 1)) → points G ≤ (entry (came G (max_z G + 1)) i).id → ⊥
  none-finest i h b =
      by (came-known G a (max_z G + 1) (let w = (options-are G.options a.options).zooms in omega arith) (le_refl (max_z G + 1)) i h)
    where
      by : Known G (max_z G + 1) (entry (came G (max_z G + 1)) i) → ⊥
      by (inl w) = let c = w.below in omega arith
      by (inr w) = let c = w.table-from in let d = w.table_to in omega arith

  born-step : (z : ℕ) → min_z G ≤ z → z < max_z G + 1 →
      ((i : ℕ) → i < length (came G (suc z)) → points G ≤ (entry (came G (suc z)) i).id → Born G (entry (came G (suc z)) i)) →
      (j : ℕ) → j < length (came G z) → points G ≤ (entry (came G z) j).id → Born G (entry (came G z) j)
  born-step z h l ih j k b = by (arose-by G a z h (omega arith) j k)
    where
      by : Arose (points G) z (came G (suc z)) (table_of_zoom G (suc z)) (came G z) (groups_by G z) j → Born G (entry (came G z) j)
      by (inl (i, s)) =
          let m : SameBuild (entry (came G z) j) (entry (came G (suc z)) i) = ap plain_entry s.copy in
          let e = ap id_of m in
          born-same G (entry (came G (suc z)) i) (entry (came G z) j) (sym m) (ih i s.place (omega arith))
      by (inr (i, s)) =
          let t = (options-are G.options a.options).zoom-to in
          let e : table_of (points G) (entry (came G z) j).id ≡ suc z = ap (table_of (points G)) s.id
          ∙ id-table-suc (points G) z i (omega arith) in
          let w = table_same G a z h (omega arith) in
          let v = w.long in
          born-here G z j (entry (came G z) j) (omega arith) (omega arith) (w.each j k)

  came-born : (z : ℕ) → min_z G ≤ z → z ≤ max_z G + 1 → (j : ℕ) → j < length (came G z) → points G ≤ (entry (came G z) j).id →
      Born G (entry (came G z) j)
  came-born =
      down (λ z. (j : ℕ) → j < length (came G z) → points G ≤ (entry (came G z) j).id → Born G (entry (came G z) j)) (min_z G) (max_z G + 1)
      (λ i h b. absurd (none-finest i h b)) born-step

  -- each cluster of each table stands in the table in which it was made
  pub born : (z : ℕ) → min_z G ≤ z → z ≤ max_z G + 1 → (i : ℕ) → i < length (table_of_zoom G z) → points G ≤ (entry (table_of_zoom G z) i).id →
      Born G (entry (table_of_zoom G z) i)
  born z h l i k b =
      let s = table_same G a z h l in
      let w = s.long in
      let q : i < length (came G z) = omega arith in
      let e = ap id_of (s.each i q) in
      born-same G (entry (came G z) i) (entry (table_of_zoom G z) i) (sym (s.each i q)) (came-born z h l i q (omega arith))

  -- an id determines the entry
  pub one_entry : (z w : ℕ) → min_z G ≤ z → z ≤ max_z G + 1 → min_z G ≤ w → w ≤ max_z G + 1 → (i j : ℕ) → i < length (table_of_zoom G z) →
      j < length (table_of_zoom G w) →
      (entry (table_of_zoom G z) i).id ≡ (entry (table_of_zoom G w) j).id → SameBuild (entry (table_of_zoom G z) i) (entry (table_of_zoom G w) j)
  one_entry z w h k m n i j p q e = by (identities G a z h k i p) (identities G a w m n j q)
    where
      A : Entry
      A = entry (table_of_zoom G z) i

      B : Entry
      B = entry (table_of_zoom G w) j

      by : Known G z (entry (table_of_zoom G z) i) → Known G w (entry (table_of_zoom G w) j)
          → SameBuild (entry (table_of_zoom G z) i) (entry (table_of_zoom G w) j)
      by (inl u) (inl v) =
          subst (λ (k : ℕ). SameBuild A (entry (lamps_in G) k)) e u.same ∙ sym v.same
      by (inl u) (inr v) = absurd (let b = u.below in let c = v.above in omega arith)
      by (inr u) (inl v) = absurd (let b = u.above in let c = v.below in omega arith)
      by (inr u) (inr v) = meet (born z h k i p u.above) (born w m n j q v.above)
        where
          W : ℕ
          W = table_of (points G) A.id - 1

          meet : Born G A → Born G B → SameBuild A B
          meet s t =
              let r : table_of (points G) B.id - 1 ≡ W = ap (λ (v : ℕ). table_of (points G) v - 1) (sym e) in
              let Q = t.place in
              let at : Q < length (table_of_zoom G W) = subst (λ (v : ℕ). Q < length (table_of_zoom G v)) r t.there in
              let is : SameBuild (entry (table_of_zoom G W) Q) B = subst (λ (v : ℕ). SameBuild (entry (table_of_zoom G v) Q) B) r t.same in
              let b = u.table-from in
              let c = u.table_to in
              let one : s.place ≡ Q = ids-distinct G a W (omega arith) (omega arith) s.place Q s.there at
              (ap id_of s.same ∙ e ∙ sym (ap id_of is)) in
              sym s.same ∙ subst (λ (v : ℕ). SameBuild (entry (table_of_zoom G W) v) B) (sym one) is
