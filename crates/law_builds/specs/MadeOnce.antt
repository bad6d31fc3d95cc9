-- Of every such build: a cluster's id says in which table it was made. In that table, and in no other, it is new; no two places of the
-- build's tables have the same cluster new. As a table came, its new entries are marked by none, and the others by the zoom that made it.
-- Assumes nothing.
use Rattle.std.specs.Prelude.{◌≡◌, ◌⊎◌, ℕ, suc, ◌≤◌, ◌<◌, length}
use Rattle.std.proofs.Common.{sym, ap, ◌∙◌, subst, inl, inr, arith, le_refl}
use Rattle.build_tables.specs.laws.Bounds.{options-are}
use Rattle.build_tables.specs.declared.Entry.{Entry}
use Rattle.build_tables.specs.Entries.{Table, entry, never}
use Rattle.build_tables.specs.Ids.{table_of}
use Rattle.build_tables.specs.laws.Ids.{id-apart}
use Rattle.law_builds.specs.Given.{Given, AcceptedBuild, points, min_z, max_z}
use Rattle.law_builds.specs.Came.{came, table_of_zoom, table-last}
use Rattle.law_builds.specs.Identities.{Known, identities, ids-distinct, id-table-suc}
use Rattle.law_builds.specs.Marks.{CarriedOver, New, marks-came}
use Rattle.law_builds.specs.Same.{SameBuild, id_of, table_same}

-- by its id, the entry is a cluster that was made in table z, in a build of n points
abbrev pub MadeAt : ℕ → ℕ → Entry → Type 0
MadeAt n z e = (n ≤ e.id) × (table_of n e.id ≡ suc z)

made-like : (n z : ℕ) (a b : Entry) → SameBuild a b → MadeAt n z b → MadeAt n z a
made-like n z a b s m = subst (λ (i : ℕ). (n ≤ i) × (table_of n i ≡ suc z)) (sym (ap id_of s)) m

module _ (G : Given) (a : AcceptedBuild G) where
  -- what the zoom z made was made in table z
  pub new-made : (z : ℕ) → z ≤ max_z G → (j : ℕ) → New (points G) z (table_of_zoom G (suc z)) (came G z) j →
      MadeAt (points G) z (entry (came G z) j)
  new-made z l j w =
      let e = w.id in
      let m = (options-are G.options a.options).zoom-to in
      (omega arith, ap (table_of (points G)) e ∙ id-table-suc (points G) z w.origin (omega arith))

  -- what it carried was not
  pub carried-not : (z : ℕ) → min_z G ≤ z → z ≤ max_z G → (j : ℕ) → CarriedOver z (table_of_zoom G (suc z)) (came G z) j →
      MadeAt (points G) z (entry (came G z) j) → ⊥
  carried-not z h l j c m = by (identities G a (suc z) (omega arith) (omega arith) c.source c.place)
    where
      same : (entry (came G z) j).id ≡ (entry (table_of_zoom G (suc z)) c.source).id
      same = ap id_of c.same

      by : Known G (suc z) (entry (table_of_zoom G (suc z)) c.source) → ⊥
      by (inl w) = let b = w.below in let e = same in let d = m.0 in omega arith
      by (inr w) = let b = w.table-from in let e = ap (table_of (points G)) same in let d = m.1 in omega arith

  -- table z as it came: new and marked by none, or not new and marked z
  pub marks-exact : (z : ℕ) → min_z G ≤ z → z ≤ max_z G → (j : ℕ) → j < length (came G z) →
      (MadeAt (points G) z (entry (came G z) j) × ((entry (came G z) j).seen ≡ never))
      ⊎ ((MadeAt (points G) z (entry (came G z) j) → ⊥) × ((entry (came G z) j).seen ≡ z))
  marks-exact z h l j k = by (marks-came G a z h l j k)
    where
      by : CarriedOver z (table_of_zoom G (suc z)) (came G z) j ⊎ New (points G) z (table_of_zoom G (suc z)) (came G z) j →
          (MadeAt (points G) z (entry (came G z) j) × ((entry (came G z) j).seen ≡ never))
          ⊎ ((MadeAt (points G) z (entry (came G z) j) → ⊥) × ((entry (came G z) j).seen ≡ z))
      by (inl c) = inr (carried-not z h l j c, c.seen)
      by (inr c) = inl (new-made z l j c, c.seen)

  -- so in the last table of the build
  pub marks-last-exact : (j : ℕ) → j < length (table_of_zoom G (min_z G)) →
      (MadeAt (points G) (min_z G) (entry (table_of_zoom G (min_z G)) j) × ((entry (table_of_zoom G (min_z G)) j).seen ≡ never))
      ⊎ ((MadeAt (points G) (min_z G) (entry (table_of_zoom G (min_z G)) j) → ⊥) × ((entry (table_of_zoom G (min_z G)) j).seen ≡ min_z G))
  marks-last-exact j k =
      let m = min_z G in
      let w = (options-are G.options a.options).zooms in
      let e = table-last G w in
      let v = ap length e in
      subst (λ (t : Table). (MadeAt (points G) m (entry t j) × ((entry t j).seen ≡ never)) ⊎ ((MadeAt (points G) m (entry t j) → ⊥)
      × ((entry t j).seen ≡ m))) (sym e) (marks-exact m (le_refl m) w j (omega arith))

  -- a cluster is new at one place of one table
  pub made-once : (z w : ℕ) → min_z G ≤ z → z ≤ max_z G → w ≤ max_z G → (j l : ℕ) → j < length (table_of_zoom G z) → l < length (table_of_zoom G w)
      →
      MadeAt (points G) z (entry (table_of_zoom G z) j) → MadeAt (points G) w (entry (table_of_zoom G w) l) →
      (entry (table_of_zoom G z) j).id ≡ (entry (table_of_zoom G w) l).id →
      (z ≡ w) × (j ≡ l)
  made-once z w h k m j l p q s t e = (same, ids-distinct G a z h (omega arith) j l p there at)
    where
      same : z ≡ w
      same = let b = s.1 in let c = t.1 in let d = ap (table_of (points G)) e in omega arith

      there : l < length (table_of_zoom G z)
      there = subst (λ (v : ℕ). l < length (table_of_zoom G v)) (sym same) q

      at : (entry (table_of_zoom G z) j).id ≡ (entry (table_of_zoom G z) l).id
      at = e ∙ ap (λ (v : ℕ). (entry (table_of_zoom G v) l).id) (sym same)

  -- the same of what two zooms made: with the same id, they are the same zoom, the same place of the next table, and the same origin
  pub new-once : (z w : ℕ) → min_z G ≤ z → z ≤ max_z G → min_z G ≤ w → w ≤ max_z G → (j l : ℕ) → j < length (came G z) → l < length (came G w) →
      (p : New (points G) z (table_of_zoom G (suc z)) (came G z) j) → (q : New (points G) w (table_of_zoom G (suc w)) (came G w) l) →
      (entry (came G z) j).id ≡ (entry (came G w) l).id → (z ≡ w) × (j ≡ l) × (p.origin ≡ q.origin)
  new-once z w h k h' k' j l m n p q e =
      let s = table_same G a z h (omega arith) in
      let t = table_same G a w h' (omega arith) in
      let u = s.long in
      let v = t.long in
      let top = (options-are G.options a.options).zoom-to in
      let x = made-once z w h k k' j l (omega arith) (omega arith)
      (made-like (points G) z (entry (table_of_zoom G z) j) (entry (came G z) j) (s.each j m) (new-made z k j p))
      (made-like (points G) w (entry (table_of_zoom G w) l) (entry (came G w) l) (t.each l n) (new-made w k' l q))
      (ap id_of (s.each j m) ∙ e ∙ sym (ap id_of (t.each l n))) in
      (x.0, x.1, (id-apart (points G) z w p.origin q.origin (omega arith) (omega arith) (sym p.id ∙ e ∙ q.id)).0)
