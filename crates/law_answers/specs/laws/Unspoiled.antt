-- Of a build that is accepted: no question for children, leaves or an expansion zoom is refused 11, whatever the
-- id, the limit, the offset and the room. Assumes nothing.
use Rattle.std.specs.Prelude.{◌≡◌, refl, ◌⊎◌, Bool, cond, not, ◌&&◌, List, [], ◌∷◌, leb, ltb, eqb, take, drop, Ok, Err}
use Rattle.std.proofs.Common.{ap, sym, ◌∙◌, ltb-false, leb-true, leb-false, eqb-true}
use Rattle.std.proofs.Math.Path.{subst}
use Rattle.std.proofs.Math.Logic.{inl, inr, ⊎_elim}
use Rattle.std.proofs.Math.Bool.{true, false}
use Prim.Native.Nat.{ℕ, suc, ◌+◌, ◌-◌, ◌<◌, ◌≤◌}
use native.Mathlib.Omega.{arith}
use Rattle.std.proofs.lemmas.Bool.{eqb-false}
use Rattle.std.proofs.Math.ListN.{length}
use Rattle.kdslots.specs.laws.All.{All, AllBelow}
use Rattle.kdslots.specs.Keep.{keep}
use Rattle.build_tables.specs.declared.State.{State}
use Rattle.build_tables.specs.Entries.{entry, unset}
use Rattle.build_tables.specs.Ids.{origin_of, table_of}
use Rattle.build_tables.specs.Sound.{state_ok}
use Rattle.build_tables.specs.State.{len_of}
use Rattle.law_groups.specs.laws.Sums.{below}
use Rattle.refusals.specs.declared.Refusal.TheVariants.{NoTree, NoCluster, Spoiled}
use Rattle.ask_base.specs.Ids.{Target, origin}
use Rattle.ask_base.specs.Asked.{Asked, refused, told, answer_of}
use Rattle.build_tables.specs.Room.{Columns, room_of}
use Rattle.ask_base.specs.Ids.{is_built, target_of}
use Rattle.ask_child_walk.specs.Kids.{kids_at, clean_at, childless}
use Rattle.ask_cluster.specs.Children.{at_target, children_at, children_of}
use Rattle.ask_cluster.specs.Expansion.{Expansion, expand, zoom_at, zoom_of}
use Rattle.ask_cluster.specs.Leaves.{leaves_at, leaves_of}
use Rattle.supercluster.specs.Build.{BuildColumns, need}
use Rattle.supercluster.specs.laws.Load.{Holds}
use Rattle.law_builds.specs.Given.{Given, AcceptedBuild, points, min_z, max_z}
use Rattle.law_builds.specs.Came.{table_of_zoom as built}
use Rattle.law_builds.specs.Parents.{Alone, Under, parents}
use Rattle.law_builds.specs.RightAt.{right-at}
use Rattle.law_lamps.specs.Owner.{answers_at, lamps_of}
use Rattle.law_answers.specs.laws.Stored.{state_by, columns_by, state-sound, long-is}
use Rattle.law_answers.specs.laws.Boxed.{fits-somehow}
use Rattle.law_answers.specs.laws.Children.{around-below, clean, kids-at}
use Rattle.law_answers.specs.laws.Clusters.{expansion-is}
use Rattle.law_answers.specs.laws.Walks.{all_keep, keep-passes}
use Rattle.law_answers.specs.laws.Leaves.{leaves-page}

-- a question that is not refused 11, whatever the room
abbrev Fine : Asked → Type 0
Fine q = (room : ℕ) → answer_of q room ≡ Err Spoiled → ⊥

fine-told : (l : List ℕ) → Fine (told true l)
fine-told l room e = fits-somehow (length l) room e

fine-none : Fine (refused NoCluster)
fine-none room e = let z : ◌≡◌ {A = ℕ} 0 1 = cc in omega arith

fine-tree : Fine (refused NoTree)
fine-tree room e = let z : ◌≡◌ {A = ℕ} 0 1 = cc in omega arith

-- an expansion zoom that is not refused 11
abbrev Grows : Expansion → Type 0
Grows x = x ≡ Err Spoiled → ⊥

grows_at : (z : ℕ) → Grows (Ok z)
grows_at z e = let z : ◌≡◌ {A = ℕ} 0 1 = cc in omega arith

grows_none : Grows (Err NoCluster)
grows_none e = let z : ◌≡◌ {A = ℕ} 0 1 = cc in omega arith

grows-tree : Grows (Err NoTree)
grows-tree e = let z : ◌≡◌ {A = ℕ} 0 1 = cc in omega arith

-- ---- where an id leads

module _ (s : State) (cap id : ℕ) (good : state_ok s cap ≡ true) (P : Target → Type 0) (none : P (Err NoCluster)) (tree : P (Err NoTree))
    (at : let T = table_of s.count id in let I = origin_of s.count id in s.count ≤ id → s.options.min_zoom < T
    → T ≤ s.options.max_zoom + 1 → I < len_of s T → P (Ok (origin T I))) where
  abbrev U : ℕ
  U = table_of s.count id

  abbrev O : ℕ
  O = origin_of s.count id

  by_place : (b : Bool) → leb (len_of s U) O ≡ b → s.count ≤ id → s.options.min_zoom < U → U ≤ s.options.max_zoom + 1
      → P (cond b (Err NoCluster) (Ok (origin U O)))
  by_place true e n h k = none
  by_place false e n h k = at n h k (leb-false _ _ e)

  by-low : (b : Bool) → eqb U s.options.min_zoom ≡ b → s.count ≤ id → s.options.min_zoom ≤ U → U ≤ s.options.max_zoom + 1
      → P (cond b (Err NoCluster) (cond (leb (len_of s U) O) (Err NoCluster) (Ok (origin U O))))
  by-low true e n h k = none
  by-low false e n h k = by_place (leb (len_of s U) O) refl n (more (eqb-false _ _ e)) k
    where
      more : (U ≡ s.options.min_zoom → ⊥) → s.options.min_zoom < U
      more w = ⊎_elim (λ v. v) (λ v. absurd (w (omega arith))) (below s.options.min_zoom U)

  by-built : (a b : Bool) → leb s.options.min_zoom U ≡ a → leb U (s.options.max_zoom + 1) ≡ b → s.count ≤ id
      → P (cond (not (a && b)) (Err NoTree)
      (cond (eqb U s.options.min_zoom) (Err NoCluster) (cond (leb (len_of s U) O) (Err NoCluster) (Ok (origin U O)))))
  by-built true true e d n = by-low (eqb U s.options.min_zoom) refl n (leb-true _ _ e) (leb-true _ _ d)
  by-built true false e d n = tree
  by-built false true e d n = tree
  by-built false false e d n = tree

  by-id : (b : Bool) → ltb id s.count ≡ b
      → P (cond b (Err NoCluster) (cond (not (is_built s U)) (Err NoTree)
      (cond (eqb U s.options.min_zoom) (Err NoCluster) (cond (leb (len_of s U) O) (Err NoCluster) (Ok (origin U O))))))
  by-id true e = none
  by-id false e = by-built (leb s.options.min_zoom U) (leb U (s.options.max_zoom + 1)) refl refl (ltb-false _ _ e)

  by-target : P (target_of s cap id)
  unfolding target_of
  by-target = rw good (by-id (ltb id s.count) refl)

-- ---- an id that leads to a place of a build

module _ (G : Given) (a : AcceptedBuild G) (l : BuildColumns) (r : Holds (need G.options (points G)) l) where
  abbrev S : State
  S = state_by G

  abbrev C : Columns
  C = columns_by G l

  -- a cluster of the build with this id, in table z
  abbrev Made : ℕ → ℕ → Type 0
  Made z id = (j : ℕ) × (j < length (built G z)) × ((entry (built G z) j).id ≡ id)

  -- the parent of an entry of table z + 1 is unset, or a cluster of table z
  parent-made : (z i id : ℕ) → min_z G ≤ z → z ≤ max_z G → i < length (built G (suc z)) → (entry (built G (suc z)) i).parent ≡ id →
      (id ≡ unset → ⊥) → Made z id
  parent-made z i id h k q e u = by (parents G a z h k i q)
    where
      by : Alone (built G (suc z)) (built G z) i ⊎ Under (points G) z (built G (suc z)) (built G z) i → Made z id
      by (inl w) = absurd (u (sym e ∙ w.parent))
      by (inr w) = (w.place, w.there, w.id ∙ sym w.parent ∙ e)

  module _ (id : ℕ) (n : points G ≤ id) (h : min_z G < table_of (points G) id) (k : table_of (points G) id ≤ max_z G + 1)
      (i : origin_of (points G) id < len_of (state_by G) (table_of (points G) id)) where
    abbrev T : ℕ
    T = table_of (points G) id

    abbrev I : ℕ
    I = origin_of (points G) id

    inside : origin_of (points G) id < length (built G (table_of (points G) id))
    inside = let e = long-is G a T (omega arith) k in omega arith

    -- the origin is no place of a table
    not_unset : id ≡ unset → ⊥
    not_unset e = let w = inside in let d = (right-at G a T (omega arith) k).few in let m = a.few in omega arith

    abbrev kids : List ℕ
    kids =
        keep (λ m. eqb (entry (built G (table_of (points G) id)) m).parent id)
        (answers_at G (table_of (points G) id) (origin_of (points G) id))

    -- it has no children, or it is a cluster of the table before
    made-or-none : (kids_at (state_by G) (columns_by G l) id T I ≡ []) ⊎ Made (T - 1) id
    made-or-none =
        by kids (kids-at G a l r T I h k id) (all_keep (λ (m : ℕ). m < length (built G T)) _ _ (around-below G a l r T I h k))
        (keep-passes (λ m. eqb (entry (built G T) m).parent id) (answers_at G T I))
      where
        by : (ks : List ℕ) → kids_at S C id T I ≡ ks → AllBelow (length (built G T)) ks →
            All (λ m. eqb (entry (built G T) m).parent id ≡ true) ks → (kids_at S C id T I ≡ []) ⊎ Made (T - 1) id
        by [] e w v = inl e
        by (m ∷ ks) e w v =
            let t : T ≡ suc (T - 1) = omega arith in
            inr (first m (suc (T - 1)) t (unfold All in w.0) (eqb-true _ _ (unfold All in v.0)))
          where
            first : (m u : ℕ) → T ≡ u → m < length (built G T) → (entry (built G T) m).parent ≡ id → Made (T - 1) id
            first m u t q p =
                let t : T ≡ suc (T - 1) = omega arith in
                parent-made (T - 1) m id (omega arith) (omega arith) (subst (λ (v : ℕ). m < length (built G v)) t q)
                (subst (λ (v : ℕ). (entry (built G v) m).parent ≡ id) t p) not_unset

    no-spoiled : clean_at (state_by G) (columns_by G l) T I ≡ true
    no-spoiled = clean G a l r T I h k

    none-childless : kids_at (state_by G) (columns_by G l) id T I ≡ [] → childless (state_by G) (columns_by G l) id T I ≡ true
    none-childless e = rw (no-spoiled, e)

    -- asked for its children, at its place
    children-fine : Fine (children_at (state_by G) (columns_by G l) id T I)
    unfolding children_at
    children-fine = by (childless S C id T I)
      where
        by : (b : Bool) → Fine (cond b (refused NoCluster) (told (clean_at S C T I) (kids_at S C id T I)))
        by true = fine-none
        by false = subst (λ (c : Bool). Fine (told c (kids_at S C id T I))) (sym no-spoiled) (fine-told (kids_at S C id T I))

    made-fine : (limit offset : ℕ) → Made (T - 1) id → Fine (leaves_of (state_by G) (columns_by G l) id limit offset)
    made-fine limit offset (j, q, e) =
        subst (λ (v : ℕ). Fine (leaves_of S C v limit offset)) e
        (subst Fine (sym (leaves-page G a l r (T - 1) j low top q above limit offset))
        (fine-told (take limit (drop offset (lamps_of G (T - 1) j)))))
      where
        low : min_z G ≤ T - 1
        low = omega arith

        top : T - 1 ≤ max_z G + 1
        top = omega arith

        above : points G ≤ (entry (built G (T - 1)) j).id
        above = omega arith

    leaves-fine : (limit offset : ℕ) →
        Fine (leaves_of (state_by G) (columns_by G l) id limit offset) ⊎ Fine (leaves_at (state_by G) (columns_by G l) id limit offset T I)
    unfolding leaves_at
    leaves-fine limit offset = ⊎_elim (λ e. inr (rw (none-childless e) fine-none)) (λ w. inl (made-fine limit offset w)) made-or-none

    -- ---- its expansion zoom

    made-grows : Made (T - 1) id → Grows (zoom_of (state_by G) (columns_by G l) id)
    made-grows (j, q, e) w =
        let b : points G ≤ (entry (built G (T - 1)) j).id = omega arith in
        grows_at (table_of (points G) (entry (built G (T - 1)) j).id)
        (sym (expansion-is G a l r (T - 1) j (omega arith) (omega arith) q b) ∙ ap (zoom_of S C) e ∙ w)

    none-grows : kids_at (state_by G) (columns_by G l) id T I ≡ [] →
        Grows (expand (state_by G) (columns_by G l) (max_z G + 1 - (T - 1)) (Ok (origin T I)) id (T - 1) true)
    unfolding expand
    none-grows e =
        let m : suc (max_z G + 1 - T) ≡ max_z G + 1 - (T - 1) = omega arith in
        subst (λ (v : ℕ). Grows (expand S C v (Ok (origin T I)) id (T - 1) true)) m (rw (no-spoiled, e) grows_none)

    zoom-grows : Grows (zoom_of (state_by G) (columns_by G l) id) ⊎ Grows
        (expand (state_by G) (columns_by G l) (max_z G + 1 - (T - 1)) (Ok (origin T I)) id (T - 1) true)
    zoom-grows = ⊎_elim (λ e. inr (none-grows e)) (λ w. inl (made-grows w)) made-or-none

  -- ---- for every id

  -- no question for children is refused 11
  pub children-not-spoiled : (id room : ℕ) → answer_of (children_of (state_by G) (columns_by G l) id) room ≡ Err Spoiled → ⊥
  unfolding children_of
  children-not-spoiled id =
      by-target S (room_of C) id (state-sound G a l r) (λ t. Fine (at_target t (λ z i. children_at S C id z i))) fine-none fine-tree
      (λ n h k i. children-fine id n h k i)

  -- nor one for leaves
  pub leaves-not-spoiled : (id limit offset room : ℕ) → answer_of (leaves_of (state_by G) (columns_by G l) id limit offset) room ≡ Err Spoiled → ⊥
  leaves-not-spoiled id limit offset = ⊎_elim (λ w. w) (λ w. opened w) found
    where
      found : Fine (leaves_of S C id limit offset) ⊎ Fine (at_target (target_of S (room_of C) id) (λ z i. leaves_at S C id limit offset z i))
      found =
          by-target S (room_of C) id (state-sound G a l r) (λ t. Fine (leaves_of S C id limit offset) ⊎ Fine
          (at_target t (λ z i. leaves_at S C id limit offset z i))) (inr fine-none) (inr fine-tree)
          (λ n h k i. leaves-fine id n h k i limit offset)

      opened : Fine (at_target (target_of S (room_of C) id) (λ z i. leaves_at S C id limit offset z i)) → Fine (leaves_of S C id limit offset)
      opened w = unfold leaves_of in w

  -- nor one for an expansion zoom
  pub expansion-not-spoiled : (id : ℕ) → zoom_of (state_by G) (columns_by G l) id ≡ Err Spoiled → ⊥
  expansion-not-spoiled id = ⊎_elim (λ w. w) (λ w. opened w) found
    where
      found : Grows (zoom_of S C id) ⊎ Grows (zoom_at (target_of S (room_of C) id)
          (λ t i. expand S C (max_z G + 1 - (t - 1)) (Ok (origin t i)) id (t - 1) true))
      found = by-target S (room_of C) id (state-sound G a l r)
          (λ t. Grows (zoom_of S C id) ⊎ Grows (zoom_at t (λ t i. expand S C (max_z G + 1 - (t - 1)) (Ok (origin t i)) id (t - 1) true)))
          (inr grows_none) (inr grows-tree)
          (λ n h k i. zoom-grows id n h k i)

      opened : Grows (zoom_at (target_of S (room_of C) id) (λ t i. expand S C (max_z G + 1 - (t - 1)) (Ok (origin t i)) id (t - 1) true)) →
          Grows (zoom_of S C id)
      opened w = unfold zoom_of in w
