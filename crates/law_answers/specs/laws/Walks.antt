-- A walk over the lamps of a cluster of an accepted build, whatever is said of what it skips and lists: what holds of no lamps, of lamps
-- that are skipped, of one that is listed, and of some lamps and then more, holds of the whole walk over the cluster's lamps, in their
-- order. Assumes nothing.
use Rattle.std.specs.Prelude.{◌≡◌, Bool, true, false, cond, eqb}
use Rattle.std.proofs.Math.Path.{refl, ap, subst}
use Rattle.std.proofs.Common.{ap₂, sym, ◌∙◌, inl, inr, arith}
use Rattle.std.proofs.Math.Logic.{⊎_elim}
use mathlib.Core.List.{List, [], ◌∷◌, ◌++◌, map}
use Prim.Native.Nat.{ℕ, zero, suc, ◌+◌, ◌<◌, ◌≤◌}
use borrow.Author.Tests.{lt-ltb, le-ltb, le-leb, lt-leb, ne_eqb, eqb-true, eqb-false}
use Rattle.std.proofs.Math.ListN.{length, length-append}
use Rattle.kdslots.specs.laws.All.{All, AllBelow}
use Rattle.kdslots.specs.Keep.{put, keep}
use Rattle.build_tables.specs.declared.Entry.{Entry}
use Rattle.build_tables.specs.declared.State.{State}
use Rattle.build_tables.specs.laws.Bounds.{options-are}
use Rattle.build_tables.specs.Entries.{Table, entry}
use Rattle.build_tables.specs.Ids.{origin_of, table_of}
use Rattle.build_one_zoom.specs.laws.Keeps.{all-at}
use Rattle.build_one_zoom.specs.laws.Sound.{Body}
use Rattle.law_groups.specs.laws.Sums.{below}
use Rattle.build_tables.specs.Room.{Columns}
use Rattle.ask_base.specs.Columns.{table_at}
use Rattle.ask_base.specs.Ids.{Target}
use Rattle.ask_child_walk.specs.Kids.{kids_at}
use Rattle.ask_cluster.specs.Leaves.{Trip, went, enter, visit_child, after, steps, leaf_walk}
use Rattle.supercluster.specs.Build.{BuildColumns, need}
use Rattle.supercluster.specs.laws.Load.{Holds}
use Rattle.law_builds.specs.Given.{Given, AcceptedBuild, points, min_z, max_z}
use Rattle.law_builds.specs.Came.{table_of_zoom as built}
use Rattle.law_builds.specs.Identities.{Known, identities}
use Rattle.law_builds.specs.RightAt.{right-at}
use Rattle.law_lamps.specs.Owner.{gather, lamps_of, members_of}
use Rattle.law_lamps.specs.laws.Carries.{lamps-long}
use Rattle.law_lamps.specs.laws.Copies.{clustered, lamps-of-lamp}
use Rattle.law_answers.specs.laws.Stored.{state_by, columns_by, table_is}
use Rattle.law_answers.specs.laws.Children.{around-below}
use Rattle.law_answers.specs.laws.Clusters.{above, top, onward-is, no-spoiled-slot, kids-are, two-members}

-- what is kept of a list has what each of the list has, and passes the test
pub all_keep : (P : ℕ → Type 0) (p : ℕ → Bool) (ks : List ℕ) → All P ks → All P (keep p ks)
unfolding All
all_keep P p [] w = tt
all_keep P p (k ∷ ks) w = go (p k) (all_keep P p ks w.1)
  where
    go : (b : Bool) → All P (keep p ks) → All P (put b k (keep p ks))
    go true v = (w.0, v)
    go false v = v

pub keep-passes : (p : ℕ → Bool) (ks : List ℕ) → All (λ k. p k ≡ true) (keep p ks)
unfolding All
keep-passes p [] = tt
keep-passes p (k ∷ ks) = go (p k) refl (keep-passes p ks)
  where
    go : (b : Bool) → p k ≡ b → All (λ k. p k ≡ true) (keep p ks) → All (λ k. p k ≡ true) (put b k (keep p ks))
    go true e v = (e, v)
    go false e v = v

-- what is said of a walk that has skipped n lamps and listed out, may go on where May says, and comes to t after the lamps ls: R n out ls t
pub record Rules (limit offset : ℕ) (May : ℕ → List ℕ → Type 0) (R : ℕ → List ℕ → List ℕ → Trip → Type 0) : Type 0 where
  -- it does not break
  pub whole : (n : ℕ) (out ls : List ℕ) (t : Trip) → R n out ls t → (m : ℕ) × (p : List ℕ) × (t ≡ went m p)
  -- no lamps, lamps that are skipped, one that is listed
  pub none : (n : ℕ) (out : List ℕ) → May n out → R n out [] (went n out)
  pub skip : (n : ℕ) (out ls : List ℕ) → May n out → 1 ≤ length ls → n + length ls ≤ offset → R n out ls (went (n + length ls) out)
  pub list : (n : ℕ) (out : List ℕ) (id : ℕ) → May n out → offset ≤ n → R n out (id ∷ []) (went n (out ++ (id ∷ [])))
  -- some, and then more: the walk stops where the limit is reached, otherwise it goes on
  pub stop : (n : ℕ) (out ls ms : List ℕ) (m : ℕ) (p : List ℕ) → May n out → 1 ≤ length ls → R n out ls (went m p) → length p ≡ limit →
      R n out (ls ++ ms) (went m p)
  pub go : (n : ℕ) (out ls : List ℕ) (m : ℕ) (p : List ℕ) → May n out → 1 ≤ length ls → R n out ls (went m p) → (length p ≡ limit → ⊥) →
      May m p × (length p ≤ length out + length ls)
  pub more : (n : ℕ) (out ls ms : List ℕ) (m : ℕ) (p : List ℕ) (t : Trip) → May n out → 1 ≤ length ls → R n out ls (went m p) →
      (length p ≡ limit → ⊥) → R m p ms t → R n out (ls ++ ms) t

module _ (G : Given) (a : AcceptedBuild G) (l : BuildColumns) (r : Holds (need G.options (points G)) l) (limit offset : ℕ)
    (May : ℕ → List ℕ → Type 0) (R : ℕ → List ℕ → List ℕ → Trip → Type 0) (rules : Rules limit offset May R) where
  abbrev S : State
  S = state_by G

  abbrev C : Columns
  C = columns_by G l

  -- a walk into the cluster at j of table z, in a definition that may go g tables on
  abbrev walk_into : ℕ → ℕ → ℕ → ℕ → List ℕ → Trip
  walk_into g z j n out =
      let id = (entry (built G z) j).id in
      leaf_walk (state_by G) (columns_by G l) limit offset g id (table_of (points G) id) (origin_of (points G) id) n out

  abbrev Walks : ℕ → Type 0
  Walks g =
      (z j : ℕ) → min_z G ≤ z → z ≤ max_z G + 1 → j < length (built G z) → points G ≤ (entry (built G z) j).id →
      32 ≤ g + table_of (points G) (entry (built G z) j).id →
      (n : ℕ) (out : List ℕ) → May n out → length out + length (lamps_of G z j) ≤ points G → R n out (lamps_of G z j) (walk_into g z j n out)

  -- ---- one child: the entry at j of table z

  module _ (g z j : ℕ) (ih : Walks g) (h : min_z G ≤ z) (k : z ≤ max_z G + 1) (q : j < length (built G z)) (deep : 32 ≤ g + suc z) (n : ℕ)
      (out : List ℕ) (ok : May n out) (room : length out + length (lamps_of G z j) ≤ points G) where
    abbrev E : Entry
    E = entry (built G z) j

    abbrev visited : Trip
    visited =
        visit_child (state_by G) (columns_by G l) limit offset (leaf_walk (state_by G) (columns_by G l) limit offset g) z
        (entry (built G z) j) n out

    abbrev Visits : Type 0
    Visits = R n out (lamps_of G z j) visited

    long : (entry (built G z) j).num ≡ length (lamps_of G z j)
    long = lamps-long G a z h k j q

    by-trip : (t : Trip) (ls : List ℕ) → visited ≡ t → lamps_of G z j ≡ ls → R n out ls t → Visits
    by-trip t ls e d w = subst (λ (x : Trip). R n out (lamps_of G z j) x) (sym e) (subst (λ (x : List ℕ). R n out x t) (sym d) w)

    lamp-visit : (entry (built G z) j).id < points G → (entry (built G z) j).num ≡ 1 → Visits
    unfolding visit_child
    lamp-visit b one = ⊎_elim skipped there (below n offset)
      where
        is : lamps_of G z j ≡ (entry (built G z) j).id ∷ []
        is = lamps-of-lamp G a z h k j q b

        skipped : n < offset → Visits
        skipped w = by-trip (went (n + 1) out) (E.id ∷ []) (rw (one, lt-ltb n offset w)) is
            (rules.skip n out (E.id ∷ []) ok (omega arith) (omega arith))

        there : offset ≤ n → Visits
        there w =
            let lr : length out < points G = (let m = ap length is in omega arith) in
            by-trip (went n (out ++ (E.id ∷ []))) (E.id ∷ []) (rw (one, le-ltb n offset w, lt-ltb (length out) (points G) lr)) is
            (rules.list n out E.id ok w)

    cluster-visit : points G ≤ (entry (built G z) j).id → 2 ≤ (entry (built G z) j).num → Visits
    unfolding visit_child
    cluster-visit b many = ⊎_elim (λ w. entered w) (λ w. skipped w) (below offset (n + E.num))
      where
        skipped : n + (entry (built G z) j).num ≤ offset → Visits
        skipped w =
            by-trip (went (n + length (lamps_of G z j)) out) (lamps_of G z j)
            (rw (lt-ltb 1 E.num (omega arith), le-leb (n + E.num) offset w) (ap (λ (m : ℕ). went (n + m) out) long))
            refl (let e = long in rules.skip n out (lamps_of G z j) ok (omega arith) (omega arith))

        entered : offset < n + (entry (built G z) j).num → Visits
        entered w =
            by-trip (walk_into g z j n out) (lamps_of G z j)
            (rw (lt-ltb 1 E.num (omega arith), lt-leb (n + E.num) offset w)
            (ap (λ (t : Target). enter (leaf_walk S C limit offset g) t E.id n out) (onward-is G a l r z j h k q b z (omega arith))))
            refl (ih z j h k q b (let t = above G a l r z j h k q b in omega arith) n out ok room)

    visit-is : Visits
    visit-is = by (identities G a z h k j q)
      where
        by : Known G z (entry (built G z) j) → Visits
        by (inl w) = lamp-visit w.below w.num
        by (inr w) = cluster-visit w.above w.many

    -- it has a lamp
    some : 1 ≤ length (lamps_of G z j)
    some = let e = long in let w = (all-at Body (built G z) j (right-at G a z h k).unit q).2 in omega arith

  -- ---- the children of a cluster one after the other

  abbrev steps_over : ℕ → ℕ → List ℕ → ℕ → List ℕ → Trip
  steps_over g t ks n out =
      steps (state_by G) (columns_by G l) limit offset (leaf_walk (state_by G) (columns_by G l) limit offset g) t true
      (map (entry (built G t)) ks) n out

  steps-are : (g t : ℕ) → Walks g → min_z G ≤ t → t ≤ max_z G + 1 → 32 ≤ g + suc t → (ks : List ℕ) → AllBelow (length (built G t)) ks →
      (n : ℕ) (out : List ℕ) → May n out →
      length out + length (gather (λ k. lamps_of G t k) ks) ≤ points G → R n out (gather (λ k. lamps_of G t k) ks) (steps_over g t ks n out)
  unfolding steps All
  steps-are g t ih h k deep [] w n out ok room = rules.none n out ok
  steps-are g t ih h k deep (j ∷ ks) w n out ok room =
      let d = length-append L M in
      let v = visit-is g t j ih h k w.0 deep n out ok (omega arith) in
      let s = some g t j ih h k w.0 deep n out ok (omega arith) in
      let x = rules.whole n out L X v in
      subst (λ (y : Trip). R n out (L ++ M) (after S C limit offset y (λ m p. steps_over g t ks m p))) (sym x.2)
      (on x.0 x.1 s (subst (λ (y : Trip). R n out L y) x.2 v) (eqb (length x.1) limit) refl
      (λ c e. steps-are g t ih h k deep ks w.1 x.0 x.1 c e))
    where
      L : List ℕ
      L = lamps_of G t j

      M : List ℕ
      M = gather (λ k. lamps_of G t k) ks

      X : Trip
      X = visit_child S C limit offset (leaf_walk S C limit offset g) t (entry (built G t) j) n out

      on : (m : ℕ) (p : List ℕ) → 1 ≤ length L → R n out L (went m p) → (b : Bool) → eqb (length p) limit ≡ b →
          (May m p → length p + length M ≤ points G → R m p M (steps_over g t ks m p))
          → R n out (L ++ M) (cond b (went m p) (steps_over g t ks m p))
      on m p s v true e rec = rules.stop n out L M m p ok s v (eqb-true _ _ e)
      on m p s v false e rec =
          let c = rules.go n out L m p ok s v (eqb-false _ _ e) in
          let d = length-append L M in
          rules.more n out L M m p (steps_over g t ks m p) ok s v (eqb-false _ _ e) (rec c.0 (let u = c.1 in omega arith))

  -- ---- a walk

  pub walks : (g : ℕ) → Walks g
  unfolding leaf_walk
  walks zero z j h k q b deep n out ok room =
      absurd (let t = top G a l r z j h k q b in let m = (options-are G.options a.options).zoom-to in omega arith)
  walks (suc g) z j h k q b deep n out ok room =
      subst (λ (x : Trip). R n out (lamps_of G z j) x) (sym opened)
      (subst (λ (x : List ℕ). R n out x (steps_over g T (members_of G Id) n out)) (sym is)
      (steps-are g T (walks g) low up (omega arith) (members_of G Id) within n out ok (let e = ap length is in omega arith)))
    where
      Id : ℕ
      Id = (entry (built G z) j).id

      T : ℕ
      T = table_of (points G) Id

      I : ℕ
      I = origin_of (points G) Id

      low : min_z G ≤ T
      low = let t = above G a l r z j h k q b in omega arith

      up : T ≤ max_z G + 1
      up = top G a l r z j h k q b

      is : lamps_of G z j ≡ gather (λ i. lamps_of G T i) (members_of G Id)
      is = (clustered G a z h k j q b).lamps

      within : AllBelow (length (built G T)) (members_of G Id)
      within =
          all_keep (λ (i : ℕ). i < length (built G T)) _ _
          (around-below G a l r T I (let t = above G a l r z j h k q b in omega arith) up)

      opened : walk_into (suc g) z j n out ≡ steps_over g T (members_of G Id) n out
      opened =
          rw (ne_eqb (length (kids_at S C Id T I)) 0 (λ e. let w =
          two-members G a l r z j h k q b in let v = ap length (kids-are G a l r z j h k q b) in omega arith))
          (ap (λ (c : Bool). steps S C limit offset (leaf_walk S C limit offset g) T c
          (map (entry (table_at S C T)) (kids_at S C Id T I)) n out) (no-spoiled-slot G a l r z j h k q b)
          ∙ ap₂ (λ (t : Table) (ks : List ℕ). steps S C limit offset (leaf_walk S C limit offset g) T true (map (entry t) ks) n out)
          (table_is G a l r T low up) (kids-are G a l r z j h k q b))
