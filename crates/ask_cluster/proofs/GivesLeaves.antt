-- How a walk over lamps makes the answer to a question for leaves: behind the column stand the lamps that the definition lists. Assumes
-- nothing.
use mathlib.Core.Bool.{Bool, true, false, cond, ◌&&◌}
use mathlib.Core.Path.{◌≡◌, refl, sym, ap, subst, ◌∙◌}
use mathlib.Core.List.{List, [], ◌∷◌}
use Prim.Native.Nat.{ℕ, suc}
use native.Mathlib.Omega.{arith}
use borrow.Author.Tests.{ne_eqb, le-leb}
use lib.Dec.{ltb, eqb}
use lib.ListN.{length}
use Rattle.kdbush.specs.Run.{filled}
use Rattle.kdslots.specs.laws.Bounds.{and_both}
use Rattle.build_tables.specs.declared.State.{State}
use Rattle.build_tables.specs.Entries.{Table, entry}
use Rattle.std.specs.Prelude.{Result, Ok, Err}
use Rattle.build_tables.specs.Room.{Columns}
use Rattle.refusals.specs.declared.Refusal.{Refusal}
use Rattle.refusals.specs.declared.Refusal.TheVariants.{NoCluster, Spoiled}
use Rattle.ask_base.specs.declared.Origin.{Origin}
use Rattle.ask_base.specs.Answers.{Answer, fitted}
use Rattle.ask_base.specs.Asked.{refused, told, answer_of, column_of}
use Rattle.ask_base.specs.Columns.{table_at}
use Rattle.ask_base.specs.Ids.{Target}
use Rattle.ask_base.specs.laws.Filled.{filled_none, filled-length}
use Rattle.ask_child_walk.specs.Kids.{kids_at, clean_at, childless}
use Rattle.ask_cluster.specs.declared.Fetched.{Fetched}
use Rattle.ask_cluster.specs.declared.Fetched.TheVariants.{Cluster, Nobody, Others}
use Rattle.ask_cluster.specs.declared.Sofar.{Sofar}
use Rattle.ask_cluster.specs.Children.{at_target}
use Rattle.ask_cluster.specs.Leaves.{broke, leaf_walk, leaves_listed, leaves_at, leaves_of}
use Rattle.ask_cluster.specs.laws.Fetch.{sole, fetched_at}
use Rattle.ask_cluster.specs.laws.Column.{Walk, BrokeBy, Behind, TellsColumn, Walked}
use Rattle.ask_cluster.proofs.Led.{Gives, gives, gives-refused, Led, leads}

-- ---- limit 0

-- what is answered of a fetch of the cluster's children
abbrev pub none_by : Result Fetched Refusal → Answer
none_by (Err e) = Err e
none_by (Ok Nobody) = Err NoCluster
none_by (Ok Others) = Ok 0
none_by (Ok (Cluster v)) = Ok 0

listed-none : (b : Bool) (room : ℕ) → b ≡ false → Ok 0 ≡ answer_of (cond b (refused NoCluster) (told true [])) room
listed-none b room e =
    sym (ap (λ (x : Bool). answer_of (cond x (refused NoCluster) (told true [])) room) e ∙ (simp (le-leb 0 room (omega arith))))

-- children that were searched for to the end, or not, as a fetch and as the answer to the question
by-fetch : (clean : Bool) (t : Table) (l : List ℕ) (room : ℕ) → none_by (cond clean (Ok (sole t l)) (Err Spoiled))
    ≡ answer_of (cond (clean && eqb (length l) 0) (refused NoCluster) (told clean [])) room
by-fetch false t l room = refl
by-fetch true t [] room = refl
by-fetch true t (p ∷ []) room = of (ltb 1 (entry t p).num) ∙ listed-none (eqb (length (p ∷ [])) 0) room refl
  where
    of : (b : Bool) → none_by (Ok (cond b (Cluster (entry t p).id) Others)) ≡ Ok 0
    of true = refl
    of false = refl
by-fetch true t (p ∷ q ∷ l) room =
    listed-none (eqb (length (p ∷ q ∷ l)) 0) room (ne_eqb (length (p ∷ q ∷ l)) 0 (λ w. omega arith))

-- that is what the definition answers, whatever the offset and the room
pub none-fetched : (s : State) (c : Columns) (id z o : ℕ) (r : Result Fetched Refusal) → r ≡ fetched_at s c id z o
    → (x : Result Fetched Refusal) → r ≡ x → (offset room : ℕ) → none_by x ≡ answer_of (leaves_at s c id 0 offset z o) room
unfolding fetched_at leaves_at
none-fetched s c id z o r e x d offset room =
    ap none_by (sym d ∙ e) ∙ by-fetch (clean_at s c z o) (table_at s c z) (kids_at s c id z o) room

-- and it writes nothing
none_written : (s : State) (c : Columns) (id offset z o : ℕ) (out : List ℕ) → column_of (leaves_at s c id 0 offset z o) out ≡ out
unfolding leaves_at
none_written s c id offset z o out = of (childless s c id z o) (clean_at s c z o)
  where
    of : (b clean : Bool) → column_of (cond b (refused NoCluster) (told clean [])) out ≡ out
    of true clean = refl
    of false clean = filled_none out

-- ---- a walk

-- a walk into a cluster with no children lists nothing
walk_none : (s : State) (c : Columns) (limit offset f id t o n : ℕ) (l : List ℕ) → childless s c id t o ≡ true
    → leaf_walk s c limit offset (suc f) id t o n l ≡ broke l
unfolding leaf_walk
walk_none s c limit offset f id t o n l h = simp (and_both (clean_at s c t o) (eqb (length (kids_at s c id t o)) 0) h).1

module _ {s : State} {c : Columns} {id cap : ℕ} {t : Target} (q : Led s c id cap t) (limit offset : ℕ) where
  pub leaves-refused : (e : Refusal) → t ≡ Err e → (out : List ℕ) → Gives (leaves_of s c id limit offset) (Err e) out out
  unfolding leaves_of
  leaves-refused e d out = gives-refused q e (λ z o. leaves_at s c id limit offset z o) d out

  module _ (a : Origin) (d : t ≡ Ok a) where
    there : leaves_of s c id limit offset ≡ leaves_at s c id limit offset a.table a.place
    unfolding leaves_of
    there = ap (λ (x : Target). at_target x (λ z o. leaves_at s c id limit offset z o)) (leads q (Ok a) d)

    -- limit 0: the answer of a fetch, and nothing is written
    pub gives_none : limit ≡ 0 → (out : List ℕ) (r : Answer)
        → ((offset room : ℕ) → r ≡ answer_of (leaves_at s c id 0 offset a.table a.place) room)
        → Gives (leaves_of s c id limit offset) r out out
    gives_none m out r u =
        gives (leaves_of s c id limit offset) (leaves_at s c id 0 offset a.table a.place) r out out
        (there ∙ ap (λ (n : ℕ). leaves_at s c id n offset a.table a.place) m)
        (u offset (length out), sym (none_written s c id offset a.table a.place out))

    module _ (m : limit ≡ 0 → ⊥) (r : Walk) (out out' : List ℕ) (w : Walked s c limit offset id a.table a.place 0 0 out r out') where
      -- a cluster that has children is answered by the walk
      went-in : childless s c id a.table a.place ≡ false
          → leaves_of s c id limit offset ≡ leaves_listed (leaf_walk s c limit offset 32 id a.table a.place 0 [])
      unfolding leaves_at
      went-in b = there ∙ (simp (b, ne_eqb limit 0 m))

      tells : (x : Walk) → r ≡ x → TellsColumn out out' x (leaf_walk s c limit offset 32 id a.table a.place 0 [])
      tells x v =
          let b : Behind out [] 0 out = record { count = refl; left = sym (filled_none out) } in
          subst (λ (y : Walk). TellsColumn out out' y (leaf_walk s c limit offset 32 id a.table a.place 0 [])) v
          (w.trip 32 (omega arith) out [] b)

      empty : (x : Walk) → r ≡ x → BrokeBy (childless s c id a.table a.place) x
      empty x v = subst (BrokeBy (childless s c id a.table a.place)) v w.empty

      pub gives-refused-walk : (x : Refusal) → r ≡ Err x → Gives (leaves_of s c id limit offset) (Err x) out out'
      unfolding leaves_at
      gives-refused-walk x v = go (childless s c id a.table a.place) refl
        where
          go : (b : Bool) → childless s c id a.table a.place ≡ b → Gives (leaves_of s c id limit offset) (Err x) out out'
          go true e =
              let b = tells (Err x) v in
              let y : broke b.lamps ≡ broke [] = sym b.trip ∙ walk_none s c limit offset 31 id a.table a.place 0 [] e in
              let n : b.lamps ≡ [] = cc in
              let k : x ≡ NoCluster = empty (Err x) v ∙ ap (λ (i : Bool). cond i NoCluster Spoiled) e in
              gives (leaves_of s c id limit offset) (refused NoCluster) (Err x) out out' (there ∙ simp e)
              (ap Err k, b.left ∙ ap (λ (l : List ℕ). filled l out) n ∙ filled_none out)
          go false e =
              let b = tells (Err x) v in
              let k : x ≡ Spoiled = empty (Err x) v ∙ ap (λ (i : Bool). cond i NoCluster Spoiled) e in
              gives (leaves_of s c id limit offset) (told false b.lamps) (Err x) out out'
              (went-in e ∙ ap leaves_listed b.trip) (ap Err k, b.left)

      pub gives-went : (so : Sofar) → r ≡ Ok so → (b : Answer) → b ≡ fitted so.listed (length out')
          → Gives (leaves_of s c id limit offset) b out out'
      gives-went so v b u =
          let k = tells (Ok so) v in
          let y : length out' ≡ length out = ap length k.left ∙ filled-length k.lamps out in
          gives (leaves_of s c id limit offset) (told true k.lamps) b out out'
          (went-in (empty (Ok so) v) ∙ ap leaves_listed k.trip)
          (u ∙ ap (λ (x : ℕ). fitted x (length out')) k.count ∙ ap (fitted (length k.lamps)) y, k.left)
