-- How the children of a ring, listed in a column of one, make a fetch. Assumes nothing.
use mathlib.Core.Bool.{Bool, cond}
use mathlib.Core.Path.{◌≡◌, refl, sym, ap, ◌∙◌}
use mathlib.Core.List.{List, [], ◌∷◌}
use Prim.Native.Nat.{ℕ, ◌<◌, ◌≤◌}
use native.Mathlib.Omega.{arith}
use borrow.Author.Tests.{lt-ltb, le-ltb}
use lib.ListN.{length, get_or}
use Rattle.std.specs.Prelude.{Ok, Err}
use Rattle.kdbush.specs.Run.{filled}
use Rattle.build_tables.specs.declared.Entry.{Entry}
use Rattle.build_tables.specs.declared.State.{State}
use Rattle.build_tables.specs.State.{len_of}
use Rattle.build_tables.specs.Entries.{Table, entry}
use Rattle.build_tables.specs.Room.{Columns}
use Rattle.refusals.specs.declared.Refusal.{Refusal}
use Rattle.refusals.specs.declared.Refusal.TheVariants.{Spoiled}
use Rattle.ask_base.specs.Answers.{Answer}
use Rattle.ask_base.specs.Columns.{table_at}
use Rattle.ask_child_walk.specs.Kids.{kids_at}
use Rattle.ask_child_walk.specs.laws.Next.{kids-below}
use Rattle.ask_cluster.specs.declared.Fetched.{Fetched}
use Rattle.ask_cluster.specs.declared.Fetched.TheVariants.{Cluster, Nobody, Others}
use Rattle.ask_cluster.specs.laws.Fetch.{sole, fetched_at}
use Rattle.ask_cluster.proofs.Led.{none_is, Looked, looked-refused, looked-all}

sole-is : (l : List ℕ) → length l ≡ 1 → l ≡ get_or (filled l (0 ∷ [])) 0 0 ∷ []
sole-is [] e = absurd (omega arith)
sole-is (a ∷ []) e = refl
sole-is (a ∷ b ∷ l) e = absurd (omega arith)

many-are : (t : Table) (l : List ℕ) → 1 < length l → sole t l ≡ Others
many-are t [] h = absurd (omega arith)
many-are t (a ∷ []) h = absurd (omega arith)
many-are t (a ∷ b ∷ l) h = refl

module _ {s : State} {c : Columns} {id t o : ℕ} {r : Answer} {out : List ℕ} (q : Looked s c id t o (0 ∷ []) r out) where
  abbrev K : List ℕ
  K = kids_at s c id t o

  pub fetch-refused : (x : Refusal) → r ≡ Err x → Err x ≡ fetched_at s c id t o
  unfolding fetched_at
  fetch-refused x v = let h = looked-refused q x v in ap Err h.1 ∙ sym (simp h.0)

  module _ (n : ℕ) (v : r ≡ Ok n) where
    all : n ≡ length K
    all = (looked-all q n v).1

    went : fetched_at s c id t o ≡ Ok (sole (table_at s c t) K)
    unfolding fetched_at
    went = ap (λ (b : Bool). cond b (Ok (sole (table_at s c t) K)) (Err Spoiled)) (looked-all q n v).0

    found : (x : Fetched) → sole (table_at s c t) K ≡ x → Ok x ≡ fetched_at s c id t o
    found x e = sym (went ∙ ap Ok e)

    pub fetch-nobody : n ≡ 0 → Ok Nobody ≡ fetched_at s c id t o
    fetch-nobody m = found Nobody (ap (sole (table_at s c t)) (none_is K (sym all ∙ m)))

    pub fetch-others : 1 < n → Ok Others ≡ fetched_at s c id t o
    fetch-others m = found Others (many-are (table_at s c t) K (omega (arith, m, all)))

    module _ (a : n ≡ 0 → ⊥) (b : n ≤ 1) where
      one : K ≡ get_or out 0 0 ∷ []
      one =
          let m : n ≡ 1 = omega arith in
          sole-is K (sym all ∙ m) ∙ ap (λ (l : List ℕ). get_or l 0 0 ∷ []) (sym q.column)

      -- the sole child is a place of the table
      pub fetch-below : get_or out 0 0 < len_of s t
      unfolding kids_at
      fetch-below = kids-below (table_at s c t) id (len_of s t) _ (get_or out 0 0) [] one

      only : sole (table_at s c t) K ≡ sole (table_at s c t) (get_or out 0 0 ∷ [])
      only = ap (sole (table_at s c t)) one

      module _ (e : Entry) (i : e ≡ entry (table_at s c t) (get_or out 0 0)) where
        pub fetch-cluster : 1 < e.num → Ok (Cluster e.id) ≡ fetched_at s c id t o
        fetch-cluster m =
            let y : 1 < (entry (table_at s c t) (get_or out 0 0)).num = omega (arith, m, ap (λ (x : Entry). x.num) i) in
            found (Cluster e.id) (only ∙ (simp (lt-ltb _ _ y)) ∙ ap (λ (x : Entry). Cluster x.id) (sym i))

        pub fetch-lamp : e.num ≤ 1 → Ok Others ≡ fetched_at s c id t o
        fetch-lamp m =
            let y : (entry (table_at s c t) (get_or out 0 0)).num ≤ 1 = omega (arith, m, ap (λ (x : Entry). x.num) i) in
            found Others (only ∙ simp (le-ltb _ _ y))
