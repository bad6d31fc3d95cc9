-- How the children that are found make the answer to a question for children. Assumes nothing.
use mathlib.Core.Bool.{true, false}
use mathlib.Core.Path.{◌≡◌, refl, sym, ap, ◌∙◌}
use mathlib.Core.List.{List}
use Prim.Native.Nat.{ℕ}
use borrow.Author.Tests.{eq-eqb, ne_eqb}
use lib.ListN.{length}
use Rattle.std.specs.Prelude.{Ok, Err}
use Rattle.kdbush.specs.Run.{filled}
use Rattle.build_tables.specs.declared.State.{State}
use Rattle.build_tables.specs.Room.{Columns}
use Rattle.refusals.specs.declared.Refusal.{Refusal}
use Rattle.refusals.specs.declared.Refusal.TheVariants.{NoCluster}
use Rattle.ask_base.specs.declared.Origin.{Origin}
use Rattle.ask_base.specs.Answers.{Answer, fitted}
use Rattle.ask_base.specs.Asked.{refused, told}
use Rattle.ask_base.specs.Ids.{Target}
use Rattle.ask_base.specs.laws.Filled.{filled_none, filled-length}
use Rattle.ask_child_walk.specs.Kids.{kids_at}
use Rattle.ask_cluster.specs.Children.{at_target, children_at, children_of}
use Rattle.ask_cluster.proofs.Led.{Gives, gives, gives-refused, Led, leads, none_is, Looked, looked-refused, looked-all}

module _ {s : State} {c : Columns} {id cap : ℕ} {t : Target} (q : Led s c id cap t) where
  pub children-refused : (e : Refusal) → t ≡ Err e → (out : List ℕ) → Gives (children_of s c id) (Err e) out out
  unfolding children_of
  children-refused e d out = gives-refused q e (λ z o. children_at s c id z o) d out

  module _ (a : Origin) (d : t ≡ Ok a) {r : Answer} {out out' : List ℕ} (w : Looked s c id a.table a.place out r out') where
    abbrev K : List ℕ
    K = kids_at s c id a.table a.place

    there : children_of s c id ≡ children_at s c id a.table a.place
    unfolding children_of
    there = ap (λ (x : Target). at_target x (λ z o. children_at s c id z o)) (leads q (Ok a) d)

    pub gives-spoiled : (x : Refusal) → r ≡ Err x → Gives (children_of s c id) (Err x) out out'
    unfolding children_at
    gives-spoiled x v =
        let h = looked-refused w x v in
        gives (children_of s c id) (told false K) (Err x) out out' (there ∙ simp h.0) (ap Err h.1, w.column)

    module _ (n : ℕ) (v : r ≡ Ok n) where
      pub gives_none : n ≡ 0 → Gives (children_of s c id) (Err NoCluster) out out'
      unfolding children_at
      gives_none m =
          let h = looked-all w n v in
          let k : length K ≡ 0 = sym h.1 ∙ m in
          gives (children_of s c id) (refused NoCluster) (Err NoCluster) out out' (there ∙ simp (h.0, eq-eqb _ _ k))
          (refl, w.column ∙ ap (λ (l : List ℕ). filled l out) (none_is _ k) ∙ filled_none out)

      pub gives-some : (n ≡ 0 → ⊥) → (b : Answer) → b ≡ fitted n (length out') → Gives (children_of s c id) b out out'
      unfolding children_at
      gives-some m b u =
          let h = looked-all w n v in
          let k : length K ≡ 0 → ⊥ = λ x. m (h.1 ∙ x) in
          let y : length out' ≡ length out = ap length w.column ∙ filled-length K out in
          gives (children_of s c id) (told true K) b out out' (there ∙ simp (h.0, ne_eqb _ _ k))
          (u ∙ ap (λ (x : ℕ). fitted x (length out')) h.1 ∙ ap (fitted (length K)) y, w.column)
