-- Each way out of the listing of a plan is its definition's case. Assumes nothing.
use mathlib.Core.Path.{◌≡◌, ap, ◌∙◌}
use mathlib.Core.Bool.{true}
use mathlib.Core.List.{List, [], append-nil, flat_map}
use Prim.Native.Nat.{ℕ, ◌+◌, ◌≤◌, min}
use native.Mathlib.Omega.{arith}
use lib.ListN.{length}
use lib.Ieee.{Float}
use lib.Dec.{leb}
use Rattle.kdbush.specs.Run.{sound, whole, filled}
use Rattle.kdslots.specs.Bounds.{coords_ok}
use Rattle.kdslots.specs.laws.Bounds.{and_both, coords-is}
use Rattle.kdbush.specs.Reply.{found, index_ok}
use Rattle.build_tables.specs.laws.Columns.{from_part, back}
use Rattle.std.specs.Prelude.{Some, None, Ok, Err}
use Rattle.refusals.specs.declared.Refusal.{Refusal}
use Rattle.ask_base.specs.Answers.{Answer, fitted}
use Rattle.ask_base.specs.Asked.{answer_of, column_of}
use Rattle.ask_base.specs.laws.Filled.{filled-length}
use Rattle.kdslots.specs.declared.Query.{Query}
use Rattle.ask_box_plan.specs.declared.BoxPlan.{BoxPlan}
use Rattle.ask_box_plan.specs.laws.Queries.{seconds, queries_of}
use Rattle.ask_box.specs.Lists.{walked, planned}
use Rattle.ask_box.specs.laws.Joined.{part_of, part-all, part-past, found-length, first_past, only-first, second_past, both-whole}

module _ (p : BoxPlan) (size n : ℕ) (ids : List ℕ) (co : List Float) (out : List ℕ) where
  abbrev one : List ℕ
  one = found p.first size n ids co

  -- the answer and the column of the whole walk
  abbrev Leaves : Answer → List ℕ → Type 0
  Leaves a o =
      let w = walked n (planned (queries_of p) size n ids co) in
      (a ≡ answer_of w (length out)) × (o ≡ column_of w out)

  -- what is found after the first search
  abbrev rest : List ℕ
  rest = planned (seconds p.second) size n ids co

  -- what the first search leaves in the column
  module _ (o : List ℕ) (left : o ≡ filled (sound n one) out) where
    pub plan-past : (x : Refusal) → Err x ≡ part_of (whole n one) (length one) → Leaves (Err x) o
    unfolding flat_map
    plan-past x e =
        let h = part-past (whole n one) (length one) x e in
        let w = first_past n one rest out h.0 in
        (ap Err h.1 ∙ w.0, left ∙ w.1)

    same-room : length o ≡ length out
    same-room = ap length left ∙ filled-length (sound n one) out

    module _ (k : ℕ) (e : Ok k ≡ part_of (whole n one) (length one)) where
      pub plan-only : p.second ≡ None → (a : Answer) → a ≡ fitted k (length o) → Leaves a o
      unfolding flat_map
      plan-only f a g =
          let v = part-all (whole n one) (length one) k e in
          let w = only-first n one [] out v.0 in
          rw f (g ∙ rw (v.1, same-room) w.0, left ∙ w.1)

      -- what the second search leaves in its part, from s on
      module _ (q₂ : Query) (f : p.second ≡ Some q₂) (s : ℕ) (g : s ≡ min k (length o)) (x : List ℕ)
          (h : x ≡ filled (sound n (found q₂ size n ids co)) (from_part s o)) where
        abbrev two : List ℕ
        two = found q₂ size n ids co

        begins : s ≡ min (length one) (length out)
        begins = g ∙ rw ((part-all (whole n one) (length one) k e).1, same-room)

        put : back s o x ≡ back s (filled (sound n one) out) (filled (sound n two) (from_part s (filled (sound n one) out)))
        put = rw (h, left)

        pub plan-second-past : (y : Refusal) → Err y ≡ part_of (whole n two) (length two) → Leaves (Err y) (back s o x)
        unfolding flat_map
        plan-second-past y d =
            let h = part-past (whole n two) (length two) y d in
            let w = second_past n one two out (part-all (whole n one) (length one) k e).0 s begins h.0 in
            rw (f, append-nil two) (ap Err h.1 ∙ w.0, put ∙ w.1)

        pub plan-both : (j : ℕ) → Ok j ≡ part_of (whole n two) (length two) → (a : Answer) (m : ℕ) → m ≡ length (back s o x)
            → a ≡ fitted (k + j) m → Leaves a (back s o x)
        unfolding flat_map
        plan-both j d a m q r =
            let v = part-all (whole n one) (length one) k e in
            let u = part-all (whole n two) (length two) j d in
            let w = both-whole n one two out v.0 s begins u.0 in
            let l : length (back s o x) ≡ length out = ap length (put ∙ w.1) ∙ filled-length _ out in
            rw (f, append-nil two) (r ∙ rw (q, l, v.1, u.1) w.0, put ∙ w.1)

-- two counts fit into one
pub counts-fit : (q r : Query) (size n : ℕ) (ids : List ℕ) (co : List Float) → index_ok size n ids co ≡ true → (k j : ℕ)
    → Ok k ≡ part_of (whole n (found q size n ids co)) (length (found q size n ids co))
    → Ok j ≡ part_of (whole n (found r size n ids co)) (length (found r size n ids co)) → k + j ≤ 2097152
counts-fit q r size n ids co e k j f g =
    let one = found q size n ids co in
    let two = found r size n ids co in
    let w = coords-is size n (length co) (and_both (coords_ok size n (length co)) (leb n (length ids)) e).0 in
    let a : k ≡ length one = (part-all (whole n one) (length one) k f).1 in
    let b : j ≡ length two = (part-all (whole n two) (length two) j g).1 in
    let c : length one ≤ n = found-length q size n ids co in
    let d : length two ≤ n = found-length r size n ids co in
    omega (arith, w.n-to)
