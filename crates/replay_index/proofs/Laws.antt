-- Laws of the comparisons, over plain values. Assumes nothing.
use Prim.Native.Nat.{ℕ, suc, ◌+◌, ◌-◌, ◌≤◌, ◌<◌}
use native.Mathlib.Omega.{arith}
use mathlib.Core.Bool.{Bool, true, false}
use mathlib.Core.List.{List}
use mathlib.Core.Path.{◌≡◌, refl, sym, subst}
use borrow.Author.Tests.{lt-ltb, le-ltb, eq-eqb, ne_eqb}
use lib.ListN.{length, get_or}
use lib.Ieee.{Float}
use Rattle.std.specs.Prelude.{Result}
use Rattle.std.specs.Result.{is_ok}
use Rattle.kdslots.specs.declared.Query.{Query}
use Rattle.refusals.specs.declared.Refusal.{Refusal}
use Rattle.kdbush.specs.Reply.{index_checked, built, searched, column_after}
use Rattle.kdwalk.specs.Reply.{Step, first_step, after_step}
use Rattle.kdsort.specs.Cols.{index_cols}
use Rattle.replay_vectors.specs.Same.{same_places, same_floats}
use Rattle.replay_index.specs.Same.{builds_to, found_is, index_lists_to, slot_of, over_is, walked_slots, walks_to}

-- a walk of m steps, before its step i, and the slot that this step has
module _ (next : ℕ → Step) (ids want : List ℕ) (m i : ℕ) (step : Step) (s : ℕ) (e : s ≡ slot_of step (length ids)) (l : i < m) where
  -- one step further: m - i is not zero
  left : m - i ≡ suc (m - (i + 1))
  left = omega arith

  pub walk_none : length ids ≤ s → walked_slots next ids want (m - i) i step ≡ false
  unfolding walked_slots
  walk_none h = rw left (simp (le-ltb (slot_of step (length ids)) (length ids) (subst (λ (x : ℕ). length ids ≤ x) e h)))

  pub walk-other : s < length ids → (get_or ids s 0 ≡ get_or want i 0 → ⊥) → walked_slots next ids want (m - i) i step ≡ false
  unfolding walked_slots
  walk-other h d = rw (left, sym e) (simp (lt-ltb s (length ids) h, ne_eqb _ _ d))

  pub walk_more : s < length ids → get_or ids s 0 ≡ get_or want i 0
      → walked_slots next ids want (m - i) i step ≡ walked_slots next ids want (m - (i + 1)) (i + 1) (next s)
  unfolding walked_slots
  walk_more h d = rw (left, sym e) (simp (lt-ltb s (length ids) h, eq-eqb _ _ d))

-- where a walk begins, and where it ends
pub walk-starts : (q : Query) (size n : ℕ) (ids : List ℕ) (co : List Float) (m : ℕ) (want : List ℕ) (step : Step)
    → step ≡ first_step q size n co →
    walked_slots (after_step q size n co) ids want (m - 0) 0 step ≡ walks_to q size n ids co m want
unfolding walks_to
walk-starts q size n ids co m want step e = let z : m - 0 ≡ m = omega arith in rw (z, e) refl

pub walk_ends : (next : ℕ → Step) (ids want : List ℕ) (m i : ℕ) (step : Step) → m ≤ i
    → walked_slots next ids want (m - i) i step ≡ over_is step
unfolding walked_slots
walk_ends next ids want m i step h = let z : m - i ≡ 0 = omega arith in rw z refl

-- a query's list: a reply that is not the one expected, and one that is
module _ (q : Query) (size n : ℕ) (ids : List ℕ) (co : List Float) (m : ℕ) (want out : List ℕ) (r : Result ℕ Refusal)
    (e : r ≡ searched q size n ids co (length out)) where
  pub lists-none : found_is r m ≡ false → false ≡ index_lists_to q size n ids co m want out
  unfolding index_lists_to
  lists-none h = rw (sym e, h) refl

  pub lists-some : found_is r m ≡ true → (o : List ℕ) → o ≡ column_after q size n ids co out → (b : Bool) → b ≡ same_places want o
      → b ≡ index_lists_to q size n ids co m want out
  unfolding index_lists_to
  lists-some h o f b g = rw (sym e, h, sym f) g

-- a build: refused, with other ids, and with the ids expected
module _ (size : ℕ) (xs ys : List Float) (wi : List ℕ) (wc : List Float) (ids : List ℕ) (co : List Float) (r : Result (Unit {0}) Refusal)
    (e : r ≡ index_checked size xs ys (index_cols ids co)) where
  pub builds-none : is_ok r ≡ false → false ≡ builds_to size xs ys wi wc ids co
  unfolding builds_to
  builds-none h = rw (sym e, h) refl

  module _ (h : is_ok r ≡ true) (i : List ℕ) (c : List Float) (f : index_cols i c ≡ built size xs ys (index_cols ids co)) where
    pub builds-other : same_places wi i ≡ false → false ≡ builds_to size xs ys wi wc ids co
    unfolding builds_to
    builds-other g = rw (sym f) (rw (sym e, h, g) refl)

    pub builds-ids : same_places wi i ≡ true → (b : Bool) → b ≡ same_floats wc c → b ≡ builds_to size xs ys wi wc ids co
    unfolding builds_to
    builds-ids g b k = rw (sym f) (rw (sym e, h, g) k)
