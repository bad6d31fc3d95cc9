-- What the comparisons are: of a build, of a query's list and of the cursor's walk with what is expected. Definitions only.
use Rattle.std.specs.Prelude.{ℕ, zero, suc, ◌+◌, Bool, true, false, ◌&&◌, List, eqb, ltb, length, get_or, Float}
use Rattle.std.specs.Prelude.{None, Some, Result, Ok, Err}
use Rattle.std.specs.Result.{is_ok}
use Rattle.replay_vectors.specs.Same.{same_places, same_floats}
use Rattle.replay_vectors.specs.declared.Function.{Function}
use Rattle.replay_vectors.specs.declared.Function.TheVariants.{Range as Function-as-Range, Within as Function-as-Within}
use Rattle.kdsort.specs.Cols.{index_cols}
use Rattle.kdslots.specs.declared.Query.{Query}
use Rattle.kdslots.specs.declared.Query.TheVariants.{Range, Within}
use Rattle.refusals.specs.declared.Refusal.{Refusal}
use Rattle.kdbush.specs.Reply.{index_checked, built, searched, column_after}
use Rattle.kdwalk.specs.Reply.{Step, first_step, after_step}

-- a build that is not refused, and comes out as the columns expected
unfoldable pub builds_to : ℕ → List Float → List Float → List ℕ → List Float → List ℕ → List Float → Bool
builds_to size xs ys want_ids want_co ids co =
    is_ok (index_checked size xs ys (index_cols ids co)) &&
    (same_places want_ids (built size xs ys (index_cols ids co)).ids && same_floats want_co (built size xs ys (index_cols ids co)).co)

-- a search that finds m places, and leaves the column expected
abbrev pub found_is : Result ℕ Refusal → ℕ → Bool
found_is (Ok k) m = eqb k m
found_is (Err e) m = false

unfoldable pub index_lists_to : Query → ℕ → ℕ → List ℕ → List Float → ℕ → List ℕ → List ℕ → Bool
index_lists_to q size n ids co m want out =
    found_is (searched q size n ids co (length out)) m && same_places want (column_after q size n ids co out)

-- the slot of a step, and the end of a walk
abbrev pub slot_of : Step → ℕ → ℕ
slot_of (Ok (Some s)) none = s
slot_of (Ok None) none = none
slot_of (Err e) none = none

abbrev pub over_is : Step → Bool
over_is (Ok (Some s)) = false
over_is (Ok None) = true
over_is (Err e) = false

-- from a step on: k more slots, in which the ids are those expected from i on, and then the end
unfoldable pub walked_slots : (ℕ → Step) → List ℕ → List ℕ → ℕ → ℕ → Step → Bool
walked_slots next ids want zero i step = over_is step
walked_slots next ids want (suc k) i step =
    let s = slot_of step (length ids) in
    ltb s (length ids) && (eqb (get_or ids s 0) (get_or want i 0) && walked_slots next ids want k (i + 1) (next s))

unfoldable pub walks_to : Query → ℕ → ℕ → List ℕ → List Float → ℕ → List ℕ → Bool
walks_to q size n ids co m want = walked_slots (after_step q size n co) ids want m 0 (first_step q size n co)

-- whose list a query asks for
abbrev pub function_of : Query → Function
function_of (Range a b c d) = Function-as-Range
function_of (Within a b c) = Function-as-Within
