-- The expansion zoom of a cluster: from its table - 1 on it grows by one with each search for children, to max_zoom + 1 at the most, and
-- another search follows where a single cluster was found. Definitions only.
use Rattle.std.specs.Prelude.{Bool, true, false, cond, List, [], ◌∷◌, ℕ, zero, suc, ◌+◌, ◌-◌, ltb, Result, Ok, Err}
use Rattle.build_tables.specs.declared.State.{State}
use Rattle.build_tables.specs.Entries.{Table, entry}
use Rattle.refusals.specs.declared.Refusal.{Refusal}
use Rattle.refusals.specs.declared.Refusal.TheVariants.{NoCluster, Spoiled}
use Rattle.build_tables.specs.Room.{Columns, room_of}
use Rattle.ask_base.specs.Columns.{table_at}
use Rattle.ask_base.specs.Ids.{Target, origin, target_of, onward}
use Rattle.ask_child_walk.specs.Kids.{kids_at, clean_at}

-- a zoom, or a refusal
abbrev pub Expansion : Type 0
Expansion = Result ℕ Refusal

-- the children fetched at zoom z, places of the table t: none is refusal 6 for the cluster that is asked for (`first`), and 11 for another;
-- on with a sole one that is a cluster, by its id; otherwise z + 1
abbrev pub fetched : Table → List ℕ → Bool → ℕ → (ℕ → Expansion) → Expansion
fetched t [] first z on = cond first (Err NoCluster) (Err Spoiled)
fetched t (p ∷ []) first z on = cond (ltb 1 (entry t p).num) (on (entry t p).id) (Ok (z + 1))
fetched t (p ∷ q ∷ l) first z on = Ok (z + 1)

-- with the cluster id, whose origin is `to`, at zoom z; k zooms from z on are at most max_zoom. A fetch is the whole search, so that a slot
-- that names a place past the table is always met. A child cluster is looked for only where there is one more fetch.
unfoldable pub expand : State → Columns → ℕ → Target → ℕ → ℕ → Bool → Expansion
expand s c zero to id z first = Ok z
expand s c (suc k) (Ok a) id z first =
    cond (clean_at s c a.table a.place)
    (fetched (table_at s c a.table) (kids_at s c id a.table a.place) first z
    (λ v. expand s c k (onward s a.table v) v (z + 1) false))
    (Err Spoiled)
expand s c (suc k) (Err e) id z first = Err Spoiled

-- where the id leads: to a refusal, or to an entry of a table
abbrev pub zoom_at : Target → (ℕ → ℕ → Expansion) → Expansion
zoom_at (Ok a) f = f a.table a.place
zoom_at (Err e) f = Err e

-- the question: from table - 1 on, k = max_zoom + 1 - (table - 1) zooms are at most max_zoom
unfoldable pub zoom_of : State → Columns → ℕ → Expansion
zoom_of s c id =
    zoom_at (target_of s (room_of c) id)
    (λ t o. expand s c (s.options.max_zoom + 1 - (t - 1)) (Ok (origin t o)) id (t - 1) true)
