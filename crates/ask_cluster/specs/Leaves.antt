-- The lamps of a cluster: a walk over its children as the search finds them, into each that is a cluster and is not skipped whole.
-- Definitions only.
use Rattle.std.specs.Prelude.{Bool, true, false, cond, List, [], ◌∷◌, ◌++◌, map, ℕ, zero, suc, ◌+◌, ltb, leb, eqb, length, Ok, Err}
use Rattle.build_tables.specs.declared.Entry.{Entry}
use Rattle.build_tables.specs.declared.State.{State}
use Rattle.build_tables.specs.Entries.{entry}
use Rattle.refusals.specs.declared.Refusal.TheVariants.{NoCluster}
use Rattle.ask_base.specs.Asked.{Asked, refused, told}
use Rattle.build_tables.specs.Room.{Columns, room_of}
use Rattle.ask_base.specs.Columns.{table_at}
use Rattle.ask_base.specs.Ids.{Target, target_of, onward}
use Rattle.ask_child_walk.specs.Kids.{kids_at, clean_at, childless}
use Rattle.ask_cluster.specs.Children.{at_target}

-- what a walk leaves: the lamps listed where it broke, which is refusal 11; or how many lamps are skipped, and those listed
pub data Trip : Type 0 where
  broke : List ℕ → Trip
  went : ℕ → List ℕ → Trip

-- a walk into the cluster that is named first, at its table and origin, with so many lamps skipped and these listed
abbrev pub Into : Type 0
Into = ℕ → ℕ → ℕ → ℕ → List ℕ → Trip

-- into a child cluster; one that cannot be entered breaks the walk
abbrev pub enter : Into → Target → ℕ → ℕ → List ℕ → Trip
enter into (Ok a) id n l = into id a.table a.place n l
enter into (Err e) id n l = broke l

-- a lamp is listed, with n skipped; one after N are listed breaks the walk
abbrev pub list_one : ℕ → ℕ → ℕ → List ℕ → Trip
list_one N id n l = cond (ltb (length l) N) (went n (l ++ (id ∷ []))) (broke l)

module _ (s : State) (c : Columns) (limit offset : ℕ) where
  -- the child e in zoom t's table: a cluster whose lamps all lie before the offset only adds them to skipped, any other is gone into; a
  -- lamp before the offset adds one, any other is listed
  unfoldable pub visit_child : Into → ℕ → Entry → ℕ → List ℕ → Trip
  visit_child into t e n l =
      cond (ltb 1 e.num)
      (cond (leb (n + e.num) offset) (went (n + e.num) l) (enter into (onward s t e.id) e.id n l))
      (cond (ltb n offset) (went (n + 1) l) (list_one s.count e.id n l))

  -- a level goes on with its next child, unless just as many lamps as the limit are listed by then
  abbrev pub after : Trip → (ℕ → List ℕ → Trip) → Trip
  after (broke l) next = broke l
  after (went n l) next = cond (eqb (length l) limit) (went n l) (next n l)

  -- the children one after the other; where the search was not clean, a slot that names a place past the table comes after them
  unfoldable pub steps : Into → ℕ → Bool → List Entry → ℕ → List ℕ → Trip
  steps into t clean [] n l = cond clean (went n l) (broke l)
  steps into t clean (e ∷ es) n l = after (visit_child into t e n l) (λ m r. steps into t clean es m r)

  -- a walk into a cluster with no children breaks. It goes on into larger tables only, of which there are fewer than 32: f bounds how
  -- often
  unfoldable pub leaf_walk : ℕ → Into
  leaf_walk zero id t o n l = broke l
  leaf_walk (suc f) id t o n l =
      cond (eqb (length (kids_at s c id t o)) 0) (broke l)
      (steps (leaf_walk f) t (clean_at s c t o) (map (entry (table_at s c t)) (kids_at s c id t o)) n l)

-- the lamps that a walk lists; one that broke did not go to its end
abbrev pub leaves_listed : Trip → Asked
leaves_listed (broke l) = told false l
leaves_listed (went n l) = told true l

-- the lamps of the cluster id: at most limit of them, after the first offset; the cluster that is asked for with no children is refusal 6.
-- Limit 0 lists nothing: the whole search for the children is all that is looked at, and a slot that names a place past the table is met.
unfoldable pub leaves_at : State → Columns → ℕ → ℕ → ℕ → ℕ → ℕ → Asked
leaves_at s c id limit offset t o =
    cond (childless s c id t o) (refused NoCluster)
    (cond (eqb limit 0) (told (clean_at s c t o) []) (leaves_listed (leaf_walk s c limit offset 32 id t o 0 [])))

-- the question: the lamps of the cluster where the id leads
unfoldable pub leaves_of : State → Columns → ℕ → ℕ → ℕ → Asked
leaves_of s c id limit offset = at_target (target_of s (room_of c) id) (λ t o. leaves_at s c id limit offset t o)
