-- What a question for children comes to: the places of the entries whose parent the cluster is. Definitions only.
use Rattle.std.specs.Prelude.{cond, ℕ, Ok, Err}
use Rattle.build_tables.specs.declared.State.{State}
use Rattle.refusals.specs.declared.Refusal.TheVariants.{NoCluster}
use Rattle.ask_base.specs.Asked.{Asked, refused, told}
use Rattle.build_tables.specs.Room.{Columns, room_of}
use Rattle.ask_base.specs.Ids.{Target, target_of}
use Rattle.ask_child_walk.specs.Kids.{kids_at, clean_at, childless}

-- where the id leads: to a refusal that writes nothing, or to an entry of a table, around which the question is answered
abbrev pub at_target : Target → (ℕ → ℕ → Asked) → Asked
at_target (Ok a) f = f a.table a.place
at_target (Err e) f = refused e

-- around the entry o of zoom z's table: no children is refusal 6, after a slot that names a place past the table, and before 10
unfoldable pub children_at : State → Columns → ℕ → ℕ → ℕ → Asked
children_at s c id z o = cond (childless s c id z o) (refused NoCluster) (told (clean_at s c z o) (kids_at s c id z o))

-- the question: the children of the cluster where the id leads
unfoldable pub children_of : State → Columns → ℕ → Asked
children_of s c id = at_target (target_of s (room_of c) id) (λ z o. children_at s c id z o)
