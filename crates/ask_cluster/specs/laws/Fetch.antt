-- What the private `fetch` says of the children of a cluster, as far as its callers go by them. Definitions only.
use Rattle.std.specs.Prelude.{cond, List, [], ◌∷◌, ℕ, ltb, Result, Ok, Err}
use Rattle.build_tables.specs.declared.State.{State}
use Rattle.build_tables.specs.Entries.{Table, entry}
use Rattle.build_tables.specs.Room.{Columns}
use Rattle.ask_base.specs.Columns.{table_at}
use Rattle.ask_child_walk.specs.Kids.{kids_at, clean_at}
use Rattle.ask_cluster.specs.declared.Fetched.{Fetched}
use Rattle.ask_cluster.specs.declared.Fetched.TheVariants.{Cluster, Nobody, Others}
use Rattle.refusals.specs.declared.Refusal.{Refusal}
use Rattle.refusals.specs.declared.Refusal.TheVariants.{Spoiled}

-- children of a table: a sole one that is a cluster, by its id; none; or others
abbrev pub sole : Table → List ℕ → Fetched
sole t [] = Nobody
sole t (p ∷ []) = cond (ltb 1 (entry t p).num) (Cluster (entry t p).id) Others
sole t (p ∷ q ∷ l) = Others

-- the children of the cluster id, whose origin is the entry o of zoom t's table; or a slot names a place past the table
unfoldable pub fetched_at : State → Columns → ℕ → ℕ → ℕ → Result Fetched Refusal
fetched_at s c id t o = cond (clean_at s c t o) (Ok (sole (table_at s c t) (kids_at s c id t o))) (Err Spoiled)
