-- Where a cluster's id leads: of the cluster that is asked for, and of a child cluster that a walk goes on into. Definitions only.
use Rattle.std.specs.Prelude.{Bool, cond, not, ◌&&◌, ℕ, ◌+◌, leb, ltb, eqb, Result, Ok, Err}
use Rattle.build_tables.specs.declared.State.{State}
use Rattle.build_tables.specs.State.{len_of}
use Rattle.build_tables.specs.Sound.{state_ok}
use Rattle.build_tables.specs.Ids.{origin_of, table_of}
use Rattle.refusals.specs.declared.Refusal.{Refusal}
use Rattle.refusals.specs.declared.Refusal.TheVariants.{Spoiled, NoTree, NoCluster}
use Rattle.ask_base.specs.declared.Origin.{Origin}

-- where an id leads: to the place o of the table t, or to a refusal
abbrev pub origin : ℕ → ℕ → Origin
origin t o = record { table = t; place = o }

abbrev pub Target : Type 0
Target = Result Origin Refusal

-- the table is one from min_zoom to max_zoom + 1
abbrev pub is_built : State → ℕ → Bool
is_built s t = leb s.options.min_zoom t && leb t (s.options.max_zoom + 1)

-- the cluster that is asked for, with SCOPE's refusals in its order: the state (11), id < N (6), its table is not built (5), it is the
-- table of min_zoom (6), the origin is past the table (6)
unfoldable pub target_of : State → ℕ → ℕ → Target
target_of s cap id =
    cond (not (state_ok s cap)) (Err Spoiled)
    (cond (ltb id s.count) (Err NoCluster)
    (cond (not (is_built s (table_of s.count id))) (Err NoTree)
    (cond (eqb (table_of s.count id) s.options.min_zoom) (Err NoCluster)
    (cond (leb (len_of s (table_of s.count id)) (origin_of s.count id)) (Err NoCluster)
    (Ok (origin (table_of s.count id) (origin_of s.count id)))))))

-- the child cluster that a walk in table t goes on into: 11 where its id is below N, its table is not larger than t or is not built, or its
-- origin is past the table
unfoldable pub onward : State → ℕ → ℕ → Target
onward s t id =
    cond (ltb id s.count) (Err Spoiled)
    (cond (leb (table_of s.count id) t) (Err Spoiled)
    (cond (not (is_built s (table_of s.count id))) (Err Spoiled)
    (cond (leb (len_of s (table_of s.count id)) (origin_of s.count id)) (Err Spoiled)
    (Ok (origin (table_of s.count id) (origin_of s.count id))))))
