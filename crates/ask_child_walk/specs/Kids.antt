-- The children of a cluster: `within` at the origin in its table, with the radius of the zoom below, keeping the entries whose parent is
-- the id. Definitions only.
use Rattle.std.specs.Prelude.{Bool, ◌&&◌, List, ℕ, ◌-◌, eqb, length}
use Rattle.kdslots.specs.declared.Query.{Query}
use Rattle.kdslots.specs.declared.Query.TheVariants.{Within}
use Rattle.kdslots.specs.Keep.{keep}
use Rattle.kdbush.specs.Run.{sound, whole}
use Rattle.kdbush.specs.Reply.{found}
use Rattle.build_tables.specs.declared.State.{State}
use Rattle.build_tables.specs.State.{len_of}
use Rattle.build_tables.specs.Entries.{Table, entry}
use Rattle.build_tables.specs.Radius.{radius_at}
use Rattle.build_tables.specs.Room.{Columns}
use Rattle.ask_base.specs.Columns.{table_at, ids_at, coords_at}

-- `within` at the entry o of zoom z's table: r is that of zoom z - 1, with 2^(z - 1)
abbrev pub query_around : State → Columns → ℕ → ℕ → Query
query_around s c z o =
    let e = entry (table_at s c z) o in
    Within e.x e.y (radius_at s.options.radius s.options.extent (z - 1))

-- the places that it answers in that table
abbrev pub places_around : State → Columns → ℕ → ℕ → List ℕ
places_around s c z o =
    found (query_around s c z o) s.options.node_size (len_of s z) (ids_at s c.ids z) (coords_at s c.coords z)

-- of places of a table, those whose parent is the cluster id
abbrev pub kids_of : Table → ℕ → List ℕ → List ℕ
kids_of t id ps = keep (λ p. eqb (entry t p).parent id) ps

-- the children of the cluster id, whose origin is the entry o of zoom z's table: among the places before the first that is past the table
unfoldable pub kids_at : State → Columns → ℕ → ℕ → ℕ → List ℕ
kids_at s c id z o = kids_of (table_at s c z) id (sound (len_of s z) (places_around s c z o))

-- whether no answered slot names a place past the table
unfoldable pub clean_at : State → Columns → ℕ → ℕ → Bool
clean_at s c z o = whole (len_of s z) (places_around s c z o)

-- whether the search went to its end and found no children
abbrev pub childless : State → Columns → ℕ → ℕ → ℕ → Bool
childless s c id z o = clean_at s c z o && eqb (length (kids_at s c id z o)) 0
