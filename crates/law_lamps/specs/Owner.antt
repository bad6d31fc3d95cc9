-- Each lamp's owner in each table of a build, as a place of the table, and the lamps of the entry at a place. Both go by table number,
-- from max_zoom + 1, the finest, down to min_zoom. Definitions only.
use Rattle.std.specs.Prelude.{cond, List, [], ◌∷◌, ◌++◌, ℕ, zero, suc, ◌+◌, ◌-◌, ltb, eqb}
use Rattle.kdslots.specs.Keep.{keep}
use Rattle.build_tables.specs.declared.Entry.{Entry}
use Rattle.build_tables.specs.Entries.{entry, unset}
use Rattle.build_tables.specs.Ids.{origin_of, table_of}
use Rattle.build_tables.specs.Radius.{radius_at}
use Rattle.law_groups.specs.Sums.{count}
use Rattle.law_groups.specs.Groups.{Group, from, around}
use Rattle.build_all_zooms.specs.Zooms.{near_in}
use Rattle.law_builds.specs.Given.{Given, points, max_z}
use Rattle.law_builds.specs.Came.{table_of_zoom}
use Rattle.law_builds.specs.GroupsOfBuild.{groups_by}
use Rattle.law_builds.specs.Places.{group_at}

-- the id under which an entry is found in the table of the next smaller zoom: its parent, or its own id where the parent is unset
abbrev pub owner_up : Entry → ℕ
owner_up e = cond (eqb e.parent unset) e.id e.parent

-- the place in the next table of the group that has the place k
abbrev pub place_in : List Group → ℕ → ℕ
place_in [] k = 0
place_in (g ∷ gs) k = cond (ltb 0 (count k (from g))) 0 (suc (place_in gs k))

-- the lists of each, one after the other
abbrev pub gather : (ℕ → List ℕ) → List ℕ → List ℕ
gather f [] = []
gather f (k ∷ ks) = f k ++ gather f ks

-- lamp l's owner after d zooms: itself before the first, then the place of the group that has the owner before
unfoldable pub owner_at : Given → ℕ → ℕ → ℕ
owner_at G zero l = l
owner_at G (suc d) l = place_in (groups_by G (max_z G - d)) (owner_at G d l)

-- lamp l's owner, as a place of table z
unfoldable pub owner : Given → ℕ → ℕ → ℕ
owner G z l = owner_at G (max_z G + 1 - z) l

-- the lamps of the place j after d zooms: itself before the first, then those of the members of its group, in the order of the group
unfoldable pub lamps_at : Given → ℕ → ℕ → List ℕ
lamps_at G zero j = j ∷ []
lamps_at G (suc d) j = gather (λ k. lamps_at G d k) (from (group_at (groups_by G (max_z G - d)) j))

-- the lamps of the entry at j of table z
unfoldable pub lamps_of : Given → ℕ → ℕ → List ℕ
lamps_of G z j = lamps_at G (max_z G + 1 - z) j

-- the places answered around the place i of table t of a build, at the radius of the zoom below it
abbrev pub answers_at : Given → ℕ → ℕ → List ℕ
answers_at G t =
    around (near_in G.options.node_size (radius_at G.options.radius G.options.extent (t - 1)) (table_of_zoom G t))
    (table_of_zoom G t)

-- the members of the cluster id: of those answered around its origin, in the table that the id names, those whose parent it is
abbrev pub members_of : Given → ℕ → List ℕ
members_of G id =
    let t = table_of (points G) id in
    keep (λ k. eqb (entry (table_of_zoom G t) k).parent id) (answers_at G t (origin_of (points G) id))
