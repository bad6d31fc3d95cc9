-- Each lamp's owner in each table, as a place of the table, climbed to from the lamp; and the column that keeps them, one table after the
-- other, the finest first. Definitions only.
use Rattle.std.specs.Prelude.{true, false, List, [], ◌∷◌, map, ℕ, zero, suc, eqb, length, get_or}
use Rattle.build_tables.specs.Entries.{Table, entry}
use Rattle.law_groups.specs.Sums.{range}
use Rattle.law_lamps.specs.Owner.{owner_up, gather}

-- the place of the first entry with this id
unfoldable pub place_of : ℕ → Table → ℕ
place_of id [] = 0
place_of id (e ∷ t) = elim (eqb e.id id) [ true ↦ 0 | false ↦ suc (place_of id t) ]

-- lamp l's owner in the table i of these, counted from the finest: there the lamp itself; then the entry with the id of the cluster that
-- absorbed the owner before, or with that owner's own id where none did
unfoldable pub owner_in : List Table → ℕ → ℕ → ℕ
owner_in ts zero l = l
owner_in ts (suc i) l = place_of (owner_up (entry (get_or ts i []) (owner_in ts i l))) (get_or ts (suc i) [])

-- the owners of n lamps in one of the tables, and in all of them
abbrev pub owners_in : ℕ → List Table → ℕ → List ℕ
owners_in n ts i = map (owner_in ts i) (range 0 n)

unfoldable pub owner_column : ℕ → List Table → List ℕ
owner_column n ts = gather (owners_in n ts) (range 0 (length ts))
