-- The tally of a tile: what its answer carries, and the sum over the distinct entries listed of what each weighs there: its num where the
-- tile holds its centre, otherwise nothing. Definitions only.
use Rattle.std.specs.Prelude.{Bool, true, false, cond, ◌&&◌, List, [], ◌∷◌, map, Result, Ok, Err, ℕ, ◌+◌, eqb}
use Rattle.refusals.specs.declared.Refusal.{Refusal}
use Rattle.build_tables.specs.declared.Entry.{Entry}
use Rattle.build_tables.specs.Entries.{Table, entry}
use Rattle.ask_tile_table.specs.Floor.{home_of}
use Rattle.ask_tile_table.specs.Tile.{Visit, tile_listed}

-- what the answer of a tally carries: the sum, 0 where it is refused
abbrev pub tally_value : Result ℕ Refusal → ℕ
tally_value (Ok s) = s
tally_value (Err e) = 0

-- whether p is in the list
unfoldable pub member : ℕ → List ℕ → Bool
member p [] = false
member p (q ∷ l) = elim (eqb p q) [ true ↦ true | false ↦ member p l ]

-- each place once, where it is first met; those that were seen before are left out
unfoldable pub distinct : List ℕ → List ℕ → List ℕ
distinct seen [] = []
distinct seen (p ∷ ps) = elim (member p seen) [ true ↦ distinct seen ps | false ↦ p ∷ distinct (p ∷ seen) ps ]

-- the tile (z, x, y) holds the entry's centre: floor of cx * 2^z is x and floor of cy * 2^z is y, 1.0 belonging to the last tile
abbrev pub at_home : ℕ → ℕ → ℕ → Entry → Bool
at_home z x y e = eqb (home_of z e.x) x && eqb (home_of z e.y) y

-- what an entry counts in the tile (z, x, y): its num where it is at home, otherwise nothing
abbrev pub weight_in : ℕ → ℕ → ℕ → Entry → ℕ
weight_in z x y e = cond (at_home z x y e) e.num 0

-- the sum of w over the entries at these places
unfoldable pub total : (Entry → ℕ) → Table → List ℕ → ℕ
total w t [] = 0
total w t (p ∷ ps) = w (entry t p) + total w t ps

-- the sum of w over the distinct entries listed
unfoldable pub tally_of : (Entry → ℕ) → Table → List Visit → ℕ
tally_of w t vs = total w t (distinct [] (map (λ v. v.place) (tile_listed t vs)))
