-- The question of a tile's tally: its answer, for every input. Definitions only.
use Rattle.std.specs.Prelude.{Bool, true, false, cond, not, Result, Ok, Err, ℕ}
use Rattle.build_tables.specs.declared.State.{State}
use Rattle.build_tables.specs.Sound.{state_ok}
use Rattle.build_tables.specs.Room.{Columns, room_of}
use Rattle.refusals.specs.declared.Refusal.{Refusal}
use Rattle.refusals.specs.declared.Refusal.TheVariants.{Tile, Spoiled}
use Rattle.ask_tile_table.specs.Tile.{is_tile, whole_tile}
use Rattle.ask_tile_table.specs.Tally.{weight_in, tally_of}
use Rattle.ask_tile.specs.Asked.{table_for, visits_for}

-- this sum, and whether everything that was found could be listed: what cannot is refusal 11. A sum over no entry is 0.
abbrev pub tally_sum : Bool → ℕ → Result ℕ Refusal
tally_sum true sum = Ok sum
tally_sum false sum = Err Spoiled

-- the refusals in SCOPE's order: the state over the nine columns (11), no such tile (7); otherwise, over the distinct entries listed, the
-- sum of num of those whose centre the tile holds
unfoldable pub tallied : State → Columns → ℕ → ℕ → ℕ → Result ℕ Refusal
tallied s c z x y =
    cond (not (state_ok s (room_of c))) (Err Spoiled)
    (cond (not (is_tile z x y)) (Err Tile)
    (tally_sum (whole_tile (table_for s c z) (visits_for s c z x y)) (tally_of (weight_in z x y) (table_for s c z) (visits_for s c z x y))))
