-- SCOPE's P line on a tile, over the state and the columns of the worked build (Build), computed from the definitions; what the tile leaves
-- in output columns, and its tally. Assumes nothing.
use Rattle.std.specs.Prelude.{◌≡◌, Bool, not, [], ◌∷◌, Ok, Err}
use Rattle.std.proofs.Math.Path.{ap}
use Rattle.std.proofs.Math.Bool.{true, cond}
use Rattle.std.proofs.Math.IntN.{pos}
use Rattle.std.specs.Float.Ieee.{neg, add, sub, mul, div, of_int, of_bits, le, lt, eq}
use Rattle.floats.specs.Away.{away}
use Rattle.kdsort.specs.Shape.{shape, split}
use Rattle.kdslots.specs.Slots.{scanned, slots}
use Rattle.kdbush.specs.Run.{places}
use Rattle.build_tables.specs.Rows.{rows}
use Rattle.refusals.specs.declared.Refusal.TheVariants.{Tile, Spoiled}
use Rattle.ask_tile_table.specs.Floor.{home_of}
use Rattle.ask_tile_table.specs.Tile.{here, wraps, east_strip, west_strip, visited, tile_listed, whole_tile, rounded}
use Rattle.ask_tile_table.specs.Tally.{member, distinct, total, tally_of}
use Rattle.ask_tile.specs.Tallied.{tallied}
use Rattle.ask_base.specs.Asked.{refused, told}
use Rattle.ask_tile.specs.Asked.{TileAsked, tile_asked, tile_outcome, outcome_of, tiled}
use Rattle.supercluster.specs.Build.{BuildColumns}
use Rattle.law_worked.specs.Tables.{b, options}
use Rattle.law_worked.specs.Build.{state, after_build, worked_held, sound}

module _ (l : BuildColumns) where
  -- the state being sound
  asks : TileAsked → Bool → TileAsked
  asks a s = cond (not s) (refused Spoiled) a

  -- entry 0 at (176,256)
  pub tile-000 : tile_asked state (worked_held l) 0 0 0 ≡ told true (record { place = 0; x = pos 176; y = pos 256 } ∷ [])
  unfolding tile_asked visited here wraps east_strip west_strip tile_listed whole_tile rounded away neg add sub mul div of_int of_bits le lt eq
      shape split scanned
      slots places rows options state after_build b asks
  tile-000 = ap (asks (told true (record { place = 0; x = pos 176; y = pos 256 } ∷ []))) (sound l)

  -- in columns of two: the first item, and then what stood there
  pub tile-columns : tiled state (worked_held l) 0 0 0 (9 ∷ 9 ∷ []) (pos 9 ∷ pos 9 ∷ []) (pos 9 ∷ pos 9 ∷ [])
      ≡ tile_outcome (Ok 1) (0 ∷ 9 ∷ []) (pos 176 ∷ pos 9 ∷ []) (pos 256 ∷ pos 9 ∷ [])
  tile-columns = ap (λ (a : TileAsked). outcome_of a (9 ∷ 9 ∷ []) (pos 9 ∷ pos 9 ∷ []) (pos 9 ∷ pos 9 ∷ [])) tile-000

  -- there is one tile at zoom 0
  pub no_tile : tile_asked state (worked_held l) 0 1 0 ≡ refused Tile
  unfolding tile_asked asks
  no_tile = ap (asks (refused Tile)) (sound l)

  -- its four lamps
  pub tally-000 : tallied state (worked_held l) 0 0 0 ≡ Ok 4
  unfolding tallied tally_of total distinct member home_of visited here wraps east_strip west_strip tile_listed whole_tile rounded away neg add
      sub mul div
      of_int of_bits le lt eq shape split scanned slots places rows options state after_build b
  tally-000 = ap (λ (s : Bool). cond (not s) (Err Spoiled) (Ok 4)) (sound l)
