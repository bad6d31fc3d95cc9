-- `ask_tile_table::TileSearch::round_in` meets its contract: what is rounded is within 2 ^ 48 either way. Assumes nothing.
use Rattle.std.proofs.Common.{rules, ◌∙◌, w64}
use mir.Facts.{to_z-of_z}
use Rattle.ask_tile_table.specs.Tile.{rounded}
use Rattle.ask_tile_table.specs.laws.Framed.{fits}
use Rattle.ask_tile_table.proofs.TileSearch.round_in.Goals as goal

pub round_away-requires : goal.round_away-requires
round_away-requires c =
    let a = c.args in
    let h = fits a.self.now a.c a.v c.requires.framed c.requires.in01 c.requires.v_in.0 c.requires.v_in.1 in
    record { at_least = h.0; at_most = h.1 }

pub returns : goal.returns
unfolding rounded
returns c = to_z-of_z {w = w64} {z = c.round_away.result} (search rules) ∙ c.round_away.ensures
