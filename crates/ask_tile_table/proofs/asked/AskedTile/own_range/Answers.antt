-- `ask_tile_table::asked::AskedTile::own_range` meets its contract: it is the strip of the tile's own range. Assumes nothing.
use lib.Ieee.{of_bits}
use Rattle.ask_tile_table.specs.Tile.{here}
use Rattle.ask_tile_table.proofs.asked.AskedTile.own_range.Goals as goal

pub returns : goal.returns
unfolding here of_bits
returns c = simp (c.strip_of.ensures, c.power-z2.ensures, c.margin-p.ensures)
