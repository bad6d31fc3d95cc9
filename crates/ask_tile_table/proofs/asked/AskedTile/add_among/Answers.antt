-- `ask_tile_table::asked::AskedTile::add_among` meets its contract: the marks that it lends are blank, and there is one for each place of
-- the table. Assumes nothing.
use Rattle.std.proofs.Common.{false, length, arith}
use Rattle.ask_tile_table.specs.laws.Told.{blank}
use Rattle.ask_tile_table.proofs.asked.AskedTile.add_among.Goals as goal

pub add_with-requires : goal.add_with-requires
add_with-requires g c = blank false (length c.args.self.now.table.entries.x.now) g.row.N (omega (arith, c.requires))
