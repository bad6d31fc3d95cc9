-- `ask_tile_table::is_marked` meets its contract: the bit of a place tells whether it is marked. Assumes nothing.
use Rattle.ask_tile_table.specs.laws.Marks.{marked-is}
use Rattle.ask_tile_table.proofs.is_marked.Goals as goal

pub returns : goal.returns
returns c = marked-is c.args.marks.now c.args.q c.bit-b.result c.bit-b.ensures
