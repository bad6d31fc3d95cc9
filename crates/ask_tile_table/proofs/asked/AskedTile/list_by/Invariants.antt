-- `ask_tile_table::asked::AskedTile::list_by`: at the head of the loop what is ahead of the walk, listed after what the columns hold, gives
-- the whole run. The measure is what is ahead.
use Rattle.std.proofs.Common.{◌≡◌, ◌+◌, ◌≤◌, length}
use Rattle.kdslots.specs.laws.All.{AllBelow}
use Rattle.build_tables.specs.Rows.{rows}
use Rattle.build_tables.specs.Lent.{held}
use Rattle.ask_tile_table.specs.Tile.{visits_of}
use Rattle.ask_tile_table.specs.laws.Runs.{run_tile}
use Rattle.ask_tile_table.specs.laws.Asked.{walked_of, slots_ahead, places_ahead}
use Rattle.ask_tile_table.proofs.asked.AskedTile.list_by.Given as goal

abbrev pub invariant-loop-p : goal.invariant-loop-p
invariant-loop-p l =
    let t = rows (held l.t.entries) in
    let left = places_ahead l.s l.t.index.ids.now l.page l.pages in
    record {
      below : AllBelow l.s.n (slots_ahead l.s l.page l.pages);
      room : l.k + length left ≤ l.fn.at + length l.t.entries.x.now;
      runs : run_tile t l.k (visits_of l.g left) l.out l.px l.py
          ≡ run_tile t l.fn.at (walked_of l.fn.self l.fn.search) l.fn.out l.fn.px l.fn.py;
    }

abbrev pub decreases-loop-p : goal.decreases-loop-p
decreases-loop-p l = length (places_ahead l.s l.t.index.ids.now l.page l.pages)
