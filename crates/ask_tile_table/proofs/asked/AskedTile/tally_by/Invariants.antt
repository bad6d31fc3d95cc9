-- `ask_tile_table::asked::AskedTile::tally_by`: at the head of the loop what is ahead of the walk, counted after what is counted, gives the
-- whole tally. The measure is what is ahead.
use Rattle.std.proofs.Common.{◌≡◌, ◌+◌, ◌*◌, ◌≤◌, length}
use Rattle.kdslots.specs.laws.All.{AllBelow}
use Rattle.build_tables.specs.Rows.{rows}
use Rattle.build_tables.specs.Lent.{held}
use Rattle.ask_tile_table.specs.laws.Home.{weight_by}
use Rattle.ask_tile_table.specs.laws.Counting.{counted}
use Rattle.ask_tile_table.specs.laws.Added.{counted_by}
use Rattle.ask_tile_table.specs.laws.Asked.{slots_ahead, places_ahead}
use Rattle.ask_tile_table.proofs.asked.AskedTile.tally_by.Given as goal

abbrev pub invariant-loop-p : goal.invariant-loop-p
invariant-loop-p l =
    let t = rows (held l.t.entries) in
    let r = l.fn.r in
    let left = places_ahead l.s l.t.index.ids.now l.page l.pages in
    record {
      below : AllBelow l.s.n (slots_ahead l.s l.page l.pages);
      room : l.a.count + length left ≤ r.count + length l.t.entries.x.now;
      bound : l.a.sum ≤ l.a.count * 4294967295;
      counts : counted l.few (weight_by l.h) t l.a.count l.a.sum left l.marks
          ≡ counted_by l.fn.self l.few l.h l.fn.search r.count r.sum l.fn.marks;
    }

abbrev pub decreases-loop-p : goal.decreases-loop-p
decreases-loop-p l = length (places_ahead l.s l.t.index.ids.now l.page l.pages)
