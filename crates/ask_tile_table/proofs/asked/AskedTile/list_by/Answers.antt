-- `ask_tile_table::asked::AskedTile::list_by` meets its contract: a turn of the walk is its end, an entry that cannot be listed, or one
-- more item. Assumes nothing.
use Rattle.std.proofs.Common.{◌≡◌, Option, Some, List, ◌∷◌, length, replicate, refl, sym, ap, ◌∙◌, arith}
use Rattle.kdpages.specs.Pages.{next-slot, next-end}
use Rattle.ask_tile_table.specs.declared.TileSearch.{TileSearch}
use Rattle.ask_tile_table.specs.Tile.{Visit}
use Rattle.ask_tile_table.specs.laws.Runs.{run_tile}
use Rattle.ask_tile_table.specs.laws.Turns.{run_none, turn_end, turn-bad, turn-next}
use Rattle.ask_tile_table.specs.laws.Asked.{table_of, walked_of, places_ahead, begins-visits, begins-few, begins-below}
use Rattle.ask_tile_table.proofs.asked.AskedTile.list_by.Goals as goal

pub returns-in_default : goal.returns-in_default
returns-in_default c =
    let a = c.args in
    run_none (table_of a.self.now) a.at a.out.now a.px.now a.py.now
    ∙ ap (λ (s : Option TileSearch). run_tile (table_of a.self.now) a.at (walked_of a.self.now s) a.out.now a.px.now a.py.now)
    (sym c.in_default.is)

pub loop-p-init : goal.loop-p-init
loop-p-init c =
    let a = c.args in
    let t = a.self.now.table in
    let page = replicate 16 0 in
    let p = c.begin-pages.result in
    let b = c.begin-pages.ensures in
    let n = length t.entries.x.now in
    record {
      below = begins-below c.over-s.result page p b;
      room = omega (arith, begins-few c.over-s.result c.in-Some.g n t.index.coords.now c.over-s.ensures t.index.ids.now page p b);
      runs =
          ap (λ (vs : List Visit). run_tile (table_of a.self.now) a.at vs a.out.now a.px.now a.py.now)
          (begins-visits a.self.now c.in-Some.g a.search c.in-Some.is c.over-s.result c.over-s.ensures page p b);
    }

pub returns-in_default-entry_named : goal.returns-in_default-entry_named
returns-in_default-entry_named c =
    let a = c.args in
    let ids = a.self.now.table.index.ids.now in
    let k = c.loop-p in
    let p = c.in-Some-next_place.p in
    let left = places_ahead c.over-s.result ids k.page k.pages in
    let onward = places_ahead c.over-s.result ids c.next_place.new.page c.next_place.new.pages in
    let step = c.in-Some-next_place.ensures in
    let moves : left ≡ p ∷ onward = next-slot left onward (Some p) p refl step.value step.left in
    turn-bad (table_of a.self.now) c.in-Some.g k.k left k.out k.px k.py p onward moves
    (sym c.entry_named.ensures ∙ c.in_default-entry_named.is)
    ∙ k.invariant.runs

pub loop-p-preserved : goal.loop-p-preserved
loop-p-preserved c =
    let a = c.args in
    let ids = a.self.now.table.index.ids.now in
    let k = c.loop-p in
    let p = c.in-Some-next_place.p in
    let left = places_ahead c.over-s.result ids k.page k.pages in
    let onward = places_ahead c.over-s.result ids c.next_place.new.page c.next_place.new.pages in
    let step = c.in-Some-next_place.ensures in
    let moves : left ≡ p ∷ onward = next-slot left onward (Some p) p refl step.value step.left in
    record {
      below = c.next_place.ensures.below;
      room = omega (arith, ap length moves, k.invariant.room);
      runs =
          turn-next (table_of a.self.now) c.in-Some.g k.k left k.out k.px k.py p onward moves c.in-Some-entry_named.e
          (sym c.entry_named.ensures ∙ c.in-Some-entry_named.is) c.item_of.result c.item_of.ensures _ _ _ c.put_item.ensures.0
          c.put_item.ensures.1 c.put_item.ensures.2
          ∙ k.invariant.runs;
    }

pub returns : goal.returns
returns c =
    let a = c.args in
    let k = c.loop-p in
    let left = places_ahead c.over-s.result a.self.now.table.index.ids.now k.page k.pages in
    turn_end (table_of a.self.now) c.in-Some.g k.k left k.out k.px k.py
    (next-end left c.next_place.result c.in_default-next_place.not-Some c.next_place.ensures.value)
    ∙ k.invariant.runs
