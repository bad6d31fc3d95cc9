-- `ask_tile::tally_lent` meets its contract: the tally of the tile that is asked for is the state's. Assumes nothing.
use Rattle.std.proofs.Common.{ap, sym, ◌∙◌}
use Rattle.build_tables.specs.Lent.{tables_held}
use Rattle.ask_tile.specs.Asked.{whole_state}
use Rattle.ask_tile.specs.laws.Ends.{sum_of, tally-asked}
use Rattle.ask_tile.proofs.tally_lent.Goals as goal

pub returns-in-Err : goal.returns-in-Err
returns-in-Err c =
    let a = c.args in
    let s = whole_state a.s.now in
    ap (sum_of s (tables_held a.t.now) a.z a.x a.y) (sym c.in-Err.is ∙ c.add_up.ensures)
    ∙ tally-asked s (tables_held a.t.now) a.z a.x a.y c.in_ok-ask.field-0 c.in_ok-ask.ensures

pub returns-in-Ok : goal.returns-in-Ok
returns-in-Ok c =
    let a = c.args in
    let s = whole_state a.s.now in
    ap (sum_of s (tables_held a.t.now) a.z a.x a.y) (sym c.in-Ok.is ∙ c.add_up.ensures)
    ∙ tally-asked s (tables_held a.t.now) a.z a.x a.y c.in_ok-ask.field-0 c.in_ok-ask.ensures
