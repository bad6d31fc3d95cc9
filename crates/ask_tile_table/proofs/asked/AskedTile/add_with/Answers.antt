-- `ask_tile_table::asked::AskedTile::add_with` meets its contract: the three tallies follow each other. Assumes nothing.
use Rattle.std.proofs.Common.{◌≡◌, Some, Err, ap, rules}
use Rattle.ask_tile_table.specs.laws.Added.{first-ends, second-ends, third-ends}
use Rattle.ask_tile_table.proofs.asked.AskedTile.add_with.Goals as goal

pub returns-in_err-a : goal.returns-in_err-a
returns-in_err-a c =
    let a = c.args in
    let e : c.from_residual.result ≡ Err c.in_err-a.field-0.0 = search rules in
    rw e (first-ends a.self.now a.few a.marks.now c.requires c.home-home.result c.home-home.ensures (Some c.own_range.result)
    (ap Some c.own_range.ensures) c.in_err-a.field-0.0 c.tally_by.new.marks c.in_err-a.ensures.held)

pub returns-in_err-b : goal.returns-in_err-b
returns-in_err-b c =
    let a = c.args in
    let e : c.from_residual-in_err-b.result ≡ Err c.in_err-b.field-0.0 = search rules in
    rw e (second-ends a.self.now a.few a.marks.now c.requires c.home-home.result c.home-home.ensures (Some c.own_range.result)
    (ap Some c.own_range.ensures) c.in_ok-a.a c.tally_by.new.marks c.in_ok-a.ensures.held c.strip.result c.strip.ensures
    c.in_err-b.field-0.0 c.tally_by-2.new.marks c.in_err-b.ensures.held)

pub returns : goal.returns
returns c =
    let a = c.args in
    third-ends a.self.now a.few a.marks.now c.requires c.home-home.result c.home-home.ensures (Some c.own_range.result)
    (ap Some c.own_range.ensures) c.in_ok-a.a c.tally_by.new.marks c.in_ok-a.ensures.held c.strip.result c.strip.ensures
    c.in_ok-b.b c.tally_by-2.new.marks c.in_ok-b.ensures.held c.strip-2.result c.strip-2.ensures c.tally_by-3.result
    c.tally_by-3.new.marks c.tally_by-3.ensures.held
