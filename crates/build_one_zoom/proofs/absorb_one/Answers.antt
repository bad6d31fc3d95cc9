-- `build_one_zoom::absorb_one` meets its contract: what it stores and adds is the definition's step. Assumes nothing.
use Rattle.build_tables.specs.Lent.{held_mut}
use Rattle.build_one_zoom.specs.laws.Turns.{joined-row, passed-row}
use Rattle.build_one_zoom.proofs.absorb_one.Goals as goal

pub returns-then-e-z-clause-rows : goal.returns-then-e-z-clause-rows
returns-then-e-z-clause-rows c =
    let a = c.args in
    passed-row (held_mut a.t.now) a.z a.p a.sums.x a.sums.y a.sums.energy a.k c.at-e.result c.at-e.ensures c.if-e-z.true

pub returns-clause-rows : goal.returns-clause-rows
returns-clause-rows c =
    let a = c.args in
    joined-row (held_mut a.t.now) a.z a.p a.sums.x a.sums.y a.sums.energy a.k c.at-e.result c.at-e.ensures c.requires.0 c.requires.1
    c.if-e-z.false
