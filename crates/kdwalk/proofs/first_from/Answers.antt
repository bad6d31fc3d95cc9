-- `kdwalk::first_from` meets its contract: nothing before i passes. Assumes nothing.
use Rattle.std.proofs.Common.{refl, sym, ◌∙◌}
use Rattle.kdslots.specs.Slots.{over}
use Rattle.kdwalk.proofs.Firsts.{here, on, none}
use Rattle.kdwalk.proofs.first_from.Goals as goal

pub loop-i-init : goal.loop-i-init
loop-i-init c = refl

pub returns-then-tests : goal.returns-then-tests
returns-then-tests c =
    let s = c.args.s.now in
    here (over s.query s.coords.now) c.loop-i.i c.args.hi c.loop-i-test.true (sym c.tests.ensures ∙ c.if-tests.true)
    ∙ sym c.loop-i.invariant

pub loop-i-preserved : goal.loop-i-preserved
loop-i-preserved c =
    let s = c.args.s.now in
    c.loop-i.invariant ∙ on (over s.query s.coords.now) c.loop-i.i c.args.hi c.loop-i-test.true
    (sym c.tests.ensures ∙ c.if-tests.false)

pub returns : goal.returns
returns c =
    let s = c.args.s.now in
    none (over s.query s.coords.now) c.loop-i.i c.args.hi c.loop-i-test.false ∙ sym c.loop-i.invariant
