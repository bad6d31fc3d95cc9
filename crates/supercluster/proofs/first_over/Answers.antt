-- `supercluster::first_over` meets its contract: at the head of the loop every energy before i is small enough, and the first of the rest
-- is the first of all. Assumes nothing.
use Rattle.std.proofs.Common.{sym, ◌∙◌}
use Rattle.supercluster.specs.laws.Fill.{over-step, over-here, over-end}
use Rattle.supercluster.proofs.first_over.Goals as goal

pub returns-then-energy-gt-MOST_ENERGY : goal.returns-then-energy-gt-MOST_ENERGY
returns-then-energy-gt-MOST_ENERGY c =
    let l = c.loop-i in
    over-here c.args.energies.now l.i c.loop-i-test.true c.if-energy-gt-MOST_ENERGY.true ∙ sym l.invariant

pub loop-i-preserved : goal.loop-i-preserved
loop-i-preserved c =
    let l = c.loop-i in
    (l.invariant ∙ over-step c.args.energies.now l.i c.loop-i-test.true c.if-energy-gt-MOST_ENERGY.false)

pub returns : goal.returns
returns c = let l = c.loop-i in sym (l.invariant ∙ over-end c.args.energies.now l.i c.loop-i-test.false)
