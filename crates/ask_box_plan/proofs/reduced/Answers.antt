-- `reduced` meets its contract. Assumes nothing.
use Rattle.std.proofs.Common.{◌+◌, ◌-◌, arith, subst, sym, T}
use Rattle.std.specs.Float.Ieee.{nan_bits, of_bits}
use Rattle.ask_box_plan.proofs.Remainder.{Left}
use Rattle.ask_box_plan.proofs.Turns.{begins, first, taken, stays, halves, ends}
use Rattle.ask_box_plan.proofs.reduced.Goals as goal
use Rattle.ask_box_plan.proofs.reduced.Goals.{then-t-left, else-t-left}

pub float_from_bits-t : goal.float_from_bits-t
unfolding nan_bits
float_from_bits-t c = tt

pub loop-i-init : goal.loop-i-init
loop-i-init c = (first c.args.x (subst T (sym c.well_formed.0.1) tt) c.requires.finite c.requires.from_360, begins)

pub loop-i-preserved : goal.loop-i-preserved
unfolding of_bits
loop-i-preserved c =
    let l = c.loop-i in
    let t = halves l.i l.t c.loop-i-test.true l.invariant.1 in
    elim c.if-t-left.branch [
      | then-t-left w ↦ (
        subst (Left (1018 - (l.i + 1)) c.args.x) (sym w.left-is)
            (taken l.i c.args.x l.left l.t c.loop-i-test.true l.invariant.0 l.invariant.1 w.if-t-left.true),
        t,
      )
      | else-t-left w ↦ (
        subst (Left (1018 - (l.i + 1)) c.args.x) (sym w.left-is)
            (stays l.i c.args.x l.left l.t c.loop-i-test.true l.invariant.0 l.invariant.1 w.if-t-left.false),
        t,
      )
    ]

pub returns : goal.returns
returns c = ends c.loop-i.i c.args.x c.loop-i.left (omega (arith, c.loop-i-test.false, c.loop-i.auto)) c.loop-i.invariant.0
