-- `kdslots::narrow` meets its contract: what is left out answers nothing. The measure is the interval's length. Assumes nothing.
use Rattle.std.proofs.Common.{◌≡◌, ◌+◌, sym, ◌∙◌, true, false, arith}
use Rattle.kdsort.specs.Shape.{mid}
use Rattle.kdslots.specs.Slots.{over}
use Rattle.kdslots.proofs.Narrows.{only-right, only-left, unanswered}
use Rattle.kdslots.proofs.narrow.Goals as goal

pub loop-v-preserved-then-goes_right : goal.loop-v-preserved-then-goes_right
loop-v-preserved-then-goes_right c =
    let a = c.args.s.now in
    let s = over a.query a.coords.now in
    let v = c.loop-v.v in
    let m = mid v.0 v.1.0 in
    let at : c.median-m.result ≡ m = c.median-m.ensures in
    let r : s.right v.1.1.0 m ≡ true = rw (← at) (sym c.goes_right.ensures ∙ c.if-goes_right.true) in
    let l : s.left v.1.1.0 m ≡ false =
    rw (← at) (sym c.goes_left.ensures ∙ c.if-goes_left.false) in
    let no = unanswered a.query a.coords.now v.1.1.0 m c.loop-v.invariant.1 (rw (r, l)) in (
      omega arith,
      omega arith,
      omega arith,
      rw (c.right-v.ensures.0, c.right-v.ensures.1, c.right-v.ensures.2)
          (sym (only-right s v.1.1.0 c.args.most v.0 v.1.0 (omega (arith, c.loop-v-test.true)) no r l) ∙ c.loop-v.invariant.3),
    )

pub loop-v-preserved : goal.loop-v-preserved
loop-v-preserved c =
    let a = c.args.s.now in
    let s = over a.query a.coords.now in
    let v = c.loop-v.v in
    let m = mid v.0 v.1.0 in
    let at : c.median-m.result ≡ m = c.median-m.ensures in
    let r : s.right v.1.1.0 m ≡ false = rw (← at) (sym c.goes_right.ensures ∙ c.if-goes_right.false) in
    let l : s.left v.1.1.0 m ≡ true =
    rw (← at) (sym c.goes_left-else-goes_right.ensures ∙ c.if-not-goes_left.false) in
    let no = unanswered a.query a.coords.now v.1.1.0 m c.loop-v.invariant.1 (rw r) in (
      omega arith,
      omega arith,
      omega arith,
      rw (c.left-v.ensures.0, c.left-v.ensures.1, c.left-v.ensures.2)
          (sym (only-left s v.1.1.0 c.args.most v.0 v.1.0 (omega (arith, c.loop-v-test.true)) no r l) ∙ c.loop-v.invariant.3),
    )
