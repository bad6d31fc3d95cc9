-- `kdwalk::leaf_end` meets its contract: the interval that has the slot is halved until it is a leaf. The measure is its length. Assumes
-- nothing.
use Rattle.std.proofs.Common.{sym, ◌∙◌, ◌+◌, ◌<◌, arith}
use Rattle.kdsort.specs.Shape.{mid}
use Rattle.kdwalk.proofs.Leaves.{end-leaf, end-median, end-right, end-left}
use Rattle.kdwalk.proofs.leaf_end.Goals as goal

pub returns-then-c-m : goal.returns-then-c-m
returns-then-c-m c =
    let a = c.args in
    sym (c.loop-hi.invariant.3 ∙ end-median (a.s.now.node_size + 1) c.loop-hi.lo c.loop-hi.hi (omega arith) a.c c.if-c-m.true)

pub loop-hi-preserved-then-c-m-2 : goal.loop-hi-preserved-then-c-m-2
loop-hi-preserved-then-c-m-2 c =
    let a = c.args in (
      omega arith,
      omega arith,
      omega arith,
      c.loop-hi.invariant.3 ∙ end-left (a.s.now.node_size + 1) c.loop-hi.lo c.loop-hi.hi (omega arith) a.c c.if-c-m-2.true,
    )

pub loop-hi-preserved : goal.loop-hi-preserved
loop-hi-preserved c =
    let a = c.args in
    let past : mid c.loop-hi.lo c.loop-hi.hi < a.c = omega (arith, c.if-c-m.false, c.if-c-m-2.false) in (
      omega arith,
      omega arith,
      omega arith,
      c.loop-hi.invariant.3 ∙ end-right (a.s.now.node_size + 1) c.loop-hi.lo c.loop-hi.hi (omega arith) a.c past,
    )

pub returns : goal.returns
returns c =
    let a = c.args in
    sym (c.loop-hi.invariant.3 ∙ end-leaf (a.s.now.node_size + 1) c.loop-hi.lo c.loop-hi.hi a.c (omega arith))
