-- `kdsort::sort` meets its contract: a leaf is left as it is, a node is its selection and then its two sides.
-- Assumes nothing.
use Rattle.std.specs.Prelude.{◌+◌, ◌-◌}
use Rattle.std.proofs.Common.{sym, ap, ◌∙◌, arith}
use Rattle.kdsort.specs.Cols.{IndexCols}
use Rattle.kdsort.specs.Lent.{index_held_mut}
use Rattle.kdsort.specs.Shape.{shape, mid}
use Rattle.kdsort.specs.Sort.{sorted}
use Rattle.kdsort.specs.laws.Trees.{sorted-leaf, sorted-node}
use Rattle.kdsort.proofs.+sort.Goals as goal

pub returns-then-len-most-clause-slots : goal.returns-then-len-most-clause-slots
returns-then-len-most-clause-slots t c =
    let v = c.args.v in
    sym (sorted-leaf v.axis c.args.most v.lo v.hi (index_held_mut c.args.index.now) (omega (arith, c.if-len-most.true)))

pub returns-clause-slots : goal.returns-clause-slots
returns-clause-slots t c =
    let v = c.args.v in
    let most = c.args.most in
    let m = mid v.lo v.hi in
    let median = rw c.median.ensures at c.select.ensures.slots in
    let left = rw (c.left.ensures.0, c.left.ensures.1, c.left.ensures.2) at c.sort.ensures.slots in
    let right = rw (c.right.ensures.0, c.right.ensures.1, c.right.ensures.2) at c.sort-2.ensures.slots in
    right
    ∙ ap (λ (x : IndexCols). sorted (1 - v.axis) (m + 1) v.hi (shape most (m + 1) v.hi) x)
    (left ∙ ap (λ (x : IndexCols). sorted (1 - v.axis) v.lo m (shape most v.lo m) x) median)
    ∙ sym (sorted-node v.axis most v.lo v.hi (index_held_mut c.args.index.now) (omega (arith, c.if-len-most.false)))
