-- `kdwalk::first_in`, `first_below` and `first_left` meet their contracts, as one cycle of calls: the median, the right part, the left
-- part. Assumes nothing.
use Rattle.std.proofs.Common.{sym, ap, ◌∙◌, Some, ◌+◌, ◌-◌, arith}
use Rattle.kdsort.specs.Shape.{shape, mid}
use Rattle.kdslots.specs.Slots.{over, when, slots}
use Rattle.kdslots.specs.laws.Intervals.{same_slots}
use Rattle.kdwalk.specs.laws.Cursor.{head_of}
use Rattle.kdwalk.proofs.Firsts.{first_leaf, first-median, first-parts, picks, falls-to, went-in, not_in}
use Rattle.kdwalk.proofs.+first_below_first_in_first_left.Goals as goal
use Rattle.kdwalk.proofs.+first_below_first_in_first_left.Goals.{first_below-then-goes_right+in_default, first_below-else-goes_right}

pub first_below-returns-in-Some : goal.first_below-returns-in-Some
first_below-returns-in-Some t c =
    let a = c.args in
    let s = a.s.now in
    let o = over s.query s.coords.now in
    let most = s.node_size + 1 in
    let m = mid a.v.lo a.v.hi in
    let l = slots o (1 - a.v.axis) (shape most (m + 1) a.v.hi) in
    picks (when (o.right a.v.axis m) l) (when (o.left a.v.axis m) (slots o (1 - a.v.axis) (shape most a.v.lo m))) c.in-Some.i
    (went-in l (o.right a.v.axis m) _ (ap (o.right a.v.axis) (sym c.median.ensures) ∙ sym c.goes_right.ensures ∙ c.if-goes_right.true)
    (c.in-Some.ensures ∙ ap head_of (same_slots o most c.right.ensures)))

pub first_below-returns : goal.first_below-returns
first_below-returns t c =
    let a = c.args in
    let s = a.s.now in
    let o = over s.query s.coords.now in
    let most = s.node_size + 1 in
    let m = mid a.v.lo a.v.hi in
    let l = slots o (1 - a.v.axis) (shape most (m + 1) a.v.hi) in
    let at = ap (o.right a.v.axis) (sym c.median.ensures) ∙ sym c.goes_right.ensures in
    falls-to (when (o.right a.v.axis m) l) _ c.first_left.result
    (elim c.if-goes_right.branch [
      | first_below-then-goes_right+in_default w ↦ went-in l (o.right a.v.axis m) _ (at ∙ w.if-goes_right.true)
          (w.in_default.ensures ∙ ap head_of (same_slots o most w.right.ensures))
      | first_below-else-goes_right w ↦ not_in l (o.right a.v.axis m) (at ∙ w.if-goes_right.false)
    ])
    c.first_left.ensures

pub first_in-returns-then-len-most : goal.first_in-returns-then-len-most
first_in-returns-then-len-most t c =
    let a = c.args in
    let s = a.s.now in
    first_leaf (over s.query s.coords.now) a.v.axis (s.node_size + 1) a.v.lo a.v.hi c.first_from.result (omega arith) c.first_from.ensures

pub first_in-returns-then-tests : goal.first_in-returns-then-tests
first_in-returns-then-tests t c =
    let a = c.args in
    let s = a.s.now in
    let o = over s.query s.coords.now in
    ap Some c.median-m.ensures ∙ first-median o a.v.axis (s.node_size + 1) a.v.lo a.v.hi (omega arith)
    (ap o.test (sym c.median-m.ensures) ∙ sym c.tests.ensures ∙ c.if-tests.true)

pub first_in-returns : goal.first_in-returns
first_in-returns t c =
    let a = c.args in
    let s = a.s.now in
    let o = over s.query s.coords.now in
    first-parts o a.v.axis (s.node_size + 1) a.v.lo a.v.hi (omega arith) c.first_below.result
    (ap o.test (sym c.median-m.ensures) ∙ sym c.tests.ensures ∙ c.if-tests.false) c.first_below.ensures

pub first_left-returns-then-goes_left : goal.first_left-returns-then-goes_left
first_left-returns-then-goes_left t c =
    let a = c.args in
    let s = a.s.now in
    let o = over s.query s.coords.now in
    let most = s.node_size + 1 in
    let m = mid a.v.lo a.v.hi in
    went-in (slots o (1 - a.v.axis) (shape most a.v.lo m)) (o.left a.v.axis m) c.first_in.result
    (ap (o.left a.v.axis) (sym c.median.ensures) ∙ sym c.goes_left.ensures ∙ c.if-goes_left.true)
    (c.first_in.ensures ∙ ap head_of (same_slots o most c.left.ensures))

pub first_left-returns : goal.first_left-returns
first_left-returns t c =
    let a = c.args in
    let s = a.s.now in
    let o = over s.query s.coords.now in
    let m = mid a.v.lo a.v.hi in
    not_in (slots o (1 - a.v.axis) (shape (s.node_size + 1) a.v.lo m)) (o.left a.v.axis m)
    (ap (o.left a.v.axis) (sym c.median.ensures) ∙ sym c.goes_left.ensures ∙ c.if-goes_left.false)
