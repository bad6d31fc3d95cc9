-- `kdcount::count_part` meets its contract: a leaf is counted slot by slot; a node is its median, its right part and its left, each if it
-- is searched. The right part and the left count at most their slots, so that no sum passes the interval's length. Assumes nothing.
use Rattle.std.specs.Prelude.{◌≡◌, Bool, ◌+◌, ◌-◌, length}
use Rattle.std.proofs.Common.{sym, ap, ◌∙◌, arith}
use mir.Val.{bool_byte}
use Rattle.kdsort.specs.Shape.{shape, mid}
use Rattle.kdslots.specs.Slots.{over, when, slots}
use Rattle.kdcount.proofs.Counts.{byte-most, count-few, part-searched, part-skipped, count-leaf, count-node}
use Rattle.kdcount.proofs.+count_part.Goals.{then-goes_right, else-goes_right, then-goes_left, else-goes_left}
use Rattle.kdcount.proofs.+count_part.Goals as goal

pub returns-then-len-most : goal.returns-then-len-most
returns-then-len-most t c =
    let a = c.args.s.now in
    let v = c.args.v in
    c.count_slots.ensures
    ∙ count-leaf (over a.query a.coords.now) v.axis (a.node_size + 1) v.lo v.hi (omega (arith, c.if-len-most.true))

-- ---- once both parts are counted

pub overflow_add-result : goal.overflow_add-result
overflow_add-result t c =
    let a = c.args.s.now in
    let v = c.args.v in
    let s = over a.query a.coords.now in
    let m = mid v.lo v.hi in
    let most = a.node_size + 1 in
    let R = slots s (1 - v.axis) (shape most (m + 1) v.hi) in
    let is_right : c.goes_right-goes_right.result ≡ s.right v.axis m = rw c.median-m.ensures at c.goes_right-goes_right.ensures in
    let right : c.if-goes_right.right ≡ length (when (s.right v.axis m) R) =
    elim c.if-goes_right.branch [
      | then-goes_right w ↦ w.right-is
          ∙ (rw (w.right.ensures.0, w.right.ensures.1, w.right.ensures.2) at w.count_part-right.ensures)
          ∙ part-searched _ R (sym is_right ∙ w.if-goes_right.true)
      | else-goes_right w ↦ w.right-is ∙ part-skipped _ R (sym is_right ∙ w.if-goes_right.false)
    ] in
    omega (
      arith,
      byte-most c.tests-median.result,
      right,
      count-few s (s.right v.axis m) (1 - v.axis) most (m + 1) v.hi,
    )

pub overflow_add-result-2 : goal.overflow_add-result-2
overflow_add-result-2 t c =
    let a = c.args.s.now in
    let v = c.args.v in
    let s = over a.query a.coords.now in
    let m = mid v.lo v.hi in
    let most = a.node_size + 1 in
    let R = slots s (1 - v.axis) (shape most (m + 1) v.hi) in
    let is_right : c.goes_right-goes_right.result ≡ s.right v.axis m = rw c.median-m.ensures at c.goes_right-goes_right.ensures in
    let right : c.if-goes_right.right ≡ length (when (s.right v.axis m) R) =
    elim c.if-goes_right.branch [
      | then-goes_right w ↦ w.right-is
          ∙ (rw (w.right.ensures.0, w.right.ensures.1, w.right.ensures.2) at w.count_part-right.ensures)
          ∙ part-searched _ R (sym is_right ∙ w.if-goes_right.true)
      | else-goes_right w ↦ w.right-is ∙ part-skipped _ R (sym is_right ∙ w.if-goes_right.false)
    ] in
    let L = slots s (1 - v.axis) (shape most v.lo m) in
    let is_left : c.goes_left-goes_left.result ≡ s.left v.axis m = rw c.median-m.ensures at c.goes_left-goes_left.ensures in
    let left : c.if-goes_left.left ≡ length (when (s.left v.axis m) L) =
    elim c.if-goes_left.branch [
      | then-goes_left w ↦ w.left-is
          ∙ (rw (w.left.ensures.0, w.left.ensures.1, w.left.ensures.2) at w.count_part-left.ensures)
          ∙ part-searched _ L (sym is_left ∙ w.if-goes_left.true)
      | else-goes_left w ↦ w.left-is ∙ part-skipped _ L (sym is_left ∙ w.if-goes_left.false)
    ] in
    omega (
      arith,
      byte-most c.tests-median.result,
      right,
      left,
      count-few s (s.right v.axis m) (1 - v.axis) most (m + 1) v.hi,
      count-few s (s.left v.axis m) (1 - v.axis) most v.lo m,
    )

pub returns : goal.returns
returns t c =
    let a = c.args.s.now in
    let v = c.args.v in
    let s = over a.query a.coords.now in
    let m = mid v.lo v.hi in
    let most = a.node_size + 1 in
    let R = slots s (1 - v.axis) (shape most (m + 1) v.hi) in
    let is_right : c.goes_right-goes_right.result ≡ s.right v.axis m = rw c.median-m.ensures at c.goes_right-goes_right.ensures in
    let right : c.if-goes_right.right ≡ length (when (s.right v.axis m) R) =
    elim c.if-goes_right.branch [
      | then-goes_right w ↦ w.right-is
          ∙ (rw (w.right.ensures.0, w.right.ensures.1, w.right.ensures.2) at w.count_part-right.ensures)
          ∙ part-searched _ R (sym is_right ∙ w.if-goes_right.true)
      | else-goes_right w ↦ w.right-is ∙ part-skipped _ R (sym is_right ∙ w.if-goes_right.false)
    ] in
    let L = slots s (1 - v.axis) (shape most v.lo m) in
    let is_left : c.goes_left-goes_left.result ≡ s.left v.axis m = rw c.median-m.ensures at c.goes_left-goes_left.ensures in
    let left : c.if-goes_left.left ≡ length (when (s.left v.axis m) L) =
    elim c.if-goes_left.branch [
      | then-goes_left w ↦ w.left-is
          ∙ (rw (w.left.ensures.0, w.left.ensures.1, w.left.ensures.2) at w.count_part-left.ensures)
          ∙ part-searched _ L (sym is_left ∙ w.if-goes_left.true)
      | else-goes_left w ↦ w.left-is ∙ part-skipped _ L (sym is_left ∙ w.if-goes_left.false)
    ] in
    let median : bool_byte c.tests-median.result ≡ bool_byte (s.test m) =
    ap (λ (b : Bool). bool_byte b) (rw c.median-m.ensures at c.tests-median.ensures) in
    omega (arith, median, right, left, count-node s v.axis most v.lo v.hi (omega (arith, c.if-len-most.false)))
