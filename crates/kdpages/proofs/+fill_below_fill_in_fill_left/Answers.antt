-- `kdpages::fill_in`, `fill_below` and `fill_left` meet their contracts, as one cycle of calls: the median, the right part, the left
-- part. Assumes nothing.
use Rattle.std.proofs.Common.{sym, ap, ◌∙◌, List, ℕ, ◌+◌, ◌-◌, set, arith}
use Rattle.kdsort.specs.Shape.{shape, mid}
use Rattle.kdslots.specs.Slots.{over, slots}
use Rattle.kdslots.specs.laws.Intervals.{below, same_slots}
use Rattle.kdpages.specs.Pages.{stored, store}
use Rattle.kdpages.proofs.Stores.{full, in_leaf, in-median, in_parts, below_both, left_out}
use Rattle.kdpages.proofs.+fill_below_fill_in_fill_left.Goals as goal

pub fill_below-returns-then-goes_right : goal.fill_below-returns-then-goes_right
fill_below-returns-then-goes_right t c =
    let a = c.args in
    let s = a.s.now in
    let o = over s.query s.coords.now in
    let most = s.node_size + 1 in
    below_both o a.v.axis most a.v.lo a.v.hi a.at a.page.now (stored c.fill_left.result c.fill_left.new.page)
    (ap (o.right a.v.axis) (sym c.median.ensures) ∙ sym c.if-goes_right.ensures) c.fill_in-k.result c.fill_in-k.new.page
    (c.fill_in-k.ensures ∙ ap (λ (l : List ℕ). store a.at l a.page.now) (same_slots o most c.right.ensures)) c.fill_left.ensures

pub fill_in-returns-then-page-at : goal.fill_in-returns-then-page-at
fill_in-returns-then-page-at t c =
    let a = c.args in
    let s = a.s.now in
    full a.at (slots (over s.query s.coords.now) a.v.axis (shape (s.node_size + 1) a.v.lo a.v.hi)) a.page.now c.if-page-at.true

pub fill_in-returns-then-len-most : goal.fill_in-returns-then-len-most
fill_in-returns-then-len-most t c =
    let a = c.args in
    let s = a.s.now in
    in_leaf (over s.query s.coords.now) a.v.axis (s.node_size + 1) a.v.lo a.v.hi a.at a.page.now
    (stored c.fill_from.result c.fill_from.new.page) (omega arith) c.fill_from.ensures

pub fill_in-returns-then-tests : goal.fill_in-returns-then-tests
fill_in-returns-then-tests t c =
    let a = c.args in
    let s = a.s.now in
    let o = over s.query s.coords.now in
    let most = s.node_size + 1 in
    let rest = below o a.v.axis most a.v.lo a.v.hi in
    in-median o a.v.axis most a.v.lo a.v.hi a.at a.page.now (stored c.fill_below.result c.fill_below.new.page) (omega arith)
    (ap o.test (sym c.median-m.ensures) ∙ sym c.if-tests.ensures) c.if-page-at.false
    (c.fill_below.ensures ∙ ap (λ (m : ℕ). store (a.at + 1) rest (set a.page.now a.at m)) c.median-m.ensures)

pub fill_in-returns : goal.fill_in-returns
fill_in-returns t c =
    let a = c.args in
    let s = a.s.now in
    let o = over s.query s.coords.now in
    in_parts o a.v.axis (s.node_size + 1) a.v.lo a.v.hi a.at a.page.now (stored c.fill_below-2.result c.fill_below-2.new.page) (omega arith)
    (ap o.test (sym c.median-m.ensures) ∙ sym c.if-tests.ensures) c.fill_below-2.ensures

pub fill_left-returns : goal.fill_left-returns
fill_left-returns t c =
    let a = c.args in
    let s = a.s.now in
    let o = over s.query s.coords.now in
    let m = mid a.v.lo a.v.hi in
    left_out (o.left a.v.axis m) a.at (slots o (1 - a.v.axis) (shape (s.node_size + 1) a.v.lo m)) a.page.now
    (ap (o.left a.v.axis) (sym c.median.ensures) ∙ sym c.if-goes_left.ensures)
