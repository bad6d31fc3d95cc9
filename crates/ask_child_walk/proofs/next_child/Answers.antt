-- `ask_child_walk::next_child` meets its contract: what it has passed by has no child, so the next child of what is ahead is that of the
-- whole. The measure is what is ahead. Assumes nothing.
use mathlib.Core.Path.{sym, ◌∙◌}
use native.Mathlib.Omega.{arith}
use Rattle.ask_base.specs.laws.Around.{ring_held}
use Rattle.ask_child_walk.proofs.Listing.{ended, met, end_none, met-past, met-kid, met-other}
use Rattle.ask_child_walk.proofs.next_child.Goals as goal

pub returns : goal.returns
returns c =
    let a = c.args in
    let g = ring_held a.g.now in
    let s = c.loop-slot in
    let n = c.next in
    let e = ended g s.page s.at n.result n.new.page n.new.at n.ensures.value n.ensures.ahead c.in_default.not-Some in
    sym (end_none g a.cid _ e) ∙ s.invariant.2

pub offset_bounds-ids-slot : goal.offset_bounds-ids-slot
offset_bounds-ids-slot c =
    let a = c.args in
    let g = ring_held a.g.now in
    let s = c.loop-slot in
    let n = c.next in
    let m = met g s.page s.at n.result n.new.page n.new.at n.ensures.value n.ensures.ahead c.in-Some.slot c.in-Some.is s.invariant.1 in
    omega (arith, m.inside, a.g.now.table.ids, a.g.now.whole)

pub bounds-ids-slot : goal.bounds-ids-slot
bounds-ids-slot c =
    let a = c.args in
    let g = ring_held a.g.now in
    let s = c.loop-slot in
    let n = c.next in
    let m = met g s.page s.at n.result n.new.page n.new.at n.ensures.value n.ensures.ahead c.in-Some.slot c.in-Some.is s.invariant.1 in
    omega (arith, m.inside, a.g.now.table.ids, a.g.now.whole)

pub returns-then-n-place : goal.returns-then-n-place
returns-then-n-place c =
    let a = c.args in
    let g = ring_held a.g.now in
    let s = c.loop-slot in
    let n = c.next in
    let m = met g s.page s.at n.result n.new.page n.new.at n.ensures.value n.ensures.ahead c.in-Some.slot c.in-Some.is s.invariant.1 in
    sym (met-past g a.cid _ _ _ _ m c.if-n-place.true) ∙ s.invariant.2

pub returns-then-entry-cid : goal.returns-then-entry-cid
returns-then-entry-cid c =
    let a = c.args in
    let g = ring_held a.g.now in
    let s = c.loop-slot in
    let n = c.next in
    let m = met g s.page s.at n.result n.new.page n.new.at n.ensures.value n.ensures.ahead c.in-Some.slot c.in-Some.is s.invariant.1 in
    let y = c.at-entry in
    let k = met-kid g a.cid _ _ _ _ m y.result y.ensures c.if-n-place.false c.if-entry-cid.true in
    sym k ∙ s.invariant.2

pub loop-slot-preserved : goal.loop-slot-preserved
loop-slot-preserved c =
    let a = c.args in
    let g = ring_held a.g.now in
    let s = c.loop-slot in
    let n = c.next in
    let m = met g s.page s.at n.result n.new.page n.new.at n.ensures.value n.ensures.ahead c.in-Some.slot c.in-Some.is s.invariant.1 in
    let y = c.at-entry in
    let o = met-other g a.cid _ _ _ _ m y.result y.ensures c.if-n-place.false c.if-entry-cid.false in
    (n.auto.page ∙ s.invariant.0, m.below, sym o ∙ s.invariant.2)
