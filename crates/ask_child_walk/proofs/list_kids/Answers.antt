-- `ask_child_walk::list_kids` meets its contract: the children that are listed and those ahead of the walk are all of them. The measure is
-- what is ahead. Assumes nothing.
use mathlib.Core.Path.{refl, ap, ◌∙◌}
use native.Mathlib.Omega.{arith}
use Rattle.std.specs.Prelude.{Ok}
use Rattle.std.proofs.lemmas.Result.{err_from_is_err_and}
use Rattle.ask_base.specs.laws.Around.{ring_held, ahead_in, ring-begun}
use Rattle.ask_child_walk.specs.laws.Next.{kid-next, kid-done, kid-refused}
use Rattle.ask_child_walk.proofs.Listing.{going-first, going_on, going_done, going-refused, going-room}
use Rattle.ask_child_walk.proofs.list_kids.Goals as goal

pub loop-kid-init : goal.loop-kid-init
loop-kid-init c =
    let a = c.args in
    let g = ring_held a.g.now in
    (refl, going-first g a.cid a.out.now _ (ring-begun g _ c.begin-at.result c.begin-at.ensures))

pub next_child-requires : goal.next_child-requires
next_child-requires c = c.loop-kid.invariant.1.below

pub returns-in_err-kid : goal.returns-in_err-kid
returns-in_err-kid c =
    let a = c.args in
    let g = ring_held a.g.now in
    let s = c.loop-kid in
    let k = c.next_child in
    let was = ahead_in g s.page s.at in
    let p = err_from_is_err_and c.from_residual.result c.from_residual.ensures.1 in
    let r = kid-refused g a.cid was k.new.page k.new.at k.result k.ensures _ c.in_err-kid.was in
    rw (p.1, p.2) (going-refused g a.cid a.out.now _ _ _ s.invariant.1 _ r)

pub returns : goal.returns
returns c =
    let a = c.args in
    let g = ring_held a.g.now in
    let s = c.loop-kid in
    let k = c.next_child in
    let was = ahead_in g s.page s.at in
    going_done g a.cid a.out.now _ _ _ s.invariant.1
    (kid-done g a.cid was k.new.page k.new.at k.result k.ensures (c.in_ok-kid.was ∙ ap Ok c.in_default.is))

pub prove-unreachable-requires : goal.prove-unreachable-requires
prove-unreachable-requires c =
    let a = c.args in
    let g = ring_held a.g.now in
    let s = c.loop-kid in
    let k = c.next_child in
    let was = ahead_in g s.page s.at in
    let z = kid-next g a.cid was k.new.page k.new.at k.result k.ensures c.in-Some.kid (c.in_ok-kid.was ∙ ap Ok c.in-Some.is) in
    let r = going-room g a.cid a.out.now _ _ _ s.invariant.1 _ _ _ z in
    omega (arith, r)

pub loop-kid-smaller : goal.loop-kid-smaller
loop-kid-smaller c =
    let a = c.args in
    let g = ring_held a.g.now in
    let s = c.loop-kid in
    let k = c.next_child in
    let was = ahead_in g s.page s.at in
    let z = kid-next g a.cid was k.new.page k.new.at k.result k.ensures c.in-Some.kid (c.in_ok-kid.was ∙ ap Ok c.in-Some.is) in
    z.less

pub loop-kid-preserved : goal.loop-kid-preserved
loop-kid-preserved c =
    let a = c.args in
    let g = ring_held a.g.now in
    let s = c.loop-kid in
    let k = c.next_child in
    let was = ahead_in g s.page s.at in
    let z = kid-next g a.cid was k.new.page k.new.at k.result k.ensures c.in-Some.kid (c.in_ok-kid.was ∙ ap Ok c.in-Some.is) in
    (k.auto.page ∙ s.invariant.0, going_on g a.cid a.out.now _ _ _ s.invariant.1 _ _ _ z _ c.put_at.ensures)
