-- `ask_cluster::enter` and `ask_cluster::walk_into` meet their contracts: each child is visited as the definition visits it, and what is
-- ahead gives what is left of the walk. A walk goes on into larger tables only; within a level the measure is what is ahead. Assumes
-- nothing.
use mathlib.Core.Path.{refl, sym, ap, ◌∙◌}
use native.Mathlib.Omega.{arith}
use Rattle.std.specs.Prelude.{Ok}
use Rattle.std.proofs.lemmas.Result.{err_from_is_err_and}
use Rattle.build_tables.specs.Lent.{tables_held}
use Rattle.ask_base.specs.laws.Reached.{near, onward-reached, onward-refused}
use Rattle.ask_base.specs.laws.Around.{ring_held, ahead_in, ring-begun}
use Rattle.ask_child_walk.specs.laws.Next.{kid-next, kid-done, kid-refused}
use Rattle.ask_cluster.specs.laws.Column.{does-nothing}
use Rattle.ask_cluster.proofs.Visiting.{Visited, visit-by, refused-so, opened_in}
use Rattle.ask_cluster.proofs.Walking.{walking-first, walking-refused, walking-done, walking-none}
use Rattle.ask_cluster.proofs.Walking.{walking-broke, walking-stop, walking_on}
use Rattle.ask_cluster.proofs.+enter_walk_into.Goals.{walk_into-in-Entered+in_ok-so-in-Entered, walk_into-in-Listed+in_ok-so-in-Listed}
use Rattle.ask_cluster.proofs.+enter_walk_into.Goals.{walk_into-in-Skipped}
use Rattle.ask_cluster.proofs.+enter_walk_into.Goals as goal

-- ---- a child cluster is entered

pub enter-returns-in_err-at-clause-broke : goal.enter-returns-in_err-at-clause-broke
enter-returns-in_err-at-clause-broke t c =
    let a = c.args in
    let p = err_from_is_err_and c.from_residual.result c.from_residual.ensures.1 in
    rw (p.1, p.2) (onward-refused a.w.now.state.now a.table a.id _ (sym c.go_on.ensures ∙ c.in_err-at.was))

pub enter-walk_into-requires : goal.enter-walk_into-requires
enter-walk_into-requires t c =
    let a = c.args in
    let w = a.w.now in
    let s = w.state.now in
    let l = tables_held w.tables.now in
    let on = onward-reached _ _ _ c.requires (sym c.go_on.ensures ∙ c.in_ok-at.was) in
    let n = near on.0 in
    (omega (arith, on.1, n.table), on.0)

pub enter-returns-in-Ok-clause-opened : goal.enter-returns-in-Ok-clause-opened
enter-returns-in-Ok-clause-opened t c =
    let a = c.args in
    let w = a.w.now in
    let s = w.state.now in
    let l = tables_held w.tables.now in
    let on = onward-reached _ _ _ c.requires (sym c.go_on.ensures ∙ c.in_ok-at.was) in
    rw (sym c.in-Ok.is)
    (opened_in s l w.limit w.offset a.table a.id a.so.skipped a.so.listed a.out.now c.go_on.result c.go_on.ensures
    _ c.in_ok-at.was on.1 c.walk_into.result _ c.walk_into.ensures.trip)

pub enter-returns-in-Err-clause-opened : goal.enter-returns-in-Err-clause-opened
enter-returns-in-Err-clause-opened t c f h =
    let a = c.args in
    let w = a.w.now in
    let s = w.state.now in
    let l = tables_held w.tables.now in
    let on = onward-reached _ _ _ c.requires (sym c.go_on.ensures ∙ c.in_ok-at.was) in
    let o = opened_in s l w.limit w.offset a.table a.id a.so.skipped a.so.listed a.out.now c.go_on.result c.go_on.ensures
    _ c.in_ok-at.was on.1 c.walk_into.result _ c.walk_into.ensures.trip f h in
    refused-so _ _ _ _ _ _ (rw c.in-Err.is at o)

pub enter-returns-in-Err-clause-broke : goal.enter-returns-in-Err-clause-broke
enter-returns-in-Err-clause-broke t c = refl

-- ---- the children one after the other

pub walk_into-loop-kid-init : goal.walk_into-loop-kid-init
walk_into-loop-kid-init t c =
    let a = c.args in
    let w = a.w.now in
    let s = w.state.now in
    let l = tables_held w.tables.now in
    let g = ring_held c.ring_at-g.result in
    let b = ring-begun g _ c.begin-from.result c.begin-from.ensures in
    (refl, walking-first s l w.limit w.offset a.cid a.at.table a.at.place a.was a.out.now g c.requires c.ring_at-g.ensures _ b)

pub walk_into-returns-in_err-kid : goal.walk_into-returns-in_err-kid
walk_into-returns-in_err-kid t c =
    let a = c.args in
    let w = a.w.now in
    let s = w.state.now in
    let l = tables_held w.tables.now in
    let g = ring_held c.ring_at-g.result in
    let p = c.loop-kid in
    let k = c.next_child in
    let n = near c.requires in
    let was = ahead_in g p.page p.from in
    let q = err_from_is_err_and c.from_residual.result c.from_residual.ensures.1 in
    let d = kid-refused g a.cid was k.new.page k.new.at k.result k.ensures _ c.in_err-kid.was in
    rw (q.1, q.2) (walking-refused _ _ _ _ _ _ _ _ _ _ n.table _ _ _ _ p.invariant.1 _ d)

pub walk_into-returns-then-any : goal.walk_into-returns-then-any
walk_into-returns-then-any t c =
    let a = c.args in
    let w = a.w.now in
    let s = w.state.now in
    let l = tables_held w.tables.now in
    let g = ring_held c.ring_at-g.result in
    let p = c.loop-kid in
    let k = c.next_child in
    let n = near c.requires in
    let was = ahead_in g p.page p.from in
    walking-done _ _ _ _ _ _ _ _ _ _ n.table _ _ _ _ p.invariant.1
    (kid-done g a.cid was k.new.page k.new.at k.result k.ensures (c.in_ok-kid.was ∙ ap Ok c.in_default.is)) c.if-any.true

pub walk_into-returns : goal.walk_into-returns
walk_into-returns t c =
    let a = c.args in
    let w = a.w.now in
    let s = w.state.now in
    let l = tables_held w.tables.now in
    let g = ring_held c.ring_at-g.result in
    let p = c.loop-kid in
    let k = c.next_child in
    let n = near c.requires in
    let was = ahead_in g p.page p.from in
    walking-none _ _ _ _ _ _ _ _ _ _ n.table _ _ _ _ p.invariant.1
    (kid-done g a.cid was k.new.page k.new.at k.result k.ensures (c.in_ok-kid.was ∙ ap Ok c.in_default.is)) c.if-any.false

pub walk_into-returns-in_err-so-in-Entered : goal.walk_into-returns-in_err-so-in-Entered
walk_into-returns-in_err-so-in-Entered t c =
    let a = c.args in
    let w = a.w.now in
    let s = w.state.now in
    let l = tables_held w.tables.now in
    let g = ring_held c.ring_at-g.result in
    let p = c.loop-kid in
    let k = c.next_child in
    let n = near c.requires in
    let was = ahead_in g p.page p.from in
    let e = c.in-Some.kid.entry in
    let z = kid-next g a.cid was k.new.page k.new.at k.result k.ensures c.in-Some.kid (c.in_ok-kid.was ∙ ap Ok c.in-Some.is) in
    let by = visit-by s l w.limit w.offset a.at.table e p.so.skipped p.so.listed p.out c.fate_of.result c.fate_of.ensures in
    let v = by _ c.in-Entered.is c.enter.result _ c.enter.ensures.opened c.enter.result _ refl refl in
    let r = c.from_residual-in_err-so-in-Entered in
    let q = err_from_is_err_and r.result r.ensures.1 in
    let d = c.in_err-so-in-Entered.was in
    let b = rw d at c.enter.ensures.broke in
    rw (q.1, q.2) (walking-broke _ _ _ _ _ _ _ _ _ _ n.table _ _ _ _ p.invariant.1 c.ring_at-g.ensures _ e c.enter.result _ v _ z _ d b)

pub walk_into-returns-in_err-so-in-Listed : goal.walk_into-returns-in_err-so-in-Listed
walk_into-returns-in_err-so-in-Listed t c =
    let a = c.args in
    let w = a.w.now in
    let s = w.state.now in
    let l = tables_held w.tables.now in
    let g = ring_held c.ring_at-g.result in
    let p = c.loop-kid in
    let k = c.next_child in
    let n = near c.requires in
    let was = ahead_in g p.page p.from in
    let e = c.in-Some.kid.entry in
    let z = kid-next g a.cid was k.new.page k.new.at k.result k.ensures c.in-Some.kid (c.in_ok-kid.was ∙ ap Ok c.in-Some.is) in
    let by = visit-by s l w.limit w.offset a.at.table e p.so.skipped p.so.listed p.out c.fate_of.result c.fate_of.ensures in
    let v = by _ c.in-Listed.is c.list_one.result _ (λ f h. c.list_one.ensures.does) c.list_one.result _ refl refl in
    let r = c.from_residual-in_err-so-in-Listed in
    let q = err_from_is_err_and r.result r.ensures.1 in
    let d = c.in_err-so-in-Listed.was in
    let b = rw d at c.list_one.ensures.broke in
    rw (q.1, q.2) (walking-broke _ _ _ _ _ _ _ _ _ _ n.table _ _ _ _ p.invariant.1 c.ring_at-g.ensures _ e c.list_one.result _ v _ z _ d b)

pub walk_into-returns-then-so-w : goal.walk_into-returns-then-so-w
walk_into-returns-then-so-w t c =
    let a = c.args in
    let w = a.w.now in
    let s = w.state.now in
    let l = tables_held w.tables.now in
    let g = ring_held c.ring_at-g.result in
    let p = c.loop-kid in
    let k = c.next_child in
    let n = near c.requires in
    let was = ahead_in g p.page p.from in
    let e = c.in-Some.kid.entry in
    let z = kid-next g a.cid was k.new.page k.new.at k.result k.ensures c.in-Some.kid (c.in_ok-kid.was ∙ ap Ok c.in-Some.is) in
    let by = visit-by s l w.limit w.offset a.at.table e p.so.skipped p.so.listed p.out c.fate_of.result c.fate_of.ensures in
    let m = c.match-fate_of in
    let v : Visited s l w.limit w.offset a.at.table e p.so.skipped p.so.listed p.out (Ok m.so) m.out = elim m.branch [
      | walk_into-in-Entered+in_ok-so-in-Entered u ↦
          let i = ap Ok u.so-is ∙ sym u.in_ok-so-in-Entered.was in
          by _ u.in-Entered.is u.enter.result _ u.enter.ensures.opened (Ok m.so) m.out u.out-is i
      | walk_into-in-Listed+in_ok-so-in-Listed u ↦
          by _ u.in-Listed.is u.list_one.result _ (λ f h. u.list_one.ensures.does) (Ok m.so) m.out u.out-is
          (ap Ok u.so-is ∙ sym u.in_ok-so-in-Listed.was)
      | walk_into-in-Skipped u ↦
          by _ u.in-Skipped.is _ _ (λ f h. does-nothing p.so.listed p.out _ (λ j i. i)) (Ok m.so) m.out u.out-is (ap Ok u.so-is)
    ] in
    walking-stop _ _ _ _ _ _ _ _ _ _ n.table _ _ _ _ p.invariant.1 c.ring_at-g.ensures _ e (Ok m.so) m.out v _ z _ refl c.if-so-w.true

pub walk_into-loop-kid-smaller : goal.walk_into-loop-kid-smaller
walk_into-loop-kid-smaller t c =
    let a = c.args in
    let w = a.w.now in
    let s = w.state.now in
    let l = tables_held w.tables.now in
    let g = ring_held c.ring_at-g.result in
    let p = c.loop-kid in
    let k = c.next_child in
    let n = near c.requires in
    let was = ahead_in g p.page p.from in
    let e = c.in-Some.kid.entry in
    let z = kid-next g a.cid was k.new.page k.new.at k.result k.ensures c.in-Some.kid (c.in_ok-kid.was ∙ ap Ok c.in-Some.is) in
    z.less

pub walk_into-loop-kid-preserved : goal.walk_into-loop-kid-preserved
walk_into-loop-kid-preserved t c =
    let a = c.args in
    let w = a.w.now in
    let s = w.state.now in
    let l = tables_held w.tables.now in
    let g = ring_held c.ring_at-g.result in
    let p = c.loop-kid in
    let k = c.next_child in
    let n = near c.requires in
    let was = ahead_in g p.page p.from in
    let e = c.in-Some.kid.entry in
    let z = kid-next g a.cid was k.new.page k.new.at k.result k.ensures c.in-Some.kid (c.in_ok-kid.was ∙ ap Ok c.in-Some.is) in
    let by = visit-by s l w.limit w.offset a.at.table e p.so.skipped p.so.listed p.out c.fate_of.result c.fate_of.ensures in
    let m = c.match-fate_of in
    let v : Visited s l w.limit w.offset a.at.table e p.so.skipped p.so.listed p.out (Ok m.so) m.out = elim m.branch [
      | walk_into-in-Entered+in_ok-so-in-Entered u ↦
          let i = ap Ok u.so-is ∙ sym u.in_ok-so-in-Entered.was in
          by _ u.in-Entered.is u.enter.result _ u.enter.ensures.opened (Ok m.so) m.out u.out-is i
      | walk_into-in-Listed+in_ok-so-in-Listed u ↦
          by _ u.in-Listed.is u.list_one.result _ (λ f h. u.list_one.ensures.does) (Ok m.so) m.out u.out-is
          (ap Ok u.so-is ∙ sym u.in_ok-so-in-Listed.was)
      | walk_into-in-Skipped u ↦
          by _ u.in-Skipped.is _ _ (λ f h. does-nothing p.so.listed p.out _ (λ j i. i)) (Ok m.so) m.out u.out-is (ap Ok u.so-is)
    ] in
    let r = c.ring_at-g.ensures in
    let h = walking_on _ _ _ _ _ _ _ _ _ _ n.table _ _ _ _ p.invariant.1 r _ e (Ok m.so) m.out v _ z _ refl c.if-so-w.false m.auto.out in
    (k.auto.page ∙ p.invariant.0, h)
