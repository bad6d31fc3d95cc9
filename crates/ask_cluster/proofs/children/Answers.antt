-- `ask_cluster::children` meets its contract: the id leads to a refusal, or to a ring, whose children are the answer. Assumes nothing.
use mathlib.Core.Path.{sym, ◌∙◌}
use Rattle.std.proofs.lemmas.Result.{err_from_is_err_and}
use Rattle.build_tables.specs.Lent.{tables_held}
use Rattle.ask_base.specs.laws.Reached.{target-reached}
use Rattle.ask_base.specs.laws.Around.{ring_held}
use Rattle.ask_cluster.proofs.Led.{Led, reached, Looked, looked}
use Rattle.ask_cluster.proofs.GivesChildren.{children-refused, gives-spoiled, gives_none, gives-some}
use Rattle.ask_cluster.proofs.children.Goals as goal

pub returns-in_err-at : goal.returns-in_err-at
returns-in_err-at c =
    let a = c.args in
    let l = tables_held a.t.now in
    let q : Led a.s l a.cid c.room-cap.result c.find_target.result = record { room = c.room-cap.ensures; target = c.find_target.ensures } in
    let p = err_from_is_err_and c.from_residual.result c.from_residual.ensures.1 in
    rw (p.1, p.2) (children-refused q _ c.in_err-at.was a.out.now)

pub ring_at-g-requires-clause-reached : goal.ring_at-g-requires-clause-reached
ring_at-g-requires-clause-reached c =
    let a = c.args in
    let at = c.in_ok-at.at in
    target-reached a.s c.room-cap.result a.cid at.table at.place (sym c.find_target.ensures ∙ c.in_ok-at.was)

pub returns-in_err-k : goal.returns-in_err-k
returns-in_err-k c =
    let a = c.args in
    let l = tables_held a.t.now in
    let q : Led a.s l a.cid c.room-cap.result c.find_target.result = record { room = c.room-cap.ensures; target = c.find_target.ensures } in
    let g = c.ring_at-g in
    let k = c.list_kids in
    let o = c.in_ok-at.at in
    let w : Looked a.s l a.cid o.table o.place a.out.now k.result k.new.out =
    looked a.s l a.cid o.table o.place (reached q o c.in_ok-at.was) (ring_held g.result) g.ensures a.out.now k.result k.new.out k.ensures in
    let p = err_from_is_err_and c.from_residual-in_err-k.result c.from_residual-in_err-k.ensures.1 in
    rw (p.1, p.2) (gives-spoiled q o c.in_ok-at.was w _ c.in_err-k.was)

pub returns-then-k-eq0 : goal.returns-then-k-eq0
returns-then-k-eq0 c =
    let a = c.args in
    let l = tables_held a.t.now in
    let q : Led a.s l a.cid c.room-cap.result c.find_target.result = record { room = c.room-cap.ensures; target = c.find_target.ensures } in
    let g = c.ring_at-g in
    let k = c.list_kids in
    let o = c.in_ok-at.at in
    let w : Looked a.s l a.cid o.table o.place a.out.now k.result k.new.out =
    looked a.s l a.cid o.table o.place (reached q o c.in_ok-at.was) (ring_held g.result) g.ensures a.out.now k.result k.new.out k.ensures in
    gives_none q o c.in_ok-at.was w c.in_ok-k.k c.in_ok-k.was c.if-k-eq0.true

pub returns : goal.returns
returns c =
    let a = c.args in
    let l = tables_held a.t.now in
    let q : Led a.s l a.cid c.room-cap.result c.find_target.result = record { room = c.room-cap.ensures; target = c.find_target.ensures } in
    let g = c.ring_at-g in
    let k = c.list_kids in
    let o = c.in_ok-at.at in
    let w : Looked a.s l a.cid o.table o.place a.out.now k.result k.new.out =
    looked a.s l a.cid o.table o.place (reached q o c.in_ok-at.was) (ring_held g.result) g.ensures a.out.now k.result k.new.out k.ensures in
    gives-some q o c.in_ok-at.was w c.in_ok-k.k c.in_ok-k.was c.if-k-eq0.false c.fit.result c.fit.ensures
