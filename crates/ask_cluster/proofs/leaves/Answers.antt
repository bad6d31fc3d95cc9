-- `ask_cluster::leaves` meets its contract: the id leads to a refusal, or to a place from which the lamps are walked over. Assumes nothing.
use Rattle.std.proofs.lemmas.Result.{err_from_is_err_and}
use Rattle.build_tables.specs.Lent.{tables_held}
use Rattle.ask_cluster.proofs.Led.{Led, reached}
use Rattle.ask_cluster.proofs.GivesLeaves.{leaves-refused, gives_none, gives-refused-walk, gives-went}
use Rattle.ask_cluster.proofs.leaves.Goals as goal

pub returns-in_err-at : goal.returns-in_err-at
returns-in_err-at c =
    let a = c.args in
    let l = tables_held a.t.now in
    let q : Led a.s l a.cid c.room.result c.find_target.result = record { room = c.room.ensures; target = c.find_target.ensures } in
    let p = err_from_is_err_and c.from_residual.result c.from_residual.ensures.1 in
    rw (p.1, p.2) (leaves-refused q a.limit a.offset _ c.in_err-at.was a.out.now)

pub list_none-requires : goal.list_none-requires
list_none-requires c =
    let a = c.args in
    let l = tables_held a.t.now in
    let q : Led a.s l a.cid c.room.result c.find_target.result = record { room = c.room.ensures; target = c.find_target.ensures } in
    reached q c.in_ok-at.at c.in_ok-at.was

pub walk_into-requires : goal.walk_into-requires
walk_into-requires c =
    let a = c.args in
    let l = tables_held a.t.now in
    let q : Led a.s l a.cid c.room.result c.find_target.result = record { room = c.room.ensures; target = c.find_target.ensures } in
    reached q c.in_ok-at.at c.in_ok-at.was

pub returns-then-limit-eq0 : goal.returns-then-limit-eq0
returns-then-limit-eq0 c =
    let a = c.args in
    let l = tables_held a.t.now in
    let q : Led a.s l a.cid c.room.result c.find_target.result = record { room = c.room.ensures; target = c.find_target.ensures } in
    gives_none q a.limit a.offset c.in_ok-at.at c.in_ok-at.was c.if-limit-eq0.true a.out.now c.list_none.result c.list_none.ensures

pub returns-in_err-so : goal.returns-in_err-so
returns-in_err-so c =
    let a = c.args in
    let l = tables_held a.t.now in
    let q : Led a.s l a.cid c.room.result c.find_target.result = record { room = c.room.ensures; target = c.find_target.ensures } in
    let p = err_from_is_err_and c.from_residual-in_err-so.result c.from_residual-in_err-so.ensures.1 in
    rw (p.1, p.2)
    (gives-refused-walk q a.limit a.offset c.in_ok-at.at c.in_ok-at.was c.if-limit-eq0.false c.walk_into.result a.out.now _
    c.walk_into.ensures _ c.in_err-so.was)

pub returns : goal.returns
returns c =
    let a = c.args in
    let l = tables_held a.t.now in
    let q : Led a.s l a.cid c.room.result c.find_target.result = record { room = c.room.ensures; target = c.find_target.ensures } in
    gives-went q a.limit a.offset c.in_ok-at.at c.in_ok-at.was c.if-limit-eq0.false c.walk_into.result a.out.now _ c.walk_into.ensures
    c.in_ok-so.so c.in_ok-so.was c.fit.result c.fit.ensures
