-- `supercluster::load` meets its contract: what `check` lets pass, `build_fronts` builds; and each of its refusals is handed on, with no
-- column written. Assumes nothing.
use Rattle.std.proofs.Common.{◌≡◌, ap, sym, ◌∙◌, subst, length, Err, Result}
use Rattle.std.proofs.lemmas.Result.{err_from_is_err_and}
use Rattle.refusals.specs.declared.Refusal.{Refusal}
use Rattle.build_tables.specs.declared.State.{State}
use Rattle.build_tables.specs.Rows.{cols}
use Rattle.supercluster.specs.Lent.{columns_held}
use Rattle.supercluster.specs.Build.{build_columns, need, outcome, loaded}
use Rattle.supercluster.specs.laws.Load.{accepted, holds, checked-by, tables-told, refusal-told}
use Rattle.supercluster.proofs.load.Goals as goal

pub returns-in_err-check-clause-value : goal.returns-in_err-check-clause-value
returns-in_err-check-clause-value c =
    let a = c.args in
    let p = a.points.now in
    let l = columns_held a.t.now in
    let r = checked-by a.o p.xs.now p.ys.now p.energies.now l c.room_for_build.result c.check.result c.room_for_build.ensures c.check.ensures in
    let q = err_from_is_err_and c.from_residual.result c.from_residual.ensures.1 in
    subst (λ (b : Result State Refusal). outcome b l ≡ loaded a.o p.xs.now p.ys.now p.energies.now l) (sym (q.1 ∙ ap Err q.2))
    (refusal-told a.o p.xs.now p.ys.now p.energies.now l c.check.result _ r c.in_err-check.was)

pub build_fronts-state-requires : goal.build_fronts-state-requires
build_fronts-state-requires c =
    let a = c.args in
    let p = a.points.now in
    let l = columns_held a.t.now in
    let r = checked-by a.o p.xs.now p.ys.now p.energies.now l c.room_for_build.result c.check.result c.room_for_build.ensures c.check.ensures in
    let w = accepted a.o p.xs.now p.ys.now p.energies.now l (sym r ∙ c.in_ok-check.was) in
    (w.0, holds (need a.o (length p.xs.now)) l w.1)

pub returns-clause-value : goal.returns-clause-value
returns-clause-value c =
    let a = c.args in
    let p = a.points.now in
    let l = columns_held a.t.now in
    let b = c.build_fronts-state.new in
    tables-told a.o p.xs.now p.ys.now p.energies.now l c.check.result c.build_fronts-state.result
    (build_columns (cols b.x b.y b.seen b.id b.parent b.num b.energy) b.ids b.coords b.near)
    (checked-by a.o p.xs.now p.ys.now p.energies.now l c.room_for_build.result c.check.result c.room_for_build.ensures c.check.ensures)
    c.in_ok-check.was c.build_fronts-state.ensures.0 c.build_fronts-state.ensures.1
