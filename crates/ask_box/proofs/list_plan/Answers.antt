-- `list_plan` meets its contract, by its ways out. Assumes nothing.
use mathlib.Core.Path.{refl, sym, ◌∙◌}
use native.Mathlib.Omega.{arith}
use Rattle.std.proofs.lemmas.Result.{err_from_is_err_and}
use Rattle.ask_box.proofs.Plans.{plan-past, plan-only, plan-second-past, plan-both, counts-fit}
use Rattle.ask_box.proofs.list_plan.Goals as goal

pub returns-in_err-k : goal.returns-in_err-k
returns-in_err-k c =
    let a = c.args in
    let o = c.list_one in
    let p = err_from_is_err_and c.from_residual.result c.from_residual.ensures.1 in
    let h = sym c.in_err-k.was ∙ o.ensures.0 in
    rw (p.1, p.2) (plan-past a.p.now a.node_size a.n a.index.now.ids.now a.index.now.coords.now a.out.now o.new.out o.ensures.1 _ h)

pub returns-in_default : goal.returns-in_default
returns-in_default c =
    let a = c.args in
    let o = c.list_one in
    plan-only a.p.now a.node_size a.n a.index.now.ids.now a.index.now.coords.now a.out.now o.new.out o.ensures.1 c.in_ok-k.k
    (sym c.in_ok-k.was ∙ o.ensures.0) c.in_default.is _ c.fit.ensures

pub returns-in_err-j : goal.returns-in_err-j
returns-in_err-j c =
    let a = c.args in
    let o = c.list_one in
    let p = err_from_is_err_and c.from_residual-in_err-j.result c.from_residual-in_err-j.ensures.1 in
    rw (p.1, p.2)
    (plan-second-past a.p.now a.node_size a.n a.index.now.ids.now a.index.now.coords.now a.out.now o.new.out o.ensures.1 c.in_ok-k.k
    (sym c.in_ok-k.was ∙ o.ensures.0) _ c.in-Some.is c.min-from.result c.min-from.ensures c.list_one-2.new.out c.list_one-2.ensures.1
    _ (sym c.in_err-j.was ∙ c.list_one-2.ensures.0))

pub overflow_add-k : goal.overflow_add-k
overflow_add-k c =
    let a = c.args in
    let o = c.list_one in
    let i = a.index.now in
    let f = counts-fit a.p.now.first c.in-Some.query a.node_size a.n i.ids.now i.coords.now c.requires c.in_ok-k.k c.in_ok-j.j
    (sym c.in_ok-k.was ∙ o.ensures.0) (sym c.in_ok-j.was ∙ c.list_one-2.ensures.0) in
    omega (arith, f)

pub returns : goal.returns
returns c =
    let a = c.args in
    let o = c.list_one in
    plan-both a.p.now a.node_size a.n a.index.now.ids.now a.index.now.coords.now a.out.now o.new.out o.ensures.1 c.in_ok-k.k
    (sym c.in_ok-k.was ∙ o.ensures.0) _ c.in-Some.is c.min-from.result c.min-from.ensures c.list_one-2.new.out c.list_one-2.ensures.1
    c.in_ok-j.j (sym c.in_ok-j.was ∙ c.list_one-2.ensures.0) _ _ refl c.fit-2.ensures
