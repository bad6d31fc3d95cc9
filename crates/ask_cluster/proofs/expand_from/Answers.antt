-- `ask_cluster::expand_from` meets its contract: a turn of the loop is one fetch of the definition. Assumes nothing.
use mathlib.Core.Bool.{true}
use mathlib.Core.Path.{◌≡◌, ap, subst, ◌∙◌}
use native.Mathlib.Omega.{arith}
use Prim.Native.Nat.{ℕ, ◌+◌, ◌-◌, ◌<◌, ◌≤◌}
use Rattle.std.specs.Prelude.{Ok}
use Rattle.std.proofs.lemmas.Result.{err_from_is_err_and}
use Rattle.build_tables.specs.Lent.{tables_held}
use Rattle.build_tables.specs.Room.{room_of}
use Rattle.build_tables.specs.laws.Sound.{given}
use Rattle.ask_cluster.specs.Expansion.{expand}
use Rattle.ask_cluster.proofs.Climbing.{turn-refused, turn-nobody, turn-nobody-in, turn-others, turn-top, turn-lost, turn_on}
use Rattle.ask_cluster.proofs.Climbing.{Rising, renamed}
use Rattle.ask_cluster.proofs.expand_from.Goals.{then-z-top+in_ok-from-in-Cluster, else-z-top}
use Rattle.ask_cluster.proofs.expand_from.Goals as goal

pub returns-in_err-fetch : goal.returns-in_err-fetch
returns-in_err-fetch c =
    let a = c.args in
    let s = a.s.now in
    let l = tables_held a.t.now in
    let top = s.options.max_zoom in
    let E = expand s l (top + 1 - (a.at.table - 1)) (Ok a.at) a.cid (a.at.table - 1) true in
    let z = c.loop-z in
    let w = z.invariant.on (omega (arith, c.loop-z-test.true)) in
    let p = err_from_is_err_and c.from_residual.result c.from_residual.ensures.1 in
    rw (p.1, p.2) (turn-refused s l top E (z.z - 1) z.of z.from z.first w c.fetch.result c.fetch.ensures _ c.in_err-fetch.was)

pub returns-then-first : goal.returns-then-first
returns-then-first c =
    let a = c.args in
    let s = a.s.now in
    let l = tables_held a.t.now in
    let top = s.options.max_zoom in
    let E = expand s l (top + 1 - (a.at.table - 1)) (Ok a.at) a.cid (a.at.table - 1) true in
    let z = c.loop-z in
    let w = z.invariant.on (omega (arith, c.loop-z-test.true)) in
    let d = c.in_ok-fetch.was ∙ ap Ok c.in-Nobody.is in
    turn-nobody s l top E (z.z - 1) z.of z.from z.first w c.fetch.result c.fetch.ensures d c.if-first.true

pub returns-in-Nobody : goal.returns-in-Nobody
returns-in-Nobody c =
    let a = c.args in
    let s = a.s.now in
    let l = tables_held a.t.now in
    let top = s.options.max_zoom in
    let E = expand s l (top + 1 - (a.at.table - 1)) (Ok a.at) a.cid (a.at.table - 1) true in
    let z = c.loop-z in
    let w = z.invariant.on (omega (arith, c.loop-z-test.true)) in
    let d = c.in_ok-fetch.was ∙ ap Ok c.in-Nobody.is in
    turn-nobody-in s l top E (z.z - 1) z.of z.from z.first w c.fetch.result c.fetch.ensures d c.if-first.false

pub overflow_cast-result : goal.overflow_cast-result
overflow_cast-result c =
    let g = given c.args.s.now (room_of (tables_held c.args.t.now)) c.requires.good in
    omega (arith, g.zoom-to, c.loop-z-test.true)

pub overflow_cast-result-2 : goal.overflow_cast-result-2
overflow_cast-result-2 c =
    let g = given c.args.s.now (room_of (tables_held c.args.t.now)) c.requires.good in
    omega (arith, g.zoom-to)

pub returns-in-Others : goal.returns-in-Others
returns-in-Others c =
    let a = c.args in
    let s = a.s.now in
    let l = tables_held a.t.now in
    let top = s.options.max_zoom in
    let E = expand s l (top + 1 - (a.at.table - 1)) (Ok a.at) a.cid (a.at.table - 1) true in
    let z = c.loop-z in
    let w = z.invariant.on (omega (arith, c.loop-z-test.true)) in
    let e : z.z ≡ z.z - 1 + 1 = omega (arith, z.invariant.some) in
    let d = c.in_ok-fetch.was ∙ ap Ok c.in-Others.is in
    ap Ok e ∙ turn-others s l top E (z.z - 1) z.of z.from z.first w c.fetch.result c.fetch.ensures d

pub returns-in_err-from-in-Cluster : goal.returns-in_err-from-in-Cluster
returns-in_err-from-in-Cluster c =
    let a = c.args in
    let s = a.s.now in
    let l = tables_held a.t.now in
    let top = s.options.max_zoom in
    let E = expand s l (top + 1 - (a.at.table - 1)) (Ok a.at) a.cid (a.at.table - 1) true in
    let z = c.loop-z in
    let w = z.invariant.on (omega (arith, c.loop-z-test.true)) in
    let p = err_from_is_err_and c.from_residual-in_err-from-in-Cluster.result c.from_residual-in_err-from-in-Cluster.ensures.1 in
    rw (p.1, p.2)
    (turn-lost s l top E (z.z - 1) z.of z.from z.first w c.fetch.result c.fetch.ensures _ (c.in_ok-fetch.was ∙ ap Ok c.in-Cluster.is)
    (omega (arith, c.if-z-top.true, z.invariant.some)) c.go_on.result c.go_on.ensures _ c.in_err-from-in-Cluster.was)

pub loop-z-preserved : goal.loop-z-preserved
loop-z-preserved c =
    let a = c.args in
    let s = a.s.now in
    let l = tables_held a.t.now in
    let top = s.options.max_zoom in
    let E = expand s l (top + 1 - (a.at.table - 1)) (Ok a.at) a.cid (a.at.table - 1) true in
    let z = c.loop-z in
    let w = z.invariant.on (omega (arith, c.loop-z-test.true)) in
    let m = c.if-z-top in
    let f = c.fetch.ensures in
    let d = c.in_ok-fetch.was ∙ ap Ok c.in-Cluster.is in
    let e : z.z - 1 + 1 + 1 ≡ z.z + 1 = omega (arith, z.invariant.some) in
    elim m.branch [
      | then-z-top+in_ok-from-in-Cluster v ↦
          let h : z.z - 1 + 1 ≤ top = omega (arith, v.if-z-top.true, z.invariant.some) in
          renamed s l top E _ _ _ _ _ _ _ _ e v.of-is v.from-is v.first-is
          (turn_on s l top E _ _ _ _ w _ f _ d h v.go_on.result v.go_on.ensures _ v.in_ok-from-in-Cluster.was)
      | else-z-top v ↦
          let h : top < z.z - 1 + 1 = omega (arith, v.if-z-top.false) in
          subst (λ (n : ℕ). Rising s l top E n m.of m.from m.first) e
          (turn-top s l top E _ _ _ _ w _ f _ d h m.of m.from m.first)
    ]
