-- `scan` meets its contract: what is left of the interval gives the rest of the tests. Assumes nothing.
use Rattle.std.proofs.Common.{◌≡◌, sym, refl, ◌∙◌, [], ◌∷◌, Ok, Err, arith, rules}
use Rattle.kdslots.specs.Slots.{over}
use Rattle.ask_effort_tests.specs.Trials.{marks}
use Rattle.ask_effort_tests.specs.laws.Spend.{spend-sum}
use Rattle.ask_effort_tests.proofs.Turns.{same_went, scan-more, scan-ends, scan-done}
use Rattle.ask_effort_tests.proofs.scan.Goals as goal

pub loop-i-init : goal.loop-i-init
loop-i-init c = (refl, c.requires.2, refl)

pub returns-in_err-k : goal.returns-in_err-k
returns-in_err-k c =
    let a = c.args in
    let s = a.s.now in
    let x = c.in_err-k.field-0.0 in
    let e : c.from_residual.result ≡ Err x = search rules in
    same_went e refl
    ∙ scan-ends (over s.query s.coords.now) a.ids.now s.n c.loop-i.i a.v.hi c.loop-i.k x c.loop-i.out c.put.new.out c.loop-i-test.true
    c.in_err-k.ensures
    ∙ sym c.loop-i.invariant.2

pub loop-i-preserved : goal.loop-i-preserved
loop-i-preserved c =
    let a = c.args in
    let s = a.s.now in
    let t = over s.query s.coords.now in
    let i = c.loop-i.i in
    let j = c.in_ok-k.k in
    let o = c.put.new.out in (
      c.put.auto.out ∙ c.loop-i.invariant.0,
      omega (arith, spend-sum s.n (marks t a.ids.now (i ∷ [])) c.loop-i.k (Ok j) c.loop-i.out o c.in_ok-k.ensures),
      c.loop-i.invariant.2 ∙ scan-more t a.ids.now s.n i a.v.hi c.loop-i.k j c.loop-i.out o c.loop-i-test.true c.in_ok-k.ensures,
    )

pub returns : goal.returns
returns c =
    let a = c.args in
    let s = a.s.now in
    scan-done (over s.query s.coords.now) a.ids.now s.n c.loop-i.i a.v.hi c.loop-i.k c.loop-i.out c.loop-i-test.false
    ∙ sym c.loop-i.invariant.2
