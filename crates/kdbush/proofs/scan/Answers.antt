-- `kdbush::scan` meets its contract: what is left of the interval gives the rest of the run. Assumes nothing.
use Rattle.std.proofs.Common.{sym, ◌∙◌, refl, arith}
use Rattle.kdslots.specs.Slots.{over}
use Rattle.kdbush.proofs.Runs.{same_ran, scan-more, scan-ends, scan-done, put_count}
use Rattle.kdbush.proofs.scan.Goals as goal

pub loop-i-init : goal.loop-i-init
loop-i-init c = (refl, c.requires.2, refl)

pub returns-in_err-k : goal.returns-in_err-k
returns-in_err-k c =
    let a = c.args in
    let s = a.s.now in
    same_ran c.from_residual.ensures refl
    ∙ scan-ends (over s.query s.coords.now) a.ids.now s.n c.loop-i.k c.loop-i.i a.v.hi c.loop-i.out c.put.new.out c.loop-i-test.true
    c.in_err-k.ensures
    ∙ sym c.loop-i.invariant.2

pub loop-i-preserved : goal.loop-i-preserved
loop-i-preserved c =
    let a = c.args in
    let s = a.s.now in
    let q = over s.query s.coords.now in
    let o = c.put.new.out in
    let j = c.in_ok-k.k in (
      c.put.auto.out ∙ c.loop-i.invariant.0,
      omega (arith, put_count s.n c.loop-i.k j a.ids.now c.loop-i.i (q.test c.loop-i.i) c.loop-i.out o c.in_ok-k.ensures),
      c.loop-i.invariant.2 ∙ scan-more q a.ids.now s.n c.loop-i.k j c.loop-i.i a.v.hi c.loop-i.out o c.loop-i-test.true c.in_ok-k.ensures,
    )

pub returns : goal.returns
returns c =
    let a = c.args in
    let s = a.s.now in
    scan-done (over s.query s.coords.now) a.ids.now s.n c.loop-i.k c.loop-i.i a.v.hi c.loop-i.out c.loop-i-test.false
    ∙ sym c.loop-i.invariant.2
