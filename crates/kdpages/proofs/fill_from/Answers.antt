-- `kdpages::fill_from` meets its contract: what is left of the interval fills what is left of the page. Assumes nothing.
use Rattle.std.proofs.Common.{sym, ◌∙◌, refl, ◌+◌, ◌-◌}
use Rattle.kdslots.specs.Slots.{over, scanned}
use Rattle.kdpages.proofs.Stores.{same_store, full, scan-skips, scan-stores, scan-over}
use Rattle.kdpages.proofs.fill_from.Goals as goal
use Rattle.kdpages.proofs.fill_from.Goals.{then-tests, else-tests}

pub loop-i-init : goal.loop-i-init
loop-i-init c = (refl, refl)

pub returns-then-page-k : goal.returns-then-page-k
returns-then-page-k c =
    let a = c.args in
    let o = over a.s.now.query a.s.now.coords.now in
    full c.loop-i.k (scanned o c.loop-i.i (a.hi - c.loop-i.i)) c.loop-i.page c.if-page-k.true ∙ sym c.loop-i.invariant.1

pub loop-i-preserved : goal.loop-i-preserved
loop-i-preserved c =
    let a = c.args in
    let o = over a.s.now.query a.s.now.coords.now in
    let rest = scanned o (c.loop-i.i + 1) (a.hi - (c.loop-i.i + 1)) in (
      c.if-tests.auto.page ∙ c.loop-i.invariant.0,
      c.loop-i.invariant.1 ∙ elim c.if-tests.branch [
        | then-tests w ↦ scan-stores o c.loop-i.i a.hi c.loop-i.k c.loop-i.page c.loop-i-test.true
            (sym c.tests.ensures ∙ w.if-tests.true) c.if-page-k.false ∙ sym (same_store rest w.k-is w.page-is)
        | else-tests w ↦ scan-skips o c.loop-i.i a.hi c.loop-i.k c.loop-i.page c.loop-i-test.true
            (sym c.tests.ensures ∙ w.if-tests.false) ∙ sym (same_store rest w.k-is w.page-is)
      ],
    )

pub returns : goal.returns
returns c =
    let a = c.args in
    scan-over (over a.s.now.query a.s.now.coords.now) c.loop-i.i a.hi c.loop-i.k c.loop-i.page c.loop-i-test.false
    ∙ sym c.loop-i.invariant.1
