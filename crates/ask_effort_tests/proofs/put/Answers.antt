-- `put` meets its contract, by its ways out. Assumes nothing.
use Rattle.std.proofs.Common.{refl, sym, ◌∙◌, get_or}
use borrow.Author.Tests.{eq-eqb, ne_eqb, lt-ltb, le-ltb}
use Rattle.kdslots.specs.Slots.{over}
use Rattle.ask_effort_tests.proofs.Turns.{same_went, put_is, put-past}
use Rattle.ask_effort_tests.proofs.put.Goals as goal
use Rattle.ask_effort_tests.proofs.put.Goals.{then-at-out, else-at-out}

pub returns-then-at-eq0 : goal.returns-then-at-eq0
returns-then-at-eq0 c =
    let a = c.args in
    let s = a.s.now in
    put_is (over s.query s.coords.now) a.ids.now s.n a.i a.at a.out.now (eq-eqb _ _ c.if-at-eq0.true) refl refl

pub returns-then-not-tests : goal.returns-then-not-tests
returns-then-not-tests c =
    let a = c.args in
    let s = a.s.now in
    put_is (over s.query s.coords.now) a.ids.now s.n a.i a.at a.out.now (ne_eqb _ _ c.if-at-eq0.false)
    (sym c.tests.ensures ∙ c.if-not-tests.true) refl

pub returns-then-s-p : goal.returns-then-s-p
returns-then-s-p c =
    let a = c.args in
    let s = a.s.now in
    put_is (over s.query s.coords.now) a.ids.now s.n a.i a.at a.out.now (ne_eqb _ _ c.if-at-eq0.false)
    (sym c.tests.ensures ∙ c.if-not-tests.false) (le-ltb (get_or a.ids.now a.i 0) s.n c.if-s-p.true)

pub returns : goal.returns
returns c =
    let a = c.args in
    let s = a.s.now in
    let o = over s.query s.coords.now in
    let low = lt-ltb (get_or a.ids.now a.i 0) s.n c.if-s-p.false in
    elim c.if-at-out.branch [
      | then-at-out w ↦ same_went refl w.out-is
          ∙ put_is o a.ids.now s.n a.i a.at a.out.now (ne_eqb _ _ c.if-at-eq0.false) (sym c.tests.ensures ∙ c.if-not-tests.false) low
      | else-at-out w ↦ same_went refl w.out-is
          ∙ put-past o a.ids.now s.n a.i a.at a.out.now (ne_eqb _ _ c.if-at-eq0.false) (sym c.tests.ensures ∙ c.if-not-tests.false) low
          w.if-at-out.false
    ]
