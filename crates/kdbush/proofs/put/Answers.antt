-- `kdbush::put` meets its contract, by its ways out. Assumes nothing.
use Rattle.std.proofs.Common.{sym, refl, ◌∙◌}
use Rattle.kdslots.specs.Slots.{over}
use Rattle.kdbush.proofs.Runs.{same_ran, put-none, put-spoiled, put-fits, put-past}
use Rattle.kdbush.proofs.put.Goals as goal
use Rattle.kdbush.proofs.put.Goals.{then-at-out, else-at-out}

pub returns-then-not-tests : goal.returns-then-not-tests
returns-then-not-tests c =
    let a = c.args in
    let s = a.s.now in
    put-none s.n a.at a.ids.now a.i ((over s.query s.coords.now).test a.i) a.out.now (sym c.if-not-tests.ensures)

pub returns-then-s-p : goal.returns-then-s-p
returns-then-s-p c =
    let a = c.args in
    let s = a.s.now in
    put-spoiled s.n a.at a.ids.now a.i ((over s.query s.coords.now).test a.i) a.out.now (sym c.if-not-tests.ensures) c.if-s-p.true

pub returns : goal.returns
returns c =
    let a = c.args in
    let s = a.s.now in
    let t = (over s.query s.coords.now).test a.i in
    elim c.if-at-out.branch [
      | then-at-out w ↦ same_ran refl w.out-is
          ∙ put-fits s.n a.at a.ids.now a.i t a.out.now (sym c.if-not-tests.ensures) c.if-s-p.false
      | else-at-out w ↦ same_ran refl w.out-is
          ∙ put-past s.n a.at a.ids.now a.i t a.out.now (sym c.if-not-tests.ensures) c.if-s-p.false w.if-at-out.false
    ]
