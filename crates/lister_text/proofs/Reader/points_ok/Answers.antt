-- `lister_text::Reader::points_ok` meets its contract: what is left of the points decides. Assumes nothing.
use Rattle.std.proofs.Common.{◌≡◌, sym, ◌∙◌, arith, ◌+◌, ◌-◌}
use Rattle.lister_text.specs.laws.Form.{points_ok, ok_step, ok_end}
use Rattle.lister_text.proofs.Reader.points_ok.Goals as goal

pub returns-in_default : goal.returns-in_default
returns-in_default c =
    let l = c.loop in
    sym (ok_step _ l.self.text.now l.self.at _ (omega arith) (sym c.in_default.ensures.read)) ∙ l.invariant.1

pub loop-preserved : goal.loop-preserved
loop-preserved c =
    let l = c.loop in
    let new = c.point.new.self in
    let one : c.args.n - (l.counter + 1) ≡ c.args.n - l.counter - 1 = omega arith in (
      c.in-Some.ensures.text ∙ l.invariant.0,
      (λ k. points_ok (one k) (c.in-Some.ensures.text k).now new.at)
          ∙ sym (ok_step _ l.self.text.now l.self.at _ (omega arith) (sym c.in-Some.ensures.read)) ∙ l.invariant.1,
    )

pub returns : goal.returns
returns c = let l = c.loop in sym (ok_end _ l.self.text.now l.self.at (omega arith)) ∙ l.invariant.1
