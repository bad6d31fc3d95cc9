-- `lister_text::Reader::fill` meets its contract: what is left of the points fills the columns from i on. Assumes nothing.
use Rattle.std.proofs.Common.{◌≡◌, ℕ, List, sym, ◌∙◌, arith, ◌+◌, ◌-◌}
use Rattle.lister_text.specs.Text.{PointCols}
use Rattle.lister_text.specs.laws.Form.{filled_form, filled-step, filled-end}
use Rattle.lister_text.proofs.Reader.fill.Goals as goal

from_here : (n m : ℕ) (s t : List ℕ) (at i : ℕ) (d : PointCols) → n ≡ m → s ≡ t → filled_form n s at i d ≡ filled_form m t at i d
from_here n m s t at i d e q = λ k. filled_form (e k) (q k) at i d

pub returns-in_default : goal.returns-in_default
returns-in_default c =
    let l = c.loop-i in
    sym (filled-step _ _ _ l.i _ _ (omega arith) (sym c.in_default.ensures.read)) ∙ l.invariant.1

pub loop-i-preserved : goal.loop-i-preserved
loop-i-preserved c =
    let l = c.loop-i in
    let new = c.point.new.self in
    let one : c.args.n - (l.i + 1) ≡ c.args.n - l.i - 1 = omega arith in (
      c.in-Some.ensures.text ∙ l.invariant.0,
      rw (c.coordinate.ensures, c.coordinate-in-loop-i.ensures)
          (from_here _ _ _ _ new.at (l.i + 1) _ one (λ k. (c.in-Some.ensures.text k).now)
          ∙ sym (filled-step _ l.self.text.now l.self.at l.i _ _ (omega arith) (sym c.in-Some.ensures.read)) ∙ l.invariant.1),
    )

pub returns : goal.returns
returns c = let l = c.loop-i in sym (filled-end _ l.self.text.now l.self.at l.i _ (omega arith)) ∙ l.invariant.1
