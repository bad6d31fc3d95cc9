-- `lister_text::Reader::points_ok` meets its contract: what is left of the points decides. Assumes nothing.
use Rattle.std.proofs.Common.{◌≡◌, ◌-◌}
use Rattle.lister_text.specs.laws.Form.{points_ok}
use Rattle.lister_text.proofs.Reader.points_ok.Given as goal

abbrev pub invariant-loop : goal.invariant-loop
invariant-loop l =
    (l.self.text ≡ l.initial.self.text)
    × (points_ok (l.n - l.counter) l.self.text.now l.self.at ≡ points_ok l.n l.initial.self.text.now l.initial.self.at)
