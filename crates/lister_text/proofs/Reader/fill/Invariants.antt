-- `lister_text::Reader::fill` meets its contract: what is left of the points fills the columns from i on. Assumes nothing.
use Rattle.std.proofs.Common.{◌≡◌, ◌-◌}
use Rattle.lister_text.specs.Lent.{held_lamps}
use Rattle.lister_text.specs.laws.Form.{filled_form}
use Rattle.lister_text.proofs.Reader.fill.Given as goal

abbrev pub invariant-loop-i : goal.invariant-loop-i
invariant-loop-i l =
    (l.self.text ≡ l.initial.self.text)
    × (filled_form (l.n - l.i) l.self.text.now l.self.at l.i (held_lamps l.lamps)
    ≡ filled_form l.n l.initial.self.text.now l.initial.self.at 0 (held_lamps l.initial.lamps))
