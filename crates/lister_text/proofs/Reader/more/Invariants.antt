-- `lister_text::Reader::more` meets its contract: what is left of the number decides. Assumes nothing.
use Rattle.std.proofs.Common.{◌≡◌, ◌≤◌, ◌-◌, length, drop}
use Rattle.lister_text.specs.laws.Scan.{more_text}
use Rattle.lister_text.proofs.Reader.more.Given as goal

abbrev pub invariant-loop-c : goal.invariant-loop-c
invariant-loop-c l =
    (l.self.text ≡ l.initial.self.text)
    × (more_text l.v l.self.at (drop l.self.at l.self.text.now)
    ≡ more_text l.first l.initial.self.at (drop l.initial.self.at l.initial.self.text.now))
    × (l.v ≤ 9999999)

abbrev pub decreases-loop-c : goal.decreases-loop-c
decreases-loop-c l = length l.self.text.now - l.self.at
