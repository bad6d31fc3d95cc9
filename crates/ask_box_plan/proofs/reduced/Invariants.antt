-- The loop of `reduced`: what is left has x's remainder, and is below twice the number that is to be taken. Assumes nothing.
use Rattle.std.specs.Prelude.{◌≡◌, ◌-◌, false, pos}
use Rattle.std.specs.Float.{fin}
use Rattle.ask_box_plan.proofs.Remainder.{Left}
use Rattle.ask_box_plan.proofs.reduced.Given as goal

abbrev pub invariant-loop-i : goal.invariant-loop-i
invariant-loop-i l = Left (1018 - l.i) l.x l.left × (l.t ≡ fin false 45 (pos (1018 - l.i)))
