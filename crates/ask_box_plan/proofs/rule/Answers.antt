-- `rule` meets its contract. Assumes nothing.
use lib.Ieee.{of_bits, of_int, round, neg}
use Rattle.ask_box_plan.specs.Rule.{new_west, new_east}
use Rattle.ask_box_plan.proofs.rule.Goals as goal

pub returns-then-east-west : goal.returns-then-east-west
unfolding new_west new_east of_bits of_int round neg
returns-then-east-west c = (simp c.if-east-west.true, simp c.if-east-west.true)

pub returns : goal.returns
unfolding new_west new_east of_bits of_int round neg
returns c = (simp (c.if-east-west.false, c.wrap-w.ensures), simp (c.if-east-west.false, c.wrap_east-e.ensures))
