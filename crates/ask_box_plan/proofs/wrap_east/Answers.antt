-- `wrap_east` meets its contract. Assumes nothing.
use lib.Ieee.{of_bits, of_int, round}
use Rattle.ask_box_plan.proofs.wrap_east.Goals as goal

pub returns-then-v : goal.returns-then-v
unfolding of_bits of_int round
returns-then-v c = simp c.if-v.true

pub returns : goal.returns
unfolding of_bits of_int round
returns c = simp (c.if-v.false, c.wrap.ensures)
