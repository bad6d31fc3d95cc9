-- `wrap` meets its contract. Assumes nothing.
use lib.Ieee.{of_bits, of_int, round}
use Rattle.ask_box_plan.specs.Rule.{wrapped}
use Rattle.ask_box_plan.proofs.wrap.Goals as goal

pub returns : goal.returns
unfolding wrapped of_bits of_int round
returns c = simp (c.rest.ensures, c.rest-2.ensures)
