-- `floats::in_unit` meets its contract: the two tests are those of `in01`. Assumes nothing.
use Rattle.std.proofs.Common.{Bool, ◌&&◌, sym, ap, ◌∙◌}
use lib.Ieee.{le, of_bits}
use Rattle.floats.specs.Numbers.{one}
use Rattle.floats.proofs.in_unit.Goals as goal

pub returns-then-x : goal.returns-then-x
unfolding of_bits
returns-then-x c = sym (ap (λ (b : Bool). b && le c.args.x one) c.if-x.true)

pub returns-else-x : goal.returns-else-x
unfolding of_bits
returns-else-x c = c.if-x.false ∙ sym (ap (λ (b : Bool). b && le c.args.x one) c.if-x.false)
