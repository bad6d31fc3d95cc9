-- `floats::power` meets its contract: the bits are those of the power. Assumes nothing.
use Rattle.std.proofs.Common.{rules}
use Rattle.floats.specs.laws.Powers.{power-is, power-number}
use Rattle.floats.proofs.power.Goals as goal

pub float_from_bits-result : goal.float_from_bits-result
float_from_bits-result c = power-number c.args.n (search rules)

pub returns : goal.returns
returns c = power-is c.args.n (search rules)
