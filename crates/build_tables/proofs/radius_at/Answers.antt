-- `build_tables::radius_at` meets its contract: the table's power is 2 ^ zoom. Assumes nothing.
use mathlib.Core.Path.{ap}
use lib.Ieee.{Float, binary64, mul, div}
use Rattle.build_tables.specs.Radius.{radius_at}
use Rattle.build_tables.proofs.radius_at.Goals as goal

pub returns : goal.returns
unfolding radius_at
returns c = ap (λ (q : Float). div binary64 c.args.radius (mul binary64 c.args.extent q)) c.power.ensures
