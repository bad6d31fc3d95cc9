-- `build_owners::Build::send` meets its contract: at the head of the loop the first d entries are where their lamps' owners stand. Assumes
-- nothing.
use Rattle.std.proofs.Common.{arith}
use Rattle.build_tables.specs.Lent.{held}
use Rattle.build_tables.specs.laws.Rows.{rows-length}
use Rattle.build_owners.proofs.Build.send.Goals as goal

pub at-e-requires : goal.at-e-requires
at-e-requires c = omega (arith, c.requires.1.inside, rows-length (held c.args.self.now.entries))
