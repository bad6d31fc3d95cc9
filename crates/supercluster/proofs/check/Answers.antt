-- `supercluster::check` meets its contract: each test is one of SCOPE's, in its order. Assumes nothing.
use Rattle.std.proofs.Common.{sym, ◌∙◌}
use Rattle.build_tables.specs.laws.Bounds.{options-are}
use Rattle.supercluster.proofs.check.Goals as goal

pub table_count-requires : goal.table_count-requires
table_count-requires c = (options-are c.args.o (sym c.is_in_bounds.ensures ∙ c.if-not-is_in_bounds.false)).zooms
