-- `build_tables::columns::Entries::at` meets its contract: what the columns have at i is row i. Assumes nothing.
use mathlib.Core.Path.{sym}
use borrow.Author.Rules.{rules}
use Rattle.build_tables.specs.laws.Rows.{rows-entry}
use Rattle.build_tables.proofs.columns.Entries.at.Goals as goal

pub returns : goal.returns
returns c = sym (rows-entry _ _ (search rules))
