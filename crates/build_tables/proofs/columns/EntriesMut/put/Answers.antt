-- `build_tables::columns::EntriesMut::put` meets its contract: a store in each column is one row set. Assumes nothing.
use borrow.Author.Rules.{rules}
use Rattle.build_tables.specs.laws.Rows.{rows-set}
use Rattle.build_tables.proofs.columns.EntriesMut.put.Goals as goal

pub returns-clause-rows : goal.returns-clause-rows
returns-clause-rows c = rows-set _ _ _ (search rules) (search rules)
