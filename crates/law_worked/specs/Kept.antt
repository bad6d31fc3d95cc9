-- SCOPE's row of the owners: in the column that the worked build fills, the lamps own themselves in table 2, the first two and the last two
-- share one in table 1, and all four in table 0. Assumes nothing.
use Rattle.std.specs.Prelude.{◌≡◌, refl, [], ◌∷◌}
use Rattle.std.proofs.Common.{ap, ◌∙◌}
use Rattle.supercluster.specs.Build.{tables_of}
use Rattle.build_owners.specs.OwnerColumn.{place_of, owner_in, owner_column}
use Rattle.law_worked.specs.Tables.{options, xs, ys, ws, at, shown, tables-are}

pub worked-owners : owner_column 4 (tables_of (options 64) xs ys ws) ≡ 0 ∷ 1 ∷ 2 ∷ 3 ∷ 0 ∷ 0 ∷ 1 ∷ 1 ∷ 0 ∷ 0 ∷ 0 ∷ 0 ∷ []
unfolding place_of owner_in owner_column shown at
worked-owners = ap (owner_column 4) tables-are ∙ refl
