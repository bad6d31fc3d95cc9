-- The ten lent columns of a build in a contract, each named once. Definitions only.
use Rattle.std.specs.Prelude.{ℕ, Float}
use denote.Triple.Both.{Both}
use Rattle.lent.specs.Lent.{SliceMut as SM, LentMut as LM}
use Rattle.build_tables.specs.declared.columns.TablesMut.{TablesMut}
use Rattle.build_tables.specs.Rows.{cols}
use Rattle.build_tables.specs.Lent.{given_mut}
use Rattle.supercluster.specs.Build.{BuildColumns, build_columns}

-- ten columns that are written, one by one: in a `requires`
abbrev pub given_all_mut : SM Float → SM Float → SM ℕ → SM ℕ → SM ℕ → SM ℕ → SM ℕ → SM ℕ → SM Float → SM ℕ → BuildColumns
given_all_mut x y seen id parent num energy ids coords near =
    build_columns (given_mut x y seen id parent num energy) ids.now coords.now near.now

-- in an `ensures`: as the function is called, and as it returns
abbrev pub lent_all_mut : LM Float → LM Float → LM ℕ → LM ℕ → LM ℕ → LM ℕ → LM ℕ → LM ℕ → LM Float → LM ℕ → Both BuildColumns BuildColumns
lent_all_mut x y seen id parent num energy ids coords near =
    record {
      entry =
          given_all_mut x.entry y.entry seen.entry id.entry parent.entry num.entry energy.entry
          ids.entry coords.entry near.entry;
      exit =
          given_all_mut x.exit y.exit seen.exit id.exit parent.exit num.exit energy.exit
          ids.exit coords.exit near.exit;
    }

-- what the columns of a build hold
abbrev pub columns_held : TablesMut → BuildColumns
columns_held t =
    build_columns (cols t.x.now t.y.now t.seen.now t.id.now t.parent.now t.num.now t.energy.now) t.ids.now t.coords.now t.near.now
