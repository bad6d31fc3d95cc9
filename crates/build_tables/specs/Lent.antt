-- The lent columns of a table in a contract, each named once. Definitions only.
use Rattle.std.specs.Prelude.{◌≡◌, ℕ, Float, length}
use denote.Triple.Both.{Both}
use Rattle.build_tables.specs.declared.columns.Entries.{Entries}
use Rattle.build_tables.specs.declared.columns.EntriesMut.{EntriesMut}
use Rattle.build_tables.specs.declared.columns.Tables.{Tables}
use Rattle.build_tables.specs.declared.columns.TablesMut.{TablesMut}
use Rattle.lent.specs.Lent.{Lent, SliceMut, LentMut, old}
use Rattle.build_tables.specs.Rows.{Cols, cols}
use Rattle.build_tables.specs.Room.{Columns, columns}

-- columns that are written, one by one: in a `requires`
abbrev pub given_mut :
    SliceMut Float → SliceMut Float → SliceMut ℕ → SliceMut ℕ → SliceMut ℕ → SliceMut ℕ → SliceMut ℕ → Cols
given_mut x y seen id parent num energy = cols x.now y.now seen.now id.now parent.now num.now energy.now

-- in an `ensures`: as the function is called, and as it returns
abbrev pub lent_cols_mut :
    LentMut Float → LentMut Float → LentMut ℕ → LentMut ℕ → LentMut ℕ → LentMut ℕ → LentMut ℕ → Both Cols Cols
lent_cols_mut x y seen id parent num energy =
    record {
      entry = given_mut x.entry y.entry seen.entry id.entry parent.entry num.entry energy.entry;
      exit = given_mut x.exit y.exit seen.exit id.exit parent.exit num.exit energy.exit;
    }

-- in an `ensures` of what only reads them and the two of the index, so that they are the same as it returns
abbrev pub lent_columns : Lent Float → Lent Float → Lent ℕ → Lent ℕ → Lent ℕ → Lent ℕ → Lent ℕ → Lent ℕ → Lent Float → Columns
lent_columns x y seen id parent num energy ids coords =
    columns (cols (old x) (old y) (old seen) (old id) (old parent) (old num) (old energy)) (old ids) (old coords)

-- what the columns of entries hold: lent to be read, and to be written
abbrev pub held : Entries → Cols
held t = cols t.x.now t.y.now t.seen.now t.id.now t.parent.now t.num.now t.energy.now

abbrev pub held_mut : EntriesMut → Cols
held_mut t = cols t.x.now t.y.now t.seen.now t.id.now t.parent.now t.num.now t.energy.now

-- what the nine columns of all tables and their indexes hold
abbrev pub tables_held : Tables → Columns
tables_held t =
    columns (cols t.x.now t.y.now t.seen.now t.id.now t.parent.now t.num.now t.energy.now) t.ids.now t.coords.now

-- the same seven loans, each as long as it was
pub record SameColumns (before after : EntriesMut) : Type 0 where
  pub x : after.x.ghost_name ≡ before.x.ghost_name
  pub y : after.y.ghost_name ≡ before.y.ghost_name
  pub seen : after.seen.ghost_name ≡ before.seen.ghost_name
  pub id : after.id.ghost_name ≡ before.id.ghost_name
  pub parent : after.parent.ghost_name ≡ before.parent.ghost_name
  pub num : after.num.ghost_name ≡ before.num.ghost_name
  pub energy : after.energy.ghost_name ≡ before.energy.ghost_name
  pub kx : length after.x.now ≡ length before.x.now
  pub ky : length after.y.now ≡ length before.y.now
  pub ks : length after.seen.now ≡ length before.seen.now
  pub ki : length after.id.now ≡ length before.id.now
  pub kp : length after.parent.now ≡ length before.parent.now
  pub kn : length after.num.now ≡ length before.num.now
  pub kw : length after.energy.now ≡ length before.energy.now

-- what the nine of a build hold, beside the room to work
abbrev pub tables_held_mut : TablesMut → Columns
tables_held_mut t =
    columns (cols t.x.now t.y.now t.seen.now t.id.now t.parent.now t.num.now t.energy.now) t.ids.now t.coords.now

-- the same ten loans, each as long as it was
pub record SameTables (before after : TablesMut) : Type 0 where
  pub x : after.x.ghost_name ≡ before.x.ghost_name
  pub y : after.y.ghost_name ≡ before.y.ghost_name
  pub seen : after.seen.ghost_name ≡ before.seen.ghost_name
  pub id : after.id.ghost_name ≡ before.id.ghost_name
  pub parent : after.parent.ghost_name ≡ before.parent.ghost_name
  pub num : after.num.ghost_name ≡ before.num.ghost_name
  pub energy : after.energy.ghost_name ≡ before.energy.ghost_name
  pub ids : after.ids.ghost_name ≡ before.ids.ghost_name
  pub coords : after.coords.ghost_name ≡ before.coords.ghost_name
  pub near : after.near.ghost_name ≡ before.near.ghost_name
  pub kx : length after.x.now ≡ length before.x.now
  pub ky : length after.y.now ≡ length before.y.now
  pub ks : length after.seen.now ≡ length before.seen.now
  pub ki : length after.id.now ≡ length before.id.now
  pub kp : length after.parent.now ≡ length before.parent.now
  pub kn : length after.num.now ≡ length before.num.now
  pub kw : length after.energy.now ≡ length before.energy.now
  pub kd : length after.ids.now ≡ length before.ids.now
  pub kc : length after.coords.now ≡ length before.coords.now
  pub kr : length after.near.now ≡ length before.near.now
