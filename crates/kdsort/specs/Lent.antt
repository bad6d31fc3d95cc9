-- The index's two lent columns in a contract, each named once. Definitions only.
use Rattle.std.specs.Prelude.{◌≡◌, ℕ, Float, length}
use denote.Triple.Both.{Both}
use Rattle.lent.specs.Lent.{LentMut}
use Rattle.kdsort.specs.declared.Index.{Index}
use Rattle.kdsort.specs.declared.IndexMut.{IndexMut}
use Rattle.kdsort.specs.Cols.{IndexCols, index_cols}

-- two columns that are written, in an `ensures`: as the function is called, and as it returns
abbrev pub lent_index_mut : LentMut ℕ → LentMut Float → Both IndexCols IndexCols
lent_index_mut ids coords =
    record { entry = index_cols ids.entry.now coords.entry.now; exit = index_cols ids.exit.now coords.exit.now }

-- what the columns of an index hold: lent to be read, and to be written
abbrev pub index_held : Index → IndexCols
index_held i = index_cols i.ids.now i.coords.now

abbrev pub index_held_mut : IndexMut → IndexCols
index_held_mut i = index_cols i.ids.now i.coords.now

-- the same two loans, each as long as it was
pub record SameIndex (before after : IndexMut) : Type 0 where
  pub ids : after.ids.ghost_name ≡ before.ids.ghost_name
  pub coords : after.coords.ghost_name ≡ before.coords.ghost_name
  pub ids_length : length after.ids.now ≡ length before.ids.now
  pub coords_length : length after.coords.now ≡ length before.coords.now
