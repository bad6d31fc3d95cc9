-- The parts of the nine lent columns that hold the table of one zoom and its index. Definitions only.
use Rattle.std.specs.Prelude.{List, ℕ, ◌*◌, Float}
use Rattle.build_tables.specs.declared.State.{State}
use Rattle.build_tables.specs.State.{start_of, len_of}
use Rattle.build_tables.specs.Entries.{Table}
use Rattle.build_tables.specs.Rows.{rows}
use Rattle.build_tables.specs.Room.{Columns}
use Rattle.build_tables.specs.Columns.{part, held_at}

-- the table of zoom z, and its index: the places of the slots, and their coordinates
abbrev pub table_at : State → Columns → ℕ → Table
table_at s c z = held_at s.starts s.lens (rows c.table) z

abbrev pub ids_at : State → List ℕ → ℕ → List ℕ
ids_at s ids z = part (start_of s z) (len_of s z) ids

abbrev pub coords_at : State → List Float → ℕ → List Float
coords_at s coords z = part (2 * start_of s z) (2 * len_of s z) coords
