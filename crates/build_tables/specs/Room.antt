-- The nine columns of tables and their indexes, and for how many entries all of them have room. Definitions only.
use Rattle.std.specs.Prelude.{List, ℕ, ◌/◌, min, length, Float}
use Rattle.build_tables.specs.Rows.{Cols}

-- the columns of entries, and two of the index
pub record Columns : Type 0 where
  pub table : Cols
  pub ids : List ℕ
  pub coords : List Float

abbrev pub columns : Cols → List ℕ → List Float → Columns
columns c ids coords = record { table = c; ids = ids; coords = coords }

-- how many entries the index holds: a place and two coordinates each
abbrev pub index_room : List ℕ → List Float → ℕ
index_room ids coords = min (length ids) (length coords / 2)

-- how many entries columns of these lengths hold, and an index with room for so many
abbrev pub room_by : ℕ → ℕ → ℕ → ℕ → ℕ → ℕ → ℕ → ℕ → ℕ
room_by x y seen id parent num energy index = min (min (min x y) (min seen id)) (min (min parent num) (min energy index))

-- how many entries each of the columns holds
abbrev pub room_of : Columns → ℕ
room_of c =
    let t = c.table in
    room_by (length t.x) (length t.y) (length t.seen) (length t.id) (length t.parent) (length t.num) (length t.energy)
    (index_room c.ids c.coords)
