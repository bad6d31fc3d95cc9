-- The question of a tile: what it comes to, its answer, and the three columns afterwards, for every input. Definitions only.
use Rattle.std.specs.Prelude.{Bool, true, false, cond, not, List, map, Err, ℕ, zero, suc, min, length, take, ℤ}
use Rattle.kdbush.specs.Run.{filled}
use Rattle.build_tables.specs.declared.State.{State}
use Rattle.build_tables.specs.Options.{zoom_used}
use Rattle.build_tables.specs.State.{state_of}
use Rattle.build_tables.specs.Sound.{state_ok}
use Rattle.build_tables.specs.Entries.{Table}
use Rattle.refusals.specs.declared.Refusal.{Refusal}
use Rattle.refusals.specs.declared.Refusal.TheVariants.{Tile, EmptyTile, Spoiled}
use Rattle.ask_base.specs.Answers.{Answer, fitted}
use Rattle.ask_base.specs.Asked.{AskedFor, refused, told}
use Rattle.build_tables.specs.Room.{Columns, room_of}
use Rattle.ask_base.specs.Columns.{table_at, ids_at, coords_at}
use Rattle.ask_tile.specs.declared.StateParts.{StateParts}
use Rattle.ask_tile_table.specs.declared.Item.{Item}
use Rattle.ask_tile_table.specs.Tile.{Visit, is_tile, visited, tile_listed, whole_tile, tile_items}

-- the state of these parts
abbrev pub whole_state : StateParts → State
whole_state p = state_of p.options p.count p.starts.now p.lens.now

-- the table of the zoom used, and what the tile finds there
abbrev pub table_for : State → Columns → ℕ → Table
table_for s c z = table_at s c (zoom_used s.options z)

abbrev pub visits_for : State → Columns → ℕ → ℕ → ℕ → List Visit
visits_for s c z x y =
    let u = zoom_used s.options z in
    visited s.options z x y (table_for s c z) (ids_at s c.ids u) (coords_at s c.coords u)

-- a question that lists items of a tile; whether the walk went to its end is whether everything that was found could be listed
abbrev pub TileAsked : Type 0
TileAsked = AskedFor Refusal Bool Item

-- the refusals in SCOPE's order: the state over the nine columns (11), no such tile (7)
unfoldable pub tile_asked : State → Columns → ℕ → ℕ → ℕ → TileAsked
tile_asked s c z x y =
    cond (not (state_ok s (room_of c))) (refused Spoiled)
    (cond (not (is_tile z x y)) (refused Tile)
    (told (whole_tile (table_for s c z) (visits_for s c z x y))
    (tile_items (table_for s c z) (tile_listed (table_for s c z) (visits_for s c z x y)))))

-- the answer, where the shortest column holds so many: what was found and cannot be listed (11), nothing listed (8), too many (10)
abbrev pub some_of : ℕ → ℕ → Answer
some_of zero room = Err EmptyTile
some_of (suc k) room = fitted (suc k) room

abbrev pub tile_answer_of : TileAsked → ℕ → Answer
tile_answer_of (refused e) room = Err e
tile_answer_of (told true l) room = some_of (length l) room
tile_answer_of (told false l) room = Err Spoiled

-- how many items the shortest of the three columns holds
abbrev pub shortest : List ℕ → List ℤ → List ℤ → ℕ
shortest places xs ys = min (length places) (min (length xs) (length ys))

-- a column afterwards: the first items, as many as there is room for, and then the old contents
abbrev pub tile_column_of : {A : Type 0} → (Item → A) → TileAsked → ℕ → List A → List A
tile_column_of f (refused e) room out = out
tile_column_of f (told b l) room out = filled (take room (map f l)) out

-- the answer, and what it leaves in the three columns: places in the table, and places in the tile
pub record TileOutcome : Type 0 where
  pub answer : Answer
  pub places : List ℕ
  pub xs : List ℤ
  pub ys : List ℤ

abbrev pub tile_outcome : Answer → List ℕ → List ℤ → List ℤ → TileOutcome
tile_outcome a places xs ys = record { answer = a; places = places; xs = xs; ys = ys }

abbrev pub outcome_of : TileAsked → List ℕ → List ℤ → List ℤ → TileOutcome
outcome_of a places xs ys =
    let room = shortest places xs ys in
    tile_outcome (tile_answer_of a room)
    (tile_column_of (λ i. i.place) a room places) (tile_column_of (λ i. i.x) a room xs) (tile_column_of (λ i. i.y) a room ys)

abbrev pub tiled : State → Columns → ℕ → ℕ → ℕ → List ℕ → List ℤ → List ℤ → TileOutcome
tiled s c z x y places xs ys = outcome_of (tile_asked s c z x y) places xs ys
