-- A tile of a sound state: every number of its three ranges is finite, so that the walk by pages is the whole answer of `range`. And
-- where the table of the zoom used stands in the columns with its built index, and its entries have x and y in [0,1], the tile is not
-- refused 11, and it lists each entry that lies in it. Assumes nothing.
use Rattle.std.specs.Prelude.{◌≡◌, Bool, true, List, ℕ, ◌<◌, length}
use Rattle.std.proofs.Common.{ap, ◌∙◌}
use Rattle.floats.specs.laws.Unit.{In01}
use Rattle.kdsort.specs.Cols.{IndexCols}
use Rattle.kdsort.specs.Tree.{Index}
use Rattle.kdslots.specs.declared.Query.{Query}
use Rattle.kdslots.specs.Query.{query_ok}
use Rattle.kdslots.specs.Slots.{answers}
use Rattle.kdwalk.specs.Reply.{walk}
use Rattle.build_tables.specs.declared.State.{State}
use Rattle.build_tables.specs.Options.{zoom_used}
use Rattle.build_tables.specs.State.{len_of}
use Rattle.build_tables.specs.Sound.{state_ok}
use Rattle.build_tables.specs.laws.Sound.{given}
use Rattle.build_tables.specs.Entries.{entry, xs_of, ys_of}
use Rattle.ask_base.specs.Asked.{told}
use Rattle.build_tables.specs.Room.{Columns, room_of}
use Rattle.ask_base.specs.Columns.{ids_at, coords_at}
use Rattle.ask_tile_table.specs.declared.Item.{Item}
use Rattle.ask_tile_table.specs.Tile.{is_tile, here, east_strip, west_strip, visited, tile_listed, whole_tile, tile_items, item_of}
use Rattle.ask_tile_table.specs.laws.Framed.{tile-is}
use Rattle.ask_tile_table.specs.laws.Finite.{walk-whole, here-fine, east-fine, west-fine}
use Rattle.ask_tile_table.specs.laws.Inside.{InTile}
use Rattle.ask_tile_table.specs.laws.Lists.{Lists, tile-whole, tile-lists}
use Rattle.ask_tile.specs.Asked.{table_for, visits_for, tile_asked}
use Rattle.ask_tile.specs.laws.Used.{coords-ok}
use Rattle.ask_tile.specs.laws.Ends.{asked_is}

module _ (s : State) (c : Columns) (z x y : ℕ) (ok : state_ok s (room_of c) ≡ true) (tile : is_tile z x y ≡ true) where
  -- the three ranges are of finite numbers
  pub ranges-finite : (query_ok (here s.options z x y).query ≡ true) × (query_ok (east_strip s.options z x y).query ≡ true)
      × (query_ok (west_strip s.options z x y).query ≡ true)
  ranges-finite =
      let b = (given s (room_of c) ok).bounds in
      let w = tile-is z x y tile in
      (here-fine s.options b z x y w, east-fine s.options b z x y w, west-fine s.options b z x y w)

  -- so a walk by one of them is its whole answer
  pub walks-whole : (q : Query) → query_ok q ≡ true → let u = zoom_used s.options z in
      walk q s.options.node_size (len_of s u) (coords_at s c.coords u) ≡ answers q (coords_at s c.coords u)
      s.options.node_size (len_of s u)
  walks-whole q f =
      let u = zoom_used s.options z in
      walk-whole q s.options.node_size (len_of s u) (coords_at s c.coords u) (coords-ok s c z ok) f

  -- the table of the zoom used, with its index
  module _ (old S : IndexCols) (I : Index s.options.node_size (xs_of (table_for s c z)) (ys_of (table_for s c z)) old S)
      (ids : ids_at s c.ids (zoom_used s.options z) ≡ S.ids) (co : coords_at s c.coords (zoom_used s.options z) ≡ S.co)
      (placed : (p : ℕ) → p < length (table_for s c z) → In01 (entry (table_for s c z) p).x × In01 (entry (table_for s c z) p).y) where
    same : visits_for s c z x y ≡ visited s.options z x y (table_for s c z) S.ids S.co
    same = rw (ids, co)

    -- each entry that lies in the tile is listed, and nothing stops the walk
    pub built-tile : (p : ℕ) → p < length (table_for s c z) → InTile z x y (entry (table_for s c z) p).x (entry (table_for s c z) p).y
        → (l : List Item) × (tile_asked s c z x y ≡ told true l) × Lists (item_of (here s.options z x y) p (entry (table_for s c z) p)) l
    built-tile p h i =
        let t = table_for s c z in
        let b = (given s (room_of c) ok).bounds in
        let vs = visited s.options z x y t S.ids S.co in
        let e : tile_asked s c z x y ≡ told (whole_tile t vs) (tile_items t (tile_listed t vs)) =
        asked_is s c z x y ok tile ∙ ap (λ (v : List _). told (whole_tile t v) (tile_items t (tile_listed t v))) same in
        let w = tile-whole t placed s.options old S I z x y in (
          tile_items t (tile_listed t vs),
          e ∙ ap (λ (k : Bool). told k (tile_items t (tile_listed t vs))) w,
          tile-lists t placed s.options old S I z x y b (tile-is z x y tile) p h i,
        )
