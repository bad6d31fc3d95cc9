-- The table of the zoom used, of a sound state: it stands in the columns, and the tile that is asked of it, cut out of them, is asked of
-- that table and its index. Assumes nothing.
use Rattle.std.specs.Prelude.{◌≡◌, true, Result, Ok, Err, ℕ, ◌+◌, ◌*◌, ◌<◌, ◌≤◌, length}
use Rattle.std.proofs.Common.{ap, ◌∙◌, arith}
use Rattle.kdslots.specs.Bounds.{coords_ok}
use Rattle.refusals.specs.declared.Refusal.{Refusal}
use Rattle.build_tables.specs.declared.State.{State}
use Rattle.build_tables.specs.Options.{zoom_used}
use Rattle.build_tables.specs.State.{start_of, len_of}
use Rattle.build_tables.specs.Sound.{state_ok}
use Rattle.build_tables.specs.laws.Sound.{given, used-stands}
use Rattle.build_tables.specs.laws.Bounds.{InBounds}
use Rattle.build_tables.specs.Rows.{rows, each}
use Rattle.build_tables.specs.Lent.{held}
use Rattle.build_tables.specs.Columns.{part}
use Rattle.build_tables.specs.laws.Columns.{rows-part}
use Rattle.build_tables.specs.Room.{Columns, room_of}
use Rattle.build_tables.specs.laws.Roomy.{Roomy, each-roomy}
use Rattle.ask_base.specs.Asked.{refused}
use Rattle.ask_base.specs.laws.Columns.{coords-length, stands-index}
use Rattle.ask_base.specs.Columns.{coords_at}
use Rattle.ask_tile_table.specs.declared.asked.AskedTile.{AskedTile}
use Rattle.ask_tile_table.specs.Tile.{is_tile, visited}
use Rattle.ask_tile_table.specs.laws.Asked.{table_of, asked_visits, searchable}
use Rattle.ask_tile.specs.Asked.{table_for, visits_for, tile_asked}
use Rattle.ask_tile.specs.Tallied.{tallied}

-- the tile (z, x, y) is asked of the state s over the columns c
pub record Asks (s : State) (c : Columns) (z x y : ℕ) (a : AskedTile) : Type 0 where
  pub sound : state_ok s (room_of c) ≡ true
  pub tile : is_tile z x y ≡ true
  pub same-z : a.z ≡ z
  pub same-x : a.x ≡ x
  pub same-y : a.y ≡ y
  pub table : table_of a ≡ table_for s c z
  pub visits : asked_visits a ≡ visits_for s c z x y

-- or it is refused, as both questions say
abbrev pub AsksOr : State → Columns → ℕ → ℕ → ℕ → Result AskedTile Refusal → Type 0
AsksOr s c z x y (Ok a) = Asks s c z x y a
AsksOr s c z x y (Err e) = (tile_asked s c z x y ≡ refused e) × (tallied s c z x y ≡ Err e)

-- the table that starts at a and has n entries
pub record Spot (s : State) (c : Columns) (u a n : ℕ) : Type 0 where
  pub bounds : InBounds s.options
  pub zooms : s.options.min_zoom ≤ s.options.max_zoom
  pub zoom-to : s.options.max_zoom ≤ 30
  pub table : u < 32
  pub size-from : 1 ≤ s.options.node_size
  pub size-to : s.options.node_size ≤ 65535
  pub some : 1 ≤ n
  pub most : n ≤ 1048576
  pub ends : a + n ≤ room_of c
  pub rows-held : Roomy (a + n) c.table

pub spot : (s : State) (c : Columns) (z : ℕ) → state_ok s (room_of c) ≡ true → let u = zoom_used s.options z in
    Spot s c u (start_of s u) (len_of s u)
spot s c z e =
    let g = given s (room_of c) e in
    let w = used-stands s (room_of c) e z in
    let k = w.0 in
    record {
      bounds = g.bounds;
      zooms = g.zooms;
      zoom-to = g.zoom-to;
      table = w.1;
      size-from = g.size-from;
      size-to = g.size-to;
      some = k.some;
      most = omega (arith, k.most, g.count-to);
      ends = k.ends;
      rows-held = each-roomy c _ k.ends;
    }

-- the index of the zoom used may be searched
pub coords-ok : (s : State) (c : Columns) (z : ℕ) → state_ok s (room_of c) ≡ true → let u = zoom_used s.options z in
    coords_ok s.options.node_size (len_of s u) (length (coords_at s c.coords u)) ≡ true
coords-ok s c z e =
    let u = zoom_used s.options z in
    let p = spot s c z e in
    let k = coords-length s c.ids c.coords u (stands-index s c u (used-stands s (room_of c) e z).0) in
    searchable s.options.node_size (len_of s u) (length (coords_at s c.coords u)) p.size-from p.size-to p.some p.most
    (omega (arith, k))

-- ---- what is cut out of the columns

module _ (s : State) (c : Columns) (z x y : ℕ) (a : AskedTile) (ok : state_ok s (room_of c) ≡ true) (tile : is_tile z x y ≡ true) where
  -- a tile of that table and its index is asked of the state
  pub asks : a.options ≡ s.options → a.z ≡ z → a.x ≡ x → a.y ≡ y → let u = zoom_used s.options z in
      held a.table.entries ≡ each (λ A q. part (start_of s u) (len_of s u) q) c.table
      → a.table.index.ids.now ≡ part (start_of s u) (len_of s u) c.ids
      → a.table.index.coords.now ≡ part (2 * start_of s u) (2 * len_of s u) c.coords
      → Asks s c z x y a
  asks eo ez ex ey et ei ec =
      let u = zoom_used s.options z in
      let t : table_of a ≡ table_for s c z = ap rows et ∙ rows-part (start_of s u) (len_of s u) c.table in
      record {
        sound = ok;
        tile = tile;
        same-z = ez;
        same-x = ex;
        same-y = ey;
        table = t;
        visits = rw (eo, ez, ex, ey, ei, ec) (ap (λ (w : _). visited s.options z x y w (part (start_of s u) (len_of s u) c.ids)
            (part (2 * start_of s u) (2 * len_of s u) c.coords)) t);
      }
