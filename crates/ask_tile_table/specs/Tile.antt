-- A tile (z, x, y), by SCOPE's 'Tile and tally': its three searches, what they find in a table with its index, and the item of each entry
-- that is listed. Definitions only.
use Rattle.std.specs.Prelude.{Bool, true, false, cond, ◌&&◌, List, [], ◌∷◌, ◌++◌, map, Option, Some, None, ℕ, ◌+◌, ◌^◌, leb, ltb, eqb, length, ℤ, Float}
use Rattle.std.specs.Float.{binary64}
use Rattle.std.specs.Float.Ieee.{neg, add, sub, mul, div}
use Rattle.floats.specs.Numbers.{zero, one, float}
use Rattle.floats.specs.Unit.{in01}
use Rattle.floats.specs.Away.{away}
use Rattle.range.specs.declared.CoordinateSystem.{CoordinateSystem}
use Rattle.range.specs.declared.CoordinateSystem.TheVariants.{LatLng, Cartesian}
use Rattle.kdslots.specs.declared.Query.TheVariants.{Range}
use Rattle.kdslots.specs.Slots.{when}
use Rattle.kdbush.specs.Reply.{found}
use Rattle.build_tables.specs.declared.Options.{Options}
use Rattle.build_tables.specs.declared.Entry.{Entry}
use Rattle.build_tables.specs.Entries.{Table, entry}
use Rattle.ask_tile_table.specs.declared.TileSearch.{TileSearch}
use Rattle.ask_tile_table.specs.declared.Item.{Item}
use Rattle.ask_tile_table.specs.declared.RowEnd.{RowEnd}
use Rattle.ask_tile_table.specs.declared.RowEnd.TheVariants.{East, West}

-- z is at most 31, and x and y are below 2^z
abbrev pub is_tile : ℕ → ℕ → ℕ → Bool
is_tile z x y = leb z 31 && (ltb x (2 ^ z) && ltb y (2 ^ z))

-- ---- the searches

-- p = radius / extent, z2 = 2^z, and p / z2
abbrev pub margin : Options → Float
margin o = div binary64 o.radius o.extent

abbrev pub side : ℕ → Float
side z = float (2 ^ z)

abbrev pub edge : Options → ℕ → Float
edge o z = div binary64 (margin o) (side z)

-- (v - p) / z2, and ((v + 1) + p) / z2
abbrev pub least : Options → ℕ → ℕ → Float
least o z v = div binary64 (sub binary64 (float v) (margin o)) (side z)

abbrev pub greatest : Options → ℕ → ℕ → Float
greatest o z v = div binary64 (add binary64 (add binary64 (float v) one) (margin o)) (side z)

-- a search of the row y, from a to b on x, where v stands for the tile's x in the items
abbrev pub strip : Options → ℕ → ℕ → Float → Float → Float → TileSearch
strip o z y a b v = record {
  query = Range a (least o z y) b (greatest o z y);
  node_size = o.node_size;
  extent = o.extent;
  z2 = side z;
  x = v;
  y = float y;
}

-- the tile's own range
unfoldable pub here : Options → ℕ → ℕ → ℕ → TileSearch
here o z x y = strip o z y (least o z x) (greatest o z x) (float x)

-- whether x goes round: longitude does, a plan has no far side
abbrev pub goes_round : CoordinateSystem → Bool
goes_round LatLng = true
goes_round (Cartesian d) = false

-- whether the strips run (#114): always, or for longitude only
unfoldable pub wraps : Options → Bool
wraps o = cond o.longitude_strips_only (goes_round o.coordinate_system) true

-- the east strip: x from 1 - p / z2 up to 1, and the tile's own x counts as z2; a tile in column 0 has it
unfoldable pub east_strip : Options → ℕ → ℕ → ℕ → TileSearch
east_strip o z x y = strip o z y (sub binary64 one (edge o z)) one (side z)

abbrev pub has_east : Options → ℕ → Bool
has_east o x = wraps o && eqb x 0

-- the west strip: x from 0 up to p / z2, and the tile's own x counts as -1; a tile in the last column has it
unfoldable pub west_strip : Options → ℕ → ℕ → ℕ → TileSearch
west_strip o z x y = strip o z y zero (edge o z) (neg one)

abbrev pub has_west : Options → ℕ → ℕ → Bool
has_west o z x = wraps o && eqb (x + 1) (2 ^ z)

-- the strip at an end of the row, where the tile has it
abbrev pub made_if : Bool → TileSearch → Option TileSearch
made_if made g = cond made (Some g) None

abbrev pub has_strip : RowEnd → Options → ℕ → ℕ → Bool
has_strip East o z x = has_east o x
has_strip West o z x = has_west o z x

abbrev pub strip_search : RowEnd → Options → ℕ → ℕ → ℕ → TileSearch
strip_search East o z x y = east_strip o z x y
strip_search West o z x y = west_strip o z x y

abbrev pub strip_at : RowEnd → Options → ℕ → ℕ → ℕ → Option TileSearch
strip_at end o z x y = made_if (has_strip end o z x) (strip_search end o z x y)

-- ---- what they find

-- a place that a search names
pub record Visit : Type 0 where
  pub by : TileSearch
  pub place : ℕ

abbrev pub visits_of : TileSearch → List ℕ → List Visit
visits_of g ps = map (λ p. record { by = g; place = p }) ps

-- the places that `range` answers in the table t, by its index; none where the tile has no such strip
abbrev pub visits : Bool → TileSearch → Table → List ℕ → List Float → List Visit
visits made g t ids co = visits_of g (when made (found g.query g.node_size (length t) ids co))

-- by the three searches, one after the other
unfoldable pub visited : Options → ℕ → ℕ → ℕ → Table → List ℕ → List Float → List Visit
visited o z x y t ids co =
    visits true (here o z x y) t ids co
    ++ (visits (has_east o x) (east_strip o z x y) t ids co ++ visits (has_west o z x) (west_strip o z x y) t ids co)

-- ---- what is listed

-- a place of the table, whose entry has x and y in [0,1]
abbrev pub listable : Table → ℕ → Bool
listable t p = ltb p (length t) && (in01 (entry t p).x && in01 (entry t p).y)

-- those before the first that cannot be listed
unfoldable pub tile_listed : Table → List Visit → List Visit
tile_listed t [] = []
tile_listed t (v ∷ vs) = elim (listable t v.place) [ true ↦ v ∷ tile_listed t vs | false ↦ [] ]

-- whether each can be listed
unfoldable pub whole_tile : Table → List Visit → Bool
whole_tile t [] = true
whole_tile t (v ∷ vs) = elim (listable t v.place) [ true ↦ whole_tile t vs | false ↦ false ]

-- extent * (c * z2 - v) as a whole number, a half rounded away from zero
unfoldable pub rounded : TileSearch → Float → Float → ℤ
rounded g c v = away (mul binary64 g.extent (sub binary64 (mul binary64 c g.z2) v))

-- the item of the entry e at the place p: its place in the table, and its place in the tile
abbrev pub item_of : TileSearch → ℕ → Entry → Item
item_of g p e = record { place = p; x = rounded g e.x g.x; y = rounded g e.y g.y }

abbrev pub item_at : Table → Visit → Item
item_at t v = item_of v.by v.place (entry t v.place)

abbrev pub tile_items : Table → List Visit → List Item
tile_items t vs = map (item_at t) vs
