-- A point that lies in a tile passes the tile's own range, whatever the margin: x / z2 <= cx <= (x + 1) / z2, and the same on y. By
-- monotone rounding the range reaches as far on each side. Assumes nothing.
use Rattle.std.specs.Prelude.{◌≡◌, true, ℕ, ◌^◌, ◌≤◌, ◌<◌, pos, T, Float}
use Rattle.std.specs.Float.{binary64}
use Rattle.std.specs.Float.Ieee.{le, add, sub, div}
use Rattle.std.specs.Float.Ieee.Fits.{of_int-fits, add-fits}
use Rattle.floats.specs.Numbers.{one, float}
use Rattle.floats.specs.laws.Fraction.{is_true}
use Rattle.floats.specs.laws.Order.{le-le-trans}
use Rattle.floats.specs.laws.Monotone.{div_mono}
use Rattle.floats.specs.laws.Edges.{le-add, sub-le}
use Rattle.kdslots.specs.Query.{passes_q}
use Rattle.build_tables.specs.declared.Options.{Options}
use Rattle.build_tables.specs.laws.Bounds.{InBounds}
use Rattle.ask_tile_table.specs.Tile.{margin, side, least, greatest, here}
use Rattle.ask_tile_table.specs.laws.Framed.{IsTile}
use Rattle.ask_tile_table.specs.laws.Finite.{side-positive, margin-least, margin-finite, float-finite, next-finite, sub-finite}
use Rattle.ask_tile_table.specs.laws.Finite.{add-finite}

-- the coordinates of a point within the tile, its edges among them
pub record InTile (z x y : ℕ) (cx cy : Float) : Type 0 where
  pub west : T (le (div binary64 (float x) (side z)) cx)
  pub east : T (le cx (div binary64 (add binary64 (float x) one) (side z)))
  pub low : T (le (div binary64 (float y) (side z)) cy)
  pub high : T (le cy (div binary64 (add binary64 (float y) one) (side z)))

module _ (o : Options) (b : InBounds o) (z : ℕ) (Z : z ≤ 31) (v : ℕ) (less : v < 2 ^ z) where
  -- the range begins at the tile or before it, and ends at its end or past it
  least-before : T (le (least o z v) (div binary64 (float v) (side z)))
  least-before =
      div_mono binary64 (sub binary64 (float v) (margin o)) (float v) (side z) (sub-finite o b z Z v less) (float-finite o b z Z v less)
      (side-positive z Z)
      (sub-le binary64 (float v) (margin o) (of_int-fits binary64 (pos v)) (float-finite o b z Z v less) (margin-finite o b)
      (margin-least o b))

  greatest-past : T (le (div binary64 (add binary64 (float v) one) (side z)) (greatest o z v))
  greatest-past =
      let a = add binary64 (float v) one in
      div_mono binary64 a (add binary64 a (margin o)) (side z) (next-finite o b z Z v less) (add-finite o b z Z v less) (side-positive z Z)
      (le-add binary64 a (margin o) (add-fits binary64 (float v) one) (next-finite o b z Z v less) (margin-finite o b) (margin-least o b))

pub inside-passes : (o : Options) (z x y : ℕ) → InBounds o → IsTile z x y → (cx cy : Float) → InTile z x y cx cy
    → passes_q (here o z x y).query cx cy ≡ true
unfolding here
inside-passes o z x y b t cx cy i =
    let w = le-le-trans (least o z x) (div binary64 (float x) (side z)) cx (least-before o b z t.z-to x t.x-to) i.west in
    let e = le-le-trans cx (div binary64 (add binary64 (float x) one) (side z)) (greatest o z x) i.east
    (greatest-past o b z t.z-to x t.x-to) in
    let n = le-le-trans (least o z y) (div binary64 (float y) (side z)) cy (least-before o b z t.z-to y t.y-to) i.low in
    let s = le-le-trans cy (div binary64 (add binary64 (float y) one) (side z)) (greatest o z y) i.high
    (greatest-past o b z t.z-to y t.y-to) in
    rw (
      is_true (le (least o z x) cx) w,
      is_true (le cx (greatest o z x)) e,
      is_true (le (least o z y) cy) n,
      is_true (le cy (greatest o z y)) s,
    )
