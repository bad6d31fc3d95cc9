-- A tile's searches give each entry in [0,1] a place that `round_away` takes: the scale is a power of the table, the extent is within
-- SCOPE's bounds, and x and y are from -1 to 2 ^ 31. Assumes nothing.
use Rattle.std.specs.Prelude.{◌≡◌, refl, Bool, true, false, Option, Some, None, ⊤, ℕ, ◌^◌, ◌≤◌, ◌<◌, T, leb, ltb, Float}
use Rattle.std.proofs.Common.{sym, subst, le_of_lt, le_trans, pow_mono, leb-true, ltb-true}
use Rattle.std.specs.Float.{binary64}
use Rattle.std.specs.Float.Ieee.{le, neg, sub, mul}
use Rattle.floats.specs.Numbers.{zero, one, pow16, pow31, pow48, float}
use Rattle.floats.specs.laws.Order.{le-le-trans}
use Rattle.floats.specs.laws.Whole.{of_int-nonneg, of_int-mono}
use Rattle.floats.specs.laws.Unit.{In01}
use Rattle.floats.specs.laws.Tile.{pow31-is, tile-bounds}
use Rattle.kdslots.specs.laws.Bounds.{and_both}
use Rattle.build_tables.specs.declared.Options.{Options}
use Rattle.build_tables.specs.laws.Bounds.{InBounds}
use Rattle.ask_tile_table.specs.declared.TileSearch.{TileSearch}
use Rattle.ask_tile_table.specs.declared.RowEnd.{RowEnd}
use Rattle.ask_tile_table.specs.declared.RowEnd.TheVariants.{East, West}
use Rattle.ask_tile_table.specs.Tile.{is_tile, side, strip, here, east_strip, west_strip, made_if, has_strip, strip_search, strip_at}

pub record Framed (g : TileSearch) : Type 0 where
  pub z : ℕ
  pub small : z ≤ 31
  pub scale : g.z2 ≡ float (2 ^ z)
  pub least : T (le one g.extent)
  pub most : T (le g.extent pow16)
  pub x-least : T (le (neg one) g.x)
  pub x-most : T (le g.x pow31)
  pub y-least : T (le (neg one) g.y)
  pub y-most : T (le g.y pow31)

-- the same of a search that a tile may lack
abbrev pub FramedIf : Option TileSearch → Type 0
FramedIf None = ⊤
FramedIf (Some g) = Framed g

-- what is rounded is within 2 ^ 48 either way
pub fits : (g : TileSearch) (c v : Float) → Framed g → In01 c → T (le (neg one) v) → T (le v pow31)
    → T (le (neg pow48) (mul binary64 g.extent (sub binary64 (mul binary64 c g.z2) v)))
    × T (le (mul binary64 g.extent (sub binary64 (mul binary64 c g.z2) v)) pow48)
fits g c v h u l r =
    subst (λ (w : Float). T (le (neg pow48) (mul binary64 g.extent (sub binary64 (mul binary64 c w) v)))
    × T (le (mul binary64 g.extent (sub binary64 (mul binary64 c w) v)) pow48)) (sym h.scale)
    (tile-bounds g.extent c v h.z h.small h.least h.most u l r)

-- ---- the numbers of a tile

pub record IsTile (z x y : ℕ) : Type 0 where
  pub z-to : z ≤ 31
  pub x-to : x < 2 ^ z
  pub y-to : y < 2 ^ z

pub tile-is : (z x y : ℕ) → is_tile z x y ≡ true → IsTile z x y
tile-is z x y e =
    let a = and_both (leb z 31) _ e in
    let b = and_both (ltb x (2 ^ z)) (ltb y (2 ^ z)) a.1 in
    record { z-to = leb-true z 31 a.0; x-to = ltb-true x (2 ^ z) b.0; y-to = ltb-true y (2 ^ z) b.1 }

float-least : (n : ℕ) → T (le (neg one) (float n))
float-least n = le-le-trans (neg one) zero (float n) (unfold le neg in tt) (of_int-nonneg n)

pub float-most : (n : ℕ) → n ≤ 2 ^ 31 → T (le (float n) pow31)
float-most n h = subst (λ (w : Float). T (le (float n) w)) pow31-is (of_int-mono binary64 n (2 ^ 31) h)

pub below-side : (z n : ℕ) → z ≤ 31 → n < 2 ^ z → n ≤ 2 ^ 31
below-side z n h k = le_trans (le_of_lt k) (pow_mono h)

module _ (o : Options) (z x y : ℕ) (b : InBounds o) (t : IsTile z x y) where
  framed : (a c v : Float) → T (le (neg one) v) → T (le v pow31) → Framed (strip o z y a c v)
  framed a c v l r = record {
    z = z;
    small = t.z-to;
    scale = refl;
    least = b.extent-from;
    most = b.extent-to;
    x-least = l;
    x-most = r;
    y-least = float-least y;
    y-most = float-most y (below-side z y t.z-to t.y-to);
  }

  pub here-framed : Framed (here o z x y)
  unfolding here
  here-framed = framed _ _ (float x) (float-least x) (float-most x (below-side z x t.z-to t.x-to))

  pub east-framed : Framed (east_strip o z x y)
  unfolding east_strip
  east-framed = framed _ _ (side z) (float-least (2 ^ z)) (float-most (2 ^ z) (pow_mono t.z-to))

  pub west-framed : Framed (west_strip o z x y)
  unfolding west_strip
  west-framed = framed _ _ (neg one) (unfold le neg in tt) (unfold le neg in tt)

  if-made : (made : Bool) (g : TileSearch) → Framed g → FramedIf (made_if made g)
  if-made true g f = f
  if-made false g f = tt

  search-framed : (end : RowEnd) → Framed (strip_search end o z x y)
  search-framed East = east-framed
  search-framed West = west-framed

  pub strip-framed : (end : RowEnd) → FramedIf (strip_at end o z x y)
  strip-framed end = if-made (has_strip end o z x) (strip_search end o z x y) (search-framed end)
