-- A range takes a coordinate to the tables' numbers and back, by its offset and its scale, as given or else made of its minima and maxima;
-- and a point is converted as its coordinate system says. Each operation rounds once, on all floats. Definitions only.
use Rattle.std.specs.Prelude.{Bool, true, cond, ◌&&◌, Float}
use Rattle.std.specs.Float.{binary64}
use Rattle.std.specs.Option.{unwrap_or}
use Rattle.std.specs.Float.Ieee.{is_nan, lt, add, sub, mul, div}
use Rattle.std.specs.Float.Ieee.Scale.{finite}
use Rattle.floats.specs.Numbers.{zero, half, float}
use Rattle.range.specs.declared.DataRange.{DataRange}
use Rattle.range.specs.declared.CoordinateSystem.{CoordinateSystem}
use Rattle.range.specs.declared.CoordinateSystem.TheVariants.{LatLng, Cartesian}
use Rattle.range.specs.declared.Point.{Point}

-- the smaller and the larger of two numbers, as Rust's f64::min and f64::max have them: where one is NaN, the other
abbrev pub smaller_of : Float → Float → Float
smaller_of a b = cond (is_nan a) b (cond (lt b a) b a)

abbrev pub larger_of : Float → Float → Float
larger_of a b = cond (is_nan a) b (cond (lt a b) b a)

-- the offset: the smaller minimum, where none is given
unfoldable pub offset_of : DataRange → Float
offset_of d = unwrap_or d.offset (smaller_of d.min_x d.min_y)

-- the scale: the larger maximum less the offset, where none is given
unfoldable pub scale_of : DataRange → Float
scale_of d = unwrap_or d.scale (sub binary64 (larger_of d.max_x d.max_y) (offset_of d))

-- (v - offset) / scale
unfoldable pub normalized : DataRange → Float → Float
normalized d v = div binary64 (sub binary64 v (offset_of d)) (scale_of d)

-- v * scale + offset
unfoldable pub denormalized : DataRange → Float → Float
denormalized d v = add binary64 (mul binary64 v (scale_of d)) (offset_of d)

-- SCOPE's bounds of a range: minima, maxima, offset and scale are finite, and the scale is above 0
unfoldable pub in_bounds : DataRange → Bool
in_bounds d =
    ((finite d.min_x && finite d.min_y) && (finite d.max_x && finite d.max_y))
    && (finite (offset_of d) && finite (scale_of d) && lt zero (scale_of d))

-- SCOPE's bounds of a coordinate system: longitude/latitude, or Cartesian with such a range
unfoldable pub system_in_bounds : CoordinateSystem → Bool
system_in_bounds LatLng = true
system_in_bounds (Cartesian d) = in_bounds d

-- 360 degrees
abbrev pub full_circle : Float
full_circle = float 360

-- longitude becomes lng / 360 + 0.5
unfoldable pub mercator_x : Float → Float
mercator_x lng = add binary64 (div binary64 lng full_circle) half

-- a converted point: longitude, and y as the caller brings it; or both normalised
unfoldable pub converted : CoordinateSystem → Point → Point
converted LatLng p = record { x = mercator_x p.x; y = p.y }
converted (Cartesian d) p = record { x = normalized d p.x; y = normalized d p.y }
