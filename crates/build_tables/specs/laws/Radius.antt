-- For the radius and the extent that a build takes the radius of a zoom is finite and not below 0. Assumes nothing.
use Rattle.std.specs.Prelude.{ℕ, ◌^◌, ◌≤◌, T, Float}
use Rattle.std.specs.Float.{binary64}
use Rattle.std.specs.Float.Ieee.{le, mul, div, fits}
use Rattle.std.specs.Float.Ieee.Scale.{finite}
use Rattle.floats.specs.Numbers.{zero, one, pow16, float}
use Rattle.floats.specs.laws.Order.{le-le-trans, between-finite}
use Rattle.floats.specs.laws.Signs.{div-nonneg}
use Rattle.floats.specs.laws.Monotone.{div_mono}
use Rattle.floats.specs.laws.Radius.{scale-positive, radius-bounds}
use Rattle.build_tables.specs.Radius.{radius_at}

pub radius-fine : (radius extent : Float) (z : ℕ) → z ≤ 31 → T (le zero radius) → T (le radius pow16) → T (le one extent)
    → T (le extent pow16)
    → T (finite (radius_at radius extent z)) × T (le zero (radius_at radius extent z))
unfolding radius_at fits le
radius-fine radius extent z Z a b lo hi =
    let d : Float = mul binary64 extent (float (2 ^ z)) in
    let s = scale-positive extent z Z lo hi in
    let f : T (finite radius) = between-finite zero radius pow16 tt tt a b in
    let top = radius-bounds pow16 extent z Z tt tt tt lo hi in
    let low : T (le zero (div binary64 radius d)) = div-nonneg binary64 radius d f s.0 a in
    let up : T (le (div binary64 radius d) (div binary64 pow16 d)) = div_mono binary64 radius pow16 d f tt s.0 b in (
      between-finite zero (div binary64 radius d) pow16 tt tt low
          (le-le-trans (div binary64 radius d) (div binary64 pow16 d) pow16 up top.1),
      low,
    )
