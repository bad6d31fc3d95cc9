-- What the contracts say of a case's verdict. Definitions only.
use Rattle.std.specs.Prelude.{Bool, cond, ◌&&◌, Float, Result, Ok, Err}
use Rattle.replay_vectors.specs.Words.{agreeing}
use Rattle.range.specs.Range.{normalized, denormalized, converted}
use Rattle.range.specs.declared.CoordinateSystem.TheVariants.{LatLng}
use Rattle.range.specs.declared.Point.{Point}
use Rattle.replay_range.specs.declared.Case.{Case}
use Rattle.replay_vectors.specs.declared.Function.TheVariants.{Normalize, Denormalize, Longitude}
use Rattle.replay_vectors.specs.declared.Function.{Function}

-- the point (v, v) under longitude/latitude
abbrev pub placed_field : Float → Point
placed_field v = converted LatLng (record { x = v; y = v })

unfoldable pub converts_to : Float → Float → Bool
converts_to v longitude = agreeing (placed_field v).x longitude && agreeing (placed_field v).y v

-- the first function in this order whose answer does not agree with the case's
unfoldable pub verdict_of : Case → Result (Unit {0}) Function
verdict_of c =
    cond (agreeing (normalized c.range c.v) c.normalized)
    (cond (agreeing (denormalized c.range c.v) c.denormalized)
    (cond (converts_to c.v c.longitude) (Ok tt) (Err Longitude))
    (Err Denormalize))
    (Err Normalize)
