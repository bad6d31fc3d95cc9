-- An offset, a scale and a coordinate system as flags and numbers give them. Definitions only.
use Rattle.std.specs.Prelude.{Bool, cond, Float, Option, Some, None}
use Rattle.range.specs.declared.DataRange.{DataRange}
use Rattle.range.specs.declared.CoordinateSystem.{CoordinateSystem}
use Rattle.range.specs.declared.CoordinateSystem.TheVariants.{LatLng, Cartesian}

-- given, or derived
abbrev pub setting_of : Bool → Float → Option Float
setting_of given v = cond given (Some v) None

-- Cartesian with a range, or longitude
abbrev pub system_of : Bool → DataRange → CoordinateSystem
system_of cartesian range = cond cartesian (Cartesian range) LatLng
