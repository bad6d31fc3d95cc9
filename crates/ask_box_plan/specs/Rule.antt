-- A box as it is searched: the rule for its longitudes, its one or two queries, and the numbers that are taken. A box has four
-- numbers: west, the least y, east, the greatest y. y grows downwards on a mercator map, so that the least y is the northern edge of a
-- longitude build; on a Cartesian plan it is the least y as given. Definitions only.
use Rattle.std.specs.Prelude.{Bool, true, cond, ◌&&◌, List, [], ◌∷◌, Float}
use Rattle.std.specs.Float.{binary64}
use Rattle.std.specs.Float.Ieee.{add, sub, rem, lt, le, eq, neg}
use Rattle.floats.specs.Numbers.{float}
use Rattle.floats.specs.Unit.{in01}
use Rattle.range.specs.declared.CoordinateSystem.{CoordinateSystem}
use Rattle.range.specs.declared.CoordinateSystem.TheVariants.{LatLng, Cartesian}
use Rattle.range.specs.Range.{full_circle, converted}
use Rattle.kdslots.specs.declared.Query.{Query}
use Rattle.kdslots.specs.declared.Query.TheVariants.{Range}
use Rattle.kdslots.specs.Query.{query_ok}

-- 180 degrees
abbrev pub half_circle : Float
half_circle = float 180

-- ((v + 180) % 360 + 360) % 360 - 180
unfoldable pub wrapped : Float → Float
wrapped v =
    sub binary64 (rem binary64 (add binary64 (rem binary64 (add binary64 v half_circle) full_circle) full_circle) full_circle) half_circle

-- the same of an eastern edge, except that 180 stays
abbrev pub wrapped_east : Float → Float
wrapped_east v = cond (eq v half_circle) half_circle (wrapped v)

-- e - w >= 360 as given
abbrev pub whole_row : Float → Float → Bool
whole_row west east = le full_circle (sub binary64 east west)

-- the new w and the new e by the rule: of a whole row -180 and 180
unfoldable pub new_west : Float → Float → Float
new_west west east = cond (whole_row west east) (neg half_circle) (wrapped west)

unfoldable pub new_east : Float → Float → Float
new_east west east = cond (whole_row west east) half_circle (wrapped_east east)

-- the new w exceeds the new e
abbrev pub splits : Float → Float → Bool
splits west east = lt (new_east west east) (new_west west east)

-- the box of two corners, each converted as a point is: of longitudes west and east are converted, and least and greatest y are as given;
-- Cartesian corners are normalised
abbrev pub box_of : CoordinateSystem → Float → Float → Float → Float → Query
box_of c west least east greatest =
    let a = converted c (record { x = west; y = least }) in
    let b = converted c (record { x = east; y = greatest }) in
    Range a.x a.y b.x b.y

-- a box of longitudes put through the rule
abbrev pub ruled_box : Float → Float → Float → Float → Query
ruled_box west least east greatest = box_of LatLng (new_west west east) least (new_east west east) greatest

-- what is searched for a box, one after the other: it alone; or, where it splits, first from w to 180 and then from -180 to e, both by
-- this rule once more
unfoldable pub plan_of : CoordinateSystem → Float → Float → Float → Float → List Query
plan_of LatLng west least east greatest =
    cond (splits west east)
    (ruled_box (new_west west east) least half_circle greatest ∷ ruled_box (neg half_circle) least (new_east west east) greatest ∷ [])
    (ruled_box west least east greatest ∷ [])
plan_of (Cartesian d) west least east greatest = box_of (Cartesian d) west least east greatest ∷ []

-- a mercator y is in [0,1]
abbrev pub ys_ok : CoordinateSystem → Float → Float → Bool
ys_ok LatLng least greatest = in01 least && in01 greatest
ys_ok (Cartesian d) least greatest = true

-- a box that is taken: each number is finite as given, and each y of longitudes in [0,1]; any other is refusal 9
abbrev pub box_ok : CoordinateSystem → Float → Float → Float → Float → Bool
box_ok c west least east greatest = query_ok (Range west least east greatest) && ys_ok c least greatest
