-- The tests of a search on the two coordinates of a slot, and of the coordinate at which an interval is split, one rounding an operation,
-- and SCOPE's bounds of a query. Definitions only.
use Rattle.std.specs.Prelude.{Bool, ◌&&◌, not, cond, ℕ, eqb, Float}
use Rattle.std.specs.Float.{binary64}
use Rattle.std.specs.Float.Ieee.{le, lt, sub, mul}
use Rattle.std.specs.Float.Ieee.Scale.{finite}
use Rattle.floats.specs.Numbers.{zero}
use Rattle.floats.specs.Distance.{sq_dist}
use Rattle.kdslots.specs.declared.Query.{Query}
use Rattle.kdslots.specs.declared.Query.TheVariants.{Range, Within}

-- the point (x, y) is answered: it lies in the box, or its rounded squared distance is at most the rounded radius * radius
abbrev pub passes_q : Query → Float → Float → Bool
passes_q (Range a b c d) x y = le a x && le x c && le b y && le y d
passes_q (Within qx qy r) x y = le (sq_dist x y qx qy) (mul binary64 r r)

-- of two coordinates the one on the axis
abbrev pub on_axis : ℕ → Float → Float → Float
on_axis ax x y = cond (eqb ax 0) x y

-- the split coordinate v is too far from p: the square of their difference, both rounded, is more than the rounded radius * radius
abbrev pub too_far : Float → Float → Float → Bool
too_far v p r = lt (mul binary64 r r) (mul binary64 (sub binary64 v p) (sub binary64 v p))

-- whether the part left of an interval's median is gone into, for the median's coordinate v on the axis: in a box by the box's own edge;
-- around a place it is skipped only where the place lies above v, too far
abbrev pub goes_left : Query → ℕ → Float → Bool
goes_left (Range a b c d) ax v = le (on_axis ax a b) v
goes_left (Within qx qy r) ax v = not (lt v (on_axis ax qx qy) && too_far v (on_axis ax qx qy) r)

-- and the part right of it: skipped around a place only where the place lies below v, too far
abbrev pub goes_right : Query → ℕ → Float → Bool
goes_right (Range a b c d) ax v = le v (on_axis ax c d)
goes_right (Within qx qy r) ax v = not (lt (on_axis ax qx qy) v && too_far v (on_axis ax qx qy) r)

-- SCOPE's bounds of a query: its numbers are finite, and a radius is not negative
abbrev pub query_ok : Query → Bool
query_ok (Range a b c d) = (finite a && finite b) && (finite c && finite d)
query_ok (Within qx qy r) = (finite qx && finite qy) && (finite r && le zero r)
