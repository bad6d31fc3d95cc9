-- SCOPE's corner, over an index of three slots: x = 0.25 - 2 ^ -55, asked for with qx = 1 and radius 0.75. Slot 0 passes the distance test,
-- though the
-- rounded edge qx - radius = 0.25 leaves it out: it is answered where the interval is not split, and where it is split at slot 1, with the
-- same coordinate. Assumes nothing.
use Rattle.std.specs.Prelude.{◌≡◌, refl, false, List, [], ◌∷◌, negsuc, Float}
use Rattle.std.specs.Float.{fin}
use Rattle.std.specs.Float.Ieee.{le, lt, sum, round, neg, add, sub, mul}
use Rattle.floats.specs.Numbers.{zero, one}
use Rattle.kdsort.specs.Shape.{shape, split}
use Rattle.kdslots.specs.declared.Query.{Query}
use Rattle.kdslots.specs.declared.Query.TheVariants.{Within}
use Rattle.kdslots.specs.Slots.{answers, slots, scanned}

abbrev near : Float
near = fin false 9007199254740991 (negsuc 54)

abbrev three : List Float
three = near ∷ zero ∷ near ∷ zero ∷ one ∷ zero ∷ []

abbrev ring : Query
ring = Within one zero (fin false 3 (negsuc 1))

-- node size 2: unsplit, slot by slot
pub unsplit-answers : answers ring three 2 3 ≡ 0 ∷ 1 ∷ 2 ∷ []
unfolding slots scanned shape split le lt sub neg add sum mul round
unsplit-answers = refl

-- node size 1: split at slot 1; then the part right of it, and the part left of it, which the rounded edge skipped
pub split-answers : answers ring three 1 3 ≡ 1 ∷ 2 ∷ 0 ∷ []
unfolding slots scanned shape split le lt sub neg add sum mul round
split-answers = refl
