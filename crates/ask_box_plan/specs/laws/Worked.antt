-- The rule worked from its definition: it is not done with a longitude at once, so that a half that is put through it again grows to the
-- whole row; and 180 stays as an eastern edge alone. Assumes nothing.
use Rattle.std.specs.Prelude.{◌≡◌, refl, true, false, negsuc, Float}
use Rattle.std.specs.Float.{fin}
use Rattle.std.specs.Float.Ieee.{le, lt, eq, neg, round, sum, add, sub, rem, of_int}
use Rattle.floats.specs.Numbers.{float}
use Rattle.ask_box_plan.specs.Rule.{half_circle, wrapped, new_west, new_east, splits}

-- -180.00000000000006, 179.99999999999994, -170
abbrev pub west : Float
west = fin true 3166593487994881 (negsuc 43)

abbrev west' : Float
west' = fin false 3166593487994879 (negsuc 43)

abbrev pub east : Float
east = neg (float 170)

-- the new w exceeds the new e
pub worked-split : (new_west west east ≡ west') × (new_east west east ≡ east) × (splits west east ≡ true)
unfolding new_west new_east wrapped of_int neg add sub sum rem round le lt eq
worked-split = (refl, refl, refl)

-- the first half, put through the rule again, is the whole row
pub worked-first : (new_west west' half_circle ≡ neg half_circle) × (new_east west' half_circle ≡ half_circle)
unfolding new_west new_east wrapped of_int neg add sub sum rem round le lt eq
worked-first = (refl, refl)

pub worked-second : (new_west (neg half_circle) east ≡ neg half_circle) × (new_east (neg half_circle) east ≡ east)
unfolding new_west new_east wrapped of_int neg add sub sum rem round le lt eq
worked-second = (refl, refl)

-- w = e = 180 is the whole row
pub worked-180 : (new_west half_circle half_circle ≡ neg half_circle) × (new_east half_circle half_circle ≡ half_circle)
unfolding new_west new_east wrapped of_int neg add sub sum rem round le lt eq
worked-180 = (refl, refl)

-- -200.7 becomes 159.3, and that 159.29999999999995
pub worked-wrap : wrapped (fin true 3530751739114291 (negsuc 43)) ≡ fin false 2802435236875469 (negsuc 43)
unfolding wrapped of_int neg add sub sum rem round
worked-wrap = refl

pub worked-wrap-again : wrapped (fin false 2802435236875469 (negsuc 43)) ≡ fin false 700608809218867 (negsuc 41)
unfolding wrapped of_int neg add sub sum rem round
worked-wrap-again = refl
