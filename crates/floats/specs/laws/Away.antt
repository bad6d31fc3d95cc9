-- The examples of rounding halves away from zero. How it is found with one truncation is in proofs/Truncation. Assumes nothing.
use Rattle.std.specs.Prelude.{◌≡◌, true, false, pos, negsuc, refl}
use Rattle.std.specs.Float.{fin}
use Rattle.floats.specs.Numbers.{half}
use Rattle.floats.specs.Away.{away}

-- ---- SCOPE's examples: 0.5 gives 1, -0.5 gives -1; and 0.49999999999999994, the float below 0.5, gives 0
pub half-away : away half ≡ pos 1
unfolding away
half-away = refl

pub minus-half-away : away (fin true 1 (negsuc 0)) ≡ negsuc 0
unfolding away
minus-half-away = refl

pub below-half-away : away (fin false 9007199254740991 (negsuc 53)) ≡ pos 0
unfolding away
below-half-away = refl
