-- `lister_text::coordinate` meets its contract: the literal is 2 ^ 16. Assumes nothing.
use mathlib.Core.Path.{refl}
use lib.Ieee.{div, of_int, of_bits}
use Rattle.lister_text.proofs.coordinate.Goals as goal

pub returns : goal.returns
unfolding div of_int of_bits
returns c = refl
