-- `lister_text::options` meets its contract: the literals are 0 and 1. Assumes nothing.
use mathlib.Core.Path.{refl}
use lib.Ieee.{of_int, of_bits}
use Rattle.lister_text.proofs.options.Goals as goal

pub returns : goal.returns
unfolding of_int of_bits
returns c = refl
