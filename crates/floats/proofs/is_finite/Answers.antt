-- `floats::is_finite` meets its contract: what std tests is `finite`, by the three forms of a float. Assumes nothing.
use Rattle.std.proofs.Common.{◌≡◌, refl, ◌∙◌}
use Rattle.std.specs.Prelude.{Float}
use Rattle.std.specs.Float.{float_is_finite}
use lib.Ieee.{nan, inf, fin}
use lib.Ieee.Scale.{finite}
use Rattle.floats.proofs.is_finite.Goals as goal

same : (x : Float) → float_is_finite x ≡ finite x
unfolding float_is_finite
same nan = refl
same (inf s) = refl
same (fin s m e) = refl

pub returns : goal.returns
returns c = c.is_finite.ensures.value ∙ same c.args.x
