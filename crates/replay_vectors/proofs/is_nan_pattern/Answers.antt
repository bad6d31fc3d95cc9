-- `replay_vectors::is_nan_pattern` meets its contract: its two tests are those of `nan_bits`. Assumes nothing.
use borrow.Author.Tests.{eq-eqb, ne_eqb}
use lib.Ieee.{nan_bits}
use Rattle.replay_vectors.proofs.is_nan_pattern.Goals as goal

pub returns-then-exponent-eq2047 : goal.returns-then-exponent-eq2047
unfolding nan_bits
returns-then-exponent-eq2047 c = simp (eq-eqb _ _ c.if-exponent-eq2047.true)

pub returns-else-exponent-eq2047 : goal.returns-else-exponent-eq2047
unfolding nan_bits
returns-else-exponent-eq2047 c = simp (ne_eqb _ _ c.if-exponent-eq2047.false)
