-- `replay_load::same_state` meets its contract: the comparisons in a row are the definition's. Assumes nothing.
use mathlib.Core.Path.{refl}
use Rattle.replay_vectors.specs.Chain.{◌and◌}
use Rattle.replay_vectors.specs.Equal.{places-compared}
use Rattle.replay_load.specs.Same.{same_state}
use Rattle.replay_load.proofs.same_state.Goals as goal

pub returns : goal.returns
unfolding same_state
returns c =
    places-compared _ _ _ c.eq.ensures and places-compared _ _ _ c.eq-2.ensures and refl and c.same_options.ensures
