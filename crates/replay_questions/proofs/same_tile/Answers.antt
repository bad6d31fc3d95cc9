-- `replay_questions::same_tile` meets its contract: the comparisons in a row are the definition's. Assumes nothing.
use Rattle.replay_vectors.specs.Chain.{◌and◌}
use Rattle.replay_vectors.specs.Equal.{places-compared, longs-compared}
use Rattle.replay_questions.specs.Same.{same_tile}
use Rattle.replay_questions.proofs.same_tile.Goals as goal

pub returns : goal.returns
unfolding same_tile
returns c =
    places-compared _ _ _ c.eq.ensures and longs-compared _ _ _ c.eq-2.ensures and longs-compared _ _ _ c.eq-3.ensures
