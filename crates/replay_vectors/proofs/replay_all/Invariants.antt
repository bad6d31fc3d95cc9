-- `replay_vectors::replay_all` meets its contract: the score is right at each turn, and has each case before it. Assumes nothing.
use Prim.Native.Nat.{◌+◌}
use mathlib.Core.Path.{◌≡◌}
use Rattle.replay_vectors.specs.Scores.{SoundScore}
use Rattle.replay_vectors.proofs.replay_all.Given as goal

abbrev pub invariant-loop-case : goal.invariant-loop-case
invariant-loop-case g l = SoundScore l.score × (l.score.cases + 1 ≡ l.case)
