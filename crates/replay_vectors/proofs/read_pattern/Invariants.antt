-- `replay_vectors::read_pattern` meets its contract. The loop's invariant: the bytes passed spell the number so far. Assumes nothing.
use Rattle.replay_vectors.specs.Words.{Spelt}
use Rattle.replay_vectors.proofs.read_pattern.Given as goal

abbrev pub invariant-loop-i : goal.invariant-loop-i
invariant-loop-i l = Spelt l.line l.at l.i l.bits
