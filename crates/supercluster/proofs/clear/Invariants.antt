-- `supercluster::clear` meets its contract: at the head of the loop the first are zeros, and the rest is as it was. Assumes nothing.
use Rattle.std.proofs.Common.{◌≡◌, ◌++◌, drop, replicate}
use Rattle.supercluster.proofs.clear.Given as goal

abbrev pub invariant-loop-word : goal.invariant-loop-word
invariant-loop-word l = l.near ≡ replicate l.word-index 0 ++ drop l.word-index l.initial.near
