-- `build_owners::own_themselves` meets its contract: at the head of the loop the first l lamps own themselves. Assumes nothing.
use Rattle.std.proofs.Common.{ℕ}
use Rattle.build_owners.specs.laws.Fills.{Wrote}
use Rattle.build_owners.proofs.own_themselves.Given as goal

abbrev pub invariant-loop-l : goal.invariant-loop-l
invariant-loop-l l = Wrote 0 l.l (λ (k : ℕ). k) l.initial.owners l.owners
