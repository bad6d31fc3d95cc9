-- `supercluster::first_over` meets its contract: at the head of the loop every energy before i is small enough, and the first of the rest
-- is the first of all. Assumes nothing.
use Rattle.std.proofs.Common.{◌≡◌, drop}
use Rattle.supercluster.specs.Build.{first_over}
use Rattle.supercluster.proofs.first_over.Given as goal

abbrev pub invariant-loop-i : goal.invariant-loop-i
invariant-loop-i l = first_over l.energies 0 ≡ first_over (drop l.i l.energies) l.i
