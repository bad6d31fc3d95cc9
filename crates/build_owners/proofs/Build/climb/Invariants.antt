-- `build_owners::Build::climb` meets its contract: at the head of the loop the next owners of the first l lamps are written, and nothing
-- else. Assumes nothing.
use Rattle.std.proofs.Common.{◌+◌}
use Rattle.build_tables.specs.State.{start_of}
use Rattle.build_owners.specs.laws.Climbs.{rows_of}
use Rattle.build_owners.specs.laws.Fills.{Wrote, next_owner}
use Rattle.build_owners.proofs.Build.climb.Given as goal

abbrev pub invariant-loop-l : goal.invariant-loop-l
invariant-loop-l l =
    let s = l.self.state.now in
    Wrote (l.at + s.count) l.l (next_owner s.count (rows_of l.self) (start_of s l.z) l.to l.initial.owners l.at) l.initial.owners l.owners
