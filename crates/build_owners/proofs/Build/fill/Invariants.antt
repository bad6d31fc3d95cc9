-- `build_owners::Build::fill` meets its contract: at the head of the loop the owners down to table z are written. Assumes nothing.
use Rattle.std.proofs.Common.{◌≡◌, length}
use Rattle.build_owners.specs.laws.AllTables.{Going}
use Rattle.build_owners.specs.laws.Climbs.{rows_of}
use Rattle.build_owners.proofs.Build.fill.Given as goal

abbrev pub invariant-loop-z : goal.invariant-loop-z
invariant-loop-z l =
    let s = l.self.state.now in
    (length l.to ≡ length l.initial.to) × Going s (rows_of l.self) l.z l.at l.initial.owners l.owners
