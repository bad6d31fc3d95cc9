-- `build_owners::Build::send` meets its contract: at the head of the loop the first d entries are where their lamps' owners stand. Assumes
-- nothing.
use Rattle.std.proofs.Common.{◌≡◌, ℕ, length, get_or}
use Rattle.build_tables.specs.State.{start_of}
use Rattle.build_owners.specs.laws.Climbs.{rows_of}
use Rattle.build_owners.specs.laws.Fills.{lead_from, Sent}
use Rattle.build_owners.proofs.Build.send.Given as goal

abbrev pub invariant-loop-d : goal.invariant-loop-d
invariant-loop-d l =
    let s = l.self.state.now in
    (length l.to ≡ length l.initial.to)
    × Sent (λ (k : ℕ). get_or l.own (lead_from s.count s.starts (rows_of l.self) (start_of s l.z) k) 0) l.d l.to
