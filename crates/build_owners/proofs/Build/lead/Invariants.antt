-- `build_owners::Build::lead` meets its contract: at the head of the loop the entry with the id c began with the same lamp, come to in so
-- many steps as are left. Assumes nothing.
use Rattle.std.proofs.Common.{◌≡◌, ◌≤◌, ◌-◌}
use Rattle.build_owners.specs.laws.Climbs.{rows_of, lead_of, Chain}
use Rattle.build_owners.proofs.Build.lead.Given as goal

abbrev pub invariant-loop : goal.invariant-loop
invariant-loop l =
    let s = l.self.state.now in
    let R = rows_of l.self in
    Chain s.count s.starts R (32 - l.counter) l.c
    × (lead_of s.count s.starts R (32 - l.counter) l.c ≡ lead_of s.count s.starts R 32 l.from) × (l.c ≤ 4294967295)
