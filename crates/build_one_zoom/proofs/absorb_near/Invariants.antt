-- `build_one_zoom::absorb_near` meets its contract: at the head of the loop the columns and the sums so far absorb the remaining neighbours
-- to what the first ones absorb all to. Assumes nothing.
use Rattle.std.proofs.Common.{◌≡◌, ◌+◌, ◌^◌, ◌<◌, drop}
use Rattle.build_tables.specs.Rows.{rows}
use Rattle.build_tables.specs.Lent.{held_mut, SameColumns}
use Rattle.build_one_zoom.specs.Zoom.{energy_of, more_of, absorbed, absorb}
use Rattle.build_one_zoom.proofs.absorb_near.Given as goal

abbrev pub invariant-loop-k : goal.invariant-loop-k
invariant-loop-k l =
    let t = rows (held_mut l.t) in
    let rest = drop l.k-index l.near in
    SameColumns l.initial.t l.t
    × (absorb l.z l.p (absorbed t l.s.x l.s.y l.s.energy) rest
    ≡ absorb l.z l.p (absorbed (rows (held_mut l.initial.t)) l.initial.s.x l.initial.s.y l.initial.s.energy) l.near)
    × (l.s.energy + more_of energy_of l.z t rest < 2 ^ 64)
