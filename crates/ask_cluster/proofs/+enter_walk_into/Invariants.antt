-- `ask_cluster::enter` and `ask_cluster::walk_into` meet their contracts: each child is visited as the definition visits it, and what is
-- ahead gives what is left of the walk. A walk goes on into larger tables only; within a level the measure is what is ahead. Assumes
-- nothing.
use mathlib.Core.Path.{◌≡◌}
use Prim.Native.Nat.{◌+◌, ◌-◌, ◌*◌}
use lib.ListN.{length}
use Rattle.build_tables.specs.Lent.{tables_held}
use Rattle.ask_base.specs.laws.Around.{ring_held, ahead_in}
use Rattle.ask_cluster.proofs.Walking.{Walking}
use Rattle.ask_cluster.proofs.+enter_walk_into.Given as goal

abbrev pub decreases-enter : goal.decreases-enter
decreases-enter l = 2 * (32 - l.table)

abbrev pub decreases-walk_into : goal.decreases-walk_into
decreases-walk_into l = 2 * (32 - l.at.table) + 1

-- what the loop over the children keeps
abbrev pub invariant-walk_into-loop-kid : goal.invariant-walk_into-loop-kid
invariant-walk_into-loop-kid l =
    let g = ring_held l.g in
    let c = tables_held l.w.tables.now in
    (length l.page ≡ 16)
    × Walking l.w.state.now c l.w.limit l.w.offset l.cid l.at.table l.at.place l.initial.so l.initial.out g l.out l.any l.so
    (ahead_in g l.page l.from)

abbrev pub decreases-walk_into-loop-kid : goal.decreases-walk_into-loop-kid
decreases-walk_into-loop-kid l = let g = ring_held l.g in length (ahead_in g l.page l.from)
