-- `ask_child_walk::next_child` meets its contract: what it has passed by has no child, so the next child of what is ahead is that of the
-- whole. The measure is what is ahead. Assumes nothing.
use mathlib.Core.Path.{◌≡◌}
use lib.ListN.{length}
use Rattle.kdslots.specs.laws.All.{AllBelow}
use Rattle.ask_base.specs.laws.Around.{ring_held, ahead_in}
use Rattle.ask_child_walk.specs.laws.Next.{next_in}
use Rattle.ask_child_walk.proofs.next_child.Given as goal

abbrev pub invariant-loop-slot : goal.invariant-loop-slot
invariant-loop-slot l =
    let g = ring_held l.g in
    (length l.page ≡ length l.initial.page) × AllBelow g.len (ahead_in g l.page l.at)
    × (next_in g l.cid (ahead_in g l.page l.at) ≡ next_in g l.cid (ahead_in g l.initial.page l.initial.at))

abbrev pub decreases-loop-slot : goal.decreases-loop-slot
decreases-loop-slot l = let g = ring_held l.g in length (ahead_in g l.page l.at)
