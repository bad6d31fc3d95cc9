-- `ask_child_walk::list_kids` meets its contract: the children that are listed and those ahead of the walk are all of them. The measure is
-- what is ahead. Assumes nothing.
use mathlib.Core.Path.{◌≡◌}
use lib.ListN.{length}
use Rattle.ask_base.specs.laws.Around.{ring_held, ahead_in}
use Rattle.ask_child_walk.proofs.Listing.{Going}
use Rattle.ask_child_walk.proofs.list_kids.Given as goal

abbrev pub invariant-loop-kid : goal.invariant-loop-kid
invariant-loop-kid l =
    let g = ring_held l.g in
    (length l.page ≡ 16) × Going g l.cid l.initial.out l.out l.k (ahead_in g l.page l.at)

abbrev pub decreases-loop-kid : goal.decreases-loop-kid
decreases-loop-kid l = let g = ring_held l.g in length (ahead_in g l.page l.at)
