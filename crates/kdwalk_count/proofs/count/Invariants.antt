-- What is counted and what is ahead of the cursor make the whole walk. The measure is what is ahead. Assumes nothing.
use Rattle.std.proofs.Common.{◌≡◌, ◌+◌, length, Ok}
use Rattle.kdwalk.specs.Reply.{walk}
use Rattle.kdwalk.specs.laws.Walk.{On, ahead}
use Rattle.kdwalk_count.proofs.count.Given as goal

abbrev pub invariant-loop-slot : goal.invariant-loop-slot
invariant-loop-slot l =
    let s = l.s in
    let co = s.coords.now in
    On s.query s.node_size s.n co (Ok l.slot)
    × (l.k + length (ahead s.query s.node_size s.n co (Ok l.slot)) ≡ length (walk s.query s.node_size s.n co))

abbrev pub decreases-loop-slot : goal.decreases-loop-slot
decreases-loop-slot l = length (ahead l.s.query l.s.node_size l.s.n l.s.coords.now (Ok l.slot))
