-- `kdwalk::leaf_end` meets its contract: the interval that has the slot is halved until it is a leaf. The measure is its length. Assumes
-- nothing.
use Rattle.std.proofs.Common.{◌≡◌, ◌+◌, ◌-◌, ◌≤◌, ◌<◌}
use Rattle.kdsort.specs.Shape.{shape}
use Rattle.kdwalk.specs.laws.Cursor.{leaf_end}
use Rattle.kdwalk.proofs.leaf_end.Given as goal

abbrev pub invariant-loop-hi : goal.invariant-loop-hi
invariant-loop-hi l =
    let most = l.s.node_size + 1 in
    (l.lo ≤ l.c) × (l.c < l.hi) × (l.hi ≤ l.s.n) × (leaf_end (shape most 0 l.s.n) l.c ≡ leaf_end (shape most l.lo l.hi) l.c)

abbrev pub decreases-loop-hi : goal.decreases-loop-hi
decreases-loop-hi l = l.hi - l.lo
