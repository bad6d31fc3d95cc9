-- `kdsort::select`: each turn is one partition of the definition's, on the side of k. The measure is the length of that side. Assumes
-- nothing.
use Rattle.std.specs.Prelude.{◌-◌}
use Rattle.kdsort.specs.Lent.{index_held_mut, SameIndex}
use Rattle.kdsort.specs.Select.{selected}
use Rattle.kdsort.proofs.Turns.{Parts}
use Rattle.kdsort.proofs.select.Given as goal

abbrev pub invariant-loop-left : goal.invariant-loop-left
invariant-loop-left l =
    let s = index_held_mut l.initial.index in
    Parts (selected l.axis l.k s l.first l.last) l.axis l.k l.last (index_held_mut l.index) l.left l.right
    × SameIndex l.initial.index l.index

abbrev pub decreases-loop-left : goal.decreases-loop-left
decreases-loop-left l = l.right - l.left
