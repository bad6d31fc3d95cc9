-- `kdsort::build_index`: the slots below i are filled. Assumes nothing.
use Rattle.std.specs.Prelude.{◌≡◌}
use Rattle.kdsort.specs.Lent.{index_held_mut, SameIndex}
use Rattle.kdsort.specs.Sort.{filled_slots}
use Rattle.kdsort.proofs.build_index.Given as goal

abbrev pub invariant-loop-i : goal.invariant-loop-i
invariant-loop-i l =
    (index_held_mut l.index ≡ filled_slots l.i l.xs l.ys (index_held_mut l.initial.index)) × SameIndex l.initial.index l.index
