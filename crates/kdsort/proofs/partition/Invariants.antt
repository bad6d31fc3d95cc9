-- `kdsort::partition`: what holds at the head of a pass, and how far each scan has come, with what stops it at the latest. The measures
-- are how far the two ends are apart, and how far each scan has to go. Assumes nothing.
use Rattle.std.specs.Prelude.{◌≡◌, false, ◌+◌, ◌-◌, ◌≤◌, ltb}
use Rattle.std.specs.Float.Ieee.{lt}
use Rattle.kdsort.specs.Cols.{key}
use Rattle.kdsort.specs.Lent.{index_held_mut, SameIndex}
use Rattle.kdsort.specs.Select.{passes, placed}
use Rattle.kdsort.specs.laws.Scans.{Up, Down}
use Rattle.kdsort.proofs.Turns.{Low, Pass}
use Rattle.kdsort.proofs.partition.Given as goal

abbrev pub invariant-up : goal.invariant-up
invariant-up l = Up l.axis l.t l.coords l.initial.i l.i × (l.i ≤ l.j + 1) × (lt (key l.axis l.coords (l.j + 1)) l.t ≡ false)

abbrev pub decreases-up : goal.decreases-up
decreases-up l = l.j + 1 - l.i

abbrev pub invariant-down : goal.invariant-down
invariant-down l = Down l.axis l.t l.coords l.initial.j l.j × Low l.axis l.t l.coords l.left l.j

abbrev pub decreases-down : goal.decreases-down
decreases-down l = l.j

abbrev pub invariant-passes : goal.invariant-passes
invariant-passes l =
    let s = placed l.axis l.t (index_held_mut l.fn.index) l.k l.left l.right in
    let P = passes (l.right - l.left) (ltb l.left l.right) l.axis l.t s l.left l.right in
    Pass P l.axis l.t l.left l.right (index_held_mut l.index) l.i l.j × SameIndex l.fn.index l.index

abbrev pub decreases-passes : goal.decreases-passes
decreases-passes l = l.j - l.i
