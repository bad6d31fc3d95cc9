-- `kdslots::narrow`: what is left out answers nothing. The measure is the interval's length. Assumes nothing.
use Rattle.std.proofs.Common.{◌≡◌, ◌+◌, ◌-◌, ◌≤◌, ◌<◌}
use Rattle.kdsort.specs.Shape.{shape}
use Rattle.kdslots.specs.Slots.{over, slots}
use Rattle.kdslots.proofs.narrow.Given as goal

abbrev pub invariant-loop-v : goal.invariant-loop-v
invariant-loop-v l =
    let s = over l.s.query l.s.coords.now in
    let most = l.most in
    let lo = l.v.0 in
    let hi = l.v.1.0 in
    let axis = l.v.1.1.0 in
    (lo ≤ hi) × (axis < 2) × (hi ≤ l.s.n) × (slots s axis (shape most lo hi) ≡ slots s 0 (shape most 0 l.s.n))

abbrev pub decreases-loop-v : goal.decreases-loop-v
decreases-loop-v l = l.v.1.0 - l.v.0
