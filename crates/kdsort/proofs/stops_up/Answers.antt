-- `kdsort::stops_up` meets its contract: after each turn the list has the stops among the slots that were looked at. Assumes nothing.
use Rattle.std.proofs.Common.{◌≡◌, refl, ◌∙◌, ◌+◌, ◌<◌, ◌≤◌, arith, length}
use Rattle.std.proofs.Math.ListN.{length-set}
use Rattle.kdsort.proofs.Stops.{ups-starts, ups-more}
use Rattle.kdsort.proofs.stops_up.Goals as goal

pub loop-k-init : goal.loop-k-init
loop-k-init c =
    let a = c.args in
    let at : a.from + 0 ≡ a.from = omega arith in
    (rw at (ups-starts a.axis a.t a.coords.now a.from a.found.now (omega arith)), refl)

-- a turn adds one stop at most, and there is room for it
pub loop-k-preserved : goal.loop-k-preserved
loop-k-preserved c =
    let a = c.args in
    let h = c.loop-k in
    let u : h.n + a.from ≤ a.from + h.k = h.invariant.0.few in
    let e : length h.found ≡ length a.found.now = h.invariant.1 ∙ length-set a.found.now 0 a.from in
    let room : h.n + 1 < length h.found = omega arith in
    let at : a.from + (h.k + 1) ≡ a.from + h.k + 1 = omega arith in
    (rw at (ups-more _ _ _ _ _ _ h.found h.invariant.0 room), length-set h.found _ _ ∙ h.invariant.1)
