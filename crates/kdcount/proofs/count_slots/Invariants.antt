-- `kdcount::count_slots`: what is counted is what is answered of the slots below i. Assumes nothing.
use Rattle.std.specs.Prelude.{◌≡◌, ◌+◌, ◌-◌, length}
use Rattle.kdslots.specs.Slots.{over, scanned}
use Rattle.kdcount.proofs.count_slots.Given as goal

abbrev pub invariant-loop-i : goal.invariant-loop-i
invariant-loop-i l =
    let s = over l.s.query l.s.coords.now in
    l.k + length (scanned s l.i (l.fn.v.hi - l.i)) ≡ length (scanned s l.fn.v.lo (l.fn.v.hi - l.fn.v.lo))
