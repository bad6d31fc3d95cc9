-- What is left of the interval gives the rest of the run. Assumes nothing.
use Rattle.std.proofs.Common.{◌≡◌, ◌+◌, ◌-◌, ◌^◌, ◌<◌, length}
use Rattle.kdslots.specs.Slots.{over, scanned}
use Rattle.kdbush.specs.laws.Run.{run}
use Rattle.kdbush.specs.Run.{places}
use Rattle.kdbush.proofs.scan.Given as goal

abbrev pub invariant-loop-i : goal.invariant-loop-i
invariant-loop-i l =
    let o = over l.s.query l.s.coords.now in
    let v = l.fn.v in
    (length l.out ≡ length l.initial.out) × (l.k + (v.hi - l.i) < 2 ^ 64)
    × (run l.s.n l.at (places l.ids (scanned o v.lo (v.hi - v.lo))) l.initial.out
    ≡ run l.s.n l.k (places l.ids (scanned o l.i (v.hi - l.i))) l.out)
