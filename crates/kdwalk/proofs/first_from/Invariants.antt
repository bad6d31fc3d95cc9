-- `kdwalk::first_from` meets its contract: nothing before i passes. Assumes nothing.
use Rattle.std.proofs.Common.{◌≡◌, ◌-◌}
use Rattle.kdslots.specs.Slots.{over, scanned}
use Rattle.kdwalk.specs.laws.Cursor.{head_of}
use Rattle.kdwalk.proofs.first_from.Given as goal

abbrev pub invariant-loop-i : goal.invariant-loop-i
invariant-loop-i l =
    let o = over l.s.query l.s.coords.now in
    head_of (scanned o l.from (l.hi - l.from)) ≡ head_of (scanned o l.i (l.hi - l.i))
