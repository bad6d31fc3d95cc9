-- `scan` meets its contract: what is left of the interval gives the rest of the tests. Assumes nothing.
use Rattle.std.proofs.Common.{◌≡◌, ◌+◌, ◌-◌, ◌^◌, ◌<◌, length}
use Rattle.kdslots.specs.Slots.{over, scanned}
use Rattle.ask_effort_tests.specs.Tested.{testing}
use Rattle.ask_effort_tests.specs.Trials.{marks}
use Rattle.ask_effort_tests.specs.laws.Spend.{spend}
use Rattle.ask_effort_tests.proofs.scan.Given as goal

abbrev pub invariant-loop-i : goal.invariant-loop-i
invariant-loop-i l =
    let t = over l.s.query l.s.coords.now in
    let v = l.fn.v in
    (length l.out ≡ length l.initial.out) × (l.k.found + l.k.left < 2 ^ 64)
    × (spend l.s.n (marks t l.ids (scanned (testing t) v.lo (v.hi - v.lo))) l.initial.k l.initial.out
    ≡ spend l.s.n (marks t l.ids (scanned (testing t) l.i (v.hi - l.i))) l.k l.out)
