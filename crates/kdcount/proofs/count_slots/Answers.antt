-- `kdcount::count_slots` meets its contract: what is counted and what is left of the slots are all that are answered. Assumes nothing.
use Rattle.std.proofs.Common.{arith}
use Rattle.kdslots.specs.Slots.{over}
use Rattle.kdcount.proofs.Counts.{count-more, count-done, scanned-few}
use Rattle.kdcount.proofs.count_slots.Goals as goal

pub overflow_add-k : goal.overflow_add-k
overflow_add-k c =
    let l = c.loop-i in
    let v = c.args.v in
    let s = over c.args.s.now.query c.args.s.now.coords.now in
    omega (arith, l.invariant, count-more s l.i v.hi c.tests.result c.loop-i-test.true c.tests.ensures, scanned-few s v.lo v.hi)

pub loop-i-preserved : goal.loop-i-preserved
loop-i-preserved c =
    let l = c.loop-i in
    let v = c.args.v in
    let s = over c.args.s.now.query c.args.s.now.coords.now in
    omega (arith, l.invariant, count-more s l.i v.hi c.tests.result c.loop-i-test.true c.tests.ensures)

pub returns : goal.returns
returns c =
    let l = c.loop-i in
    let s = over c.args.s.now.query c.args.s.now.coords.now in
    omega (arith, l.invariant, count-done s l.i c.args.v.hi c.loop-i-test.false)
