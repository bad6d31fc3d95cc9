-- `replay_vectors::read_pattern` meets its contract. The loop's invariant: the bytes passed spell the number so far. Assumes nothing.
use Prim.Native.Nat.{◌+◌, ◌*◌, ◌<◌}
use native.Mathlib.Omega.{arith}
use Rattle.replay_vectors.proofs.Laws.{spelt-fits, spelt-more, spelt-bad}
use Rattle.replay_vectors.proofs.read_pattern.Goals as goal

pub overflow_mul-bits : goal.overflow_mul-bits
overflow_mul-bits c =
    let f : c.loop-i.bits * 16 + 0 < 18446744073709551616 = spelt-fits _ _ _ _ 0 c.loop-i.invariant (omega arith) c.loop-i-test.true in
    omega (arith, f)

pub returns-in_err-bits : goal.returns-in_err-bits
returns-in_err-bits c = rw c.from_residual.ensures (spelt-bad _ _ _ c.loop-i-test.true c.in_err-bits.ensures)

pub overflow_add-bits : goal.overflow_add-bits
overflow_add-bits c =
    let d = c.in_ok-bits.ensures in
    let f : c.loop-i.bits * 16 + c.in_ok-bits.field-0 < 18446744073709551616 =
    spelt-fits _ _ _ _ _ c.loop-i.invariant d.0 c.loop-i-test.true in
    omega (arith, f)

pub loop-i-preserved : goal.loop-i-preserved
loop-i-preserved c =
    let d = c.in_ok-bits.ensures in
    spelt-more _ _ _ _ _ c.loop-i.invariant d.0 d.1
