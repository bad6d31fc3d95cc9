-- `kdwalk::after` meets its contract, by its ways out: the rest of the leaf that has the slot is looked at first, then what comes after
-- the leaf. Assumes nothing.
use Rattle.std.proofs.Common.{◌≡◌, ap, ◌∙◌, ℕ, ◌+◌, ◌-◌, Some, Err, arith, rules, length}
use borrow.Author.Tests.{le-ltb, lt-ltb}
use Rattle.kdsort.specs.Shape.{shape}
use Rattle.kdsort.specs.laws.Shape.{spans}
use Rattle.kdslots.specs.laws.Bounds.{coords-is}
use Rattle.kdslots.specs.Slots.{over, scanned}
use Rattle.kdwalk.specs.laws.Cursor.{head_of}
use Rattle.kdwalk.proofs.Leaves.{leaf_first, end-within}
use Rattle.kdwalk.proofs.Steps.{taken, after-refused, after-past, after-found}
use Rattle.kdwalk.proofs.after.Goals as goal

pub returns-in_err-check : goal.returns-in_err-check
returns-in_err-check c =
    let s = c.args.s.now in
    let r = c.in_err-check.field-0.0 in
    let e : c.from_residual.result ≡ Err r = search rules in
    e ∙ after-refused s.query s.node_size s.n s.coords.now c.args.c r c.in_err-check.ensures

pub returns-then-s-c : goal.returns-then-s-c
returns-then-s-c c =
    let s = c.args.s.now in
    after-past s.query s.node_size s.n s.coords.now c.args.c c.in_ok-check.ensures (le-ltb _ _ c.if-s-c.true)

pub first_from-requires : goal.first_from-requires
first_from-requires c =
    let s = c.args.s.now in
    let most = s.node_size + 1 in
    let w = coords-is s.node_size s.n (length s.coords.now) (taken s.query s.node_size s.n s.coords.now c.in_ok-check.ensures).0 in
    let h = end-within 0 s.n (shape most 0 s.n) (spans most 0 s.n) c.args.c c.if-s-c.false in
    omega (arith, c.leaf_end.ensures, h)

pub returns-in-Some : goal.returns-in-Some
returns-in-Some c =
    let s = c.args.s.now in
    let o = over s.query s.coords.now in
    let after = c.args.c + 1 in
    let i = c.in-Some.i in
    let e : Some i ≡ head_of (scanned o after (c.leaf_end.result - after)) = c.in-Some.ensures in
    after-found s.query s.node_size s.n s.coords.now c.args.c c.in_ok-check.ensures (lt-ltb _ _ c.if-s-c.false) (Some i)
    (leaf_first o 0 (shape (s.node_size + 1) 0 s.n) c.args.c i
    (e ∙ ap (λ (h : ℕ). head_of (scanned o after (h - after))) c.leaf_end.ensures))

pub returns : goal.returns
returns c =
    let s = c.args.s.now in
    after-found s.query s.node_size s.n s.coords.now c.args.c c.in_ok-check.ensures (lt-ltb _ _ c.if-s-c.false) c.next_in.result
    c.next_in.ensures
