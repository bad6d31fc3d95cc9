-- `kdwalk_count::count` meets its contract: what is counted and what is ahead of the cursor make the whole walk. It goes by the promises
-- of kdwalk's Walk alone. Assumes nothing.
use Rattle.std.proofs.Common.{◌≡◌, ap, ◌∙◌, List, ℕ, ◌+◌, Float, Option, Some, Ok, Err, arith, rules, length}
use Rattle.kdslots.specs.declared.Query.{Query}
use Rattle.kdwalk.specs.Reply.{Step, walk}
use Rattle.kdwalk.specs.laws.Walk.{On, ahead, on-first, on-next, on-end, walk-short}
use Rattle.kdwalk_count.specs.Counted.{ended_with, counted_of}
use Rattle.kdwalk_count.proofs.count.Goals as goal

-- at a step that is no slot, the count is whole and the step is how the walk ends
ended : (q : Query) (size n : ℕ) (co : List Float) (cur : Step) (k : ℕ) → On q size n co cur → ((i : ℕ) → cur ≡ Ok (Some i) → ⊥)
    → k + length (ahead q size n co cur) ≡ length (walk q size n co) → length (ahead q size n co cur) ≡ 0
    → ended_with cur k ≡ counted_of q size n co
unfolding counted_of
ended q size n co cur k on no-slot whole z =
    let same : k ≡ length (walk q size n co) = omega arith in
    ap (ended_with cur) same ∙ ap (λ (s : Step). ended_with s (length (walk q size n co))) (on-end q size n co cur no-slot on)

pub returns-in_err-slot : goal.returns-in_err-slot
returns-in_err-slot c =
    let s = c.args.s.now in
    let r = c.in_err-slot.field-0.0 in
    let e : c.from_residual.result ≡ Err r = search rules in
    let h = on-first s.query s.node_size s.n s.coords.now (Err r) c.in_err-slot.ensures in
    e ∙ ended s.query s.node_size s.n s.coords.now (Err r) 0 h.0 (λ i f. cc) (omega (arith, ap length h.1)) (omega arith)

pub loop-slot-init : goal.loop-slot-init
loop-slot-init c =
    let s = c.args.s.now in
    let h = on-first s.query s.node_size s.n s.coords.now (Ok c.in_ok-slot.slot) c.in_ok-slot.ensures in
    (h.0, omega (arith, ap length h.1))

pub overflow_add-k : goal.overflow_add-k
overflow_add-k c =
    let s = c.args.s.now in
    omega (
      arith,
      c.loop-slot.invariant.1,
      ap (λ (o : Option ℕ). length (ahead s.query s.node_size s.n s.coords.now (Ok o))) c.in-Some.is,
      walk-short s.query s.node_size s.n s.coords.now,
    )

pub returns-in_err-slot-2 : goal.returns-in_err-slot-2
returns-in_err-slot-2 c =
    let s = c.args.s.now in
    let r = c.in_err-slot-2.field-0.0 in
    let e : c.from_residual-in_err-slot-2.result ≡ Err r = search rules in
    let h = on-next s.query s.node_size s.n s.coords.now (Ok c.loop-slot.slot) c.in-Some.c (Err r) (ap Ok c.in-Some.is)
    c.loop-slot.invariant.0 c.in_err-slot-2.ensures in
    e ∙ ended s.query s.node_size s.n s.coords.now (Err r) (c.loop-slot.k + 1) h.0 (λ i f. cc)
    (omega (arith, ap length h.1, c.loop-slot.invariant.1)) (omega arith)

pub loop-slot-smaller : goal.loop-slot-smaller
loop-slot-smaller c =
    let s = c.args.s.now in
    let h = on-next s.query s.node_size s.n s.coords.now (Ok c.loop-slot.slot) c.in-Some.c (Ok c.in_ok-slot-2.slot) (ap Ok c.in-Some.is)
    c.loop-slot.invariant.0 c.in_ok-slot-2.ensures in
    omega (arith, ap length h.1)

pub loop-slot-preserved : goal.loop-slot-preserved
loop-slot-preserved c =
    let s = c.args.s.now in
    let h = on-next s.query s.node_size s.n s.coords.now (Ok c.loop-slot.slot) c.in-Some.c (Ok c.in_ok-slot-2.slot) (ap Ok c.in-Some.is)
    c.loop-slot.invariant.0 c.in_ok-slot-2.ensures in
    (h.0, omega (arith, ap length h.1, c.loop-slot.invariant.1))

pub returns : goal.returns
returns c =
    let s = c.args.s.now in
    ended s.query s.node_size s.n s.coords.now (Ok c.loop-slot.slot) c.loop-slot.k c.loop-slot.invariant.0
    (λ i f. let g : c.loop-slot.slot ≡ Some i = cc in c.in_default.not-Some i g) c.loop-slot.invariant.1
    (ap (λ (o : Option ℕ). length (ahead s.query s.node_size s.n s.coords.now (Ok o))) c.in_default.is)
