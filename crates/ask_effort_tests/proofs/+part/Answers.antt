-- `part` meets its contract: a leaf is scanned; a node is its median, then its right part, then its left, where they are gone into.
-- Assumes nothing.
use Rattle.std.proofs.Common.{◌≡◌, sym, refl, ap, ◌∙◌, List, [], ◌∷◌, ℕ, ◌+◌, ◌-◌, Ok, Err, arith, rules}
use Rattle.kdsort.specs.Shape.{shape}
use Rattle.kdslots.specs.Slots.{over, when, slots}
use Rattle.kdslots.specs.laws.Intervals.{same_slots}
use Rattle.ask_effort_tests.specs.Tested.{testing}
use Rattle.ask_effort_tests.specs.Trials.{marks}
use Rattle.ask_effort_tests.specs.laws.Spend.{went_tests, spend, spend-sum}
use Rattle.ask_effort_tests.proofs.Turns.{same_went, gone, skipped, part-leaf, node-put, node-right, node-left}
use Rattle.ask_effort_tests.proofs.+part.Goals as goal
use Rattle.ask_effort_tests.proofs.+part.Goals.{After-goes_left, then-goes_right+in_ok-k-2, else-goes_right}

pub returns-then-len-most : goal.returns-then-len-most
returns-then-len-most t c =
    let a = c.args in
    let s = a.s.now in
    part-leaf (over s.query s.coords.now) a.ids.now s.n a.v.axis (s.node_size + 1) a.v.lo a.v.hi a.at c.scan.result a.out.now c.scan.new.out
    (omega arith) c.scan.ensures

pub returns-in_err-k : goal.returns-in_err-k
returns-in_err-k t c =
    let a = c.args in
    let s = a.s.now in
    let x = c.in_err-k.field-0.0 in
    let e : c.from_residual.result ≡ Err x = search rules in
    same_went e refl
    ∙ node-put (over s.query s.coords.now) a.ids.now s.n a.v.axis (s.node_size + 1) a.v.lo a.v.hi c.median-m.result a.at a.out.now (omega arith)
    c.median-m.ensures x c.put.new.out c.in_err-k.ensures

pub part-requires : goal.part-requires
part-requires t c =
    let a = c.args in
    let s = a.s.now in
    let ms = marks (over s.query s.coords.now) a.ids.now (c.median-m.result ∷ []) in
    let u = spend-sum s.n ms a.at (Ok c.in_ok-k.k) a.out.now c.put.new.out c.in_ok-k.ensures in
    omega (arith, u)

pub returns-in_err-k-2 : goal.returns-in_err-k-2
returns-in_err-k-2 t c =
    let a = c.args in
    let s = a.s.now in
    let o = over s.query s.coords.now in
    let most = s.node_size + 1 in
    let m = c.median-m.result in
    let k = c.in_ok-k.k in
    let x = c.in_err-k-2.field-0.0 in
    let e : c.from_residual-in_err-k-2.result ≡ Err x = search rules in
    let rights = slots (testing o) (1 - a.v.axis) (shape most (m + 1) a.v.hi) in
    same_went e refl
    ∙ node-right o a.ids.now s.n a.v.axis most a.v.lo a.v.hi m a.at a.out.now (omega arith) c.median-m.ensures k x c.put.new.out
    c.part.new.out c.in_ok-k.ensures
    (gone o a.ids.now s.n (o.right a.v.axis m) rights k (Err x) c.put.new.out c.part.new.out (sym c.if-goes_right.ensures)
    (c.in_err-k-2.ensures ∙ ap (λ (l : List ℕ). spend s.n (marks o a.ids.now l) k c.put.new.out)
    (same_slots (testing o) most (omega arith, omega arith, omega arith))))

-- after the median and the right part, whether that is gone into or not
right : (t : ℕ) (c : After-goes_left t) → let a = c.args in
    let s = a.s.now in
    let o = over s.query s.coords.now in
    let m = c.median-m.result in
    let rights = slots (testing o) (1 - a.v.axis) (shape (s.node_size + 1) (m + 1) a.v.hi) in
    went_tests (Ok c.if-goes_right.k) c.if-goes_right.out
    ≡ spend s.n (marks o a.ids.now (when (o.right a.v.axis m) rights)) c.in_ok-k.k c.put.new.out
right t c =
    let a = c.args in
    let s = a.s.now in
    let o = over s.query s.coords.now in
    let most = s.node_size + 1 in
    let m = c.median-m.result in
    let k = c.in_ok-k.k in
    let rights = slots (testing o) (1 - a.v.axis) (shape most (m + 1) a.v.hi) in
    elim c.if-goes_right.branch [
      | then-goes_right+in_ok-k-2 w ↦ same_went (ap Ok w.k-is) w.out-is
          ∙ gone o a.ids.now s.n (o.right a.v.axis m) rights k (Ok w.in_ok-k-2.k) c.put.new.out w.part.new.out
          (sym c.goes_right.ensures ∙ w.if-goes_right.true)
          (w.in_ok-k-2.ensures ∙ ap (λ (l : List ℕ). spend s.n (marks o a.ids.now l) k c.put.new.out)
          (same_slots (testing o) most (omega arith, omega arith, omega arith)))
      | else-goes_right w ↦ same_went (ap Ok w.k-is) w.out-is
          ∙ skipped o a.ids.now s.n (o.right a.v.axis m) rights k c.put.new.out (sym c.goes_right.ensures ∙ w.if-goes_right.false)
    ]

pub part-requires-then-goes_left : goal.part-requires-then-goes_left
part-requires-then-goes_left t c =
    let a = c.args in
    let s = a.s.now in
    let o = over s.query s.coords.now in
    let m = c.median-m.result in
    let rights = slots (testing o) (1 - a.v.axis) (shape (s.node_size + 1) (m + 1) a.v.hi) in
    let u = spend-sum s.n (marks o a.ids.now (m ∷ [])) a.at (Ok c.in_ok-k.k) a.out.now c.put.new.out c.in_ok-k.ensures in
    let v = spend-sum s.n (marks o a.ids.now (when (o.right a.v.axis m) rights)) c.in_ok-k.k (Ok c.if-goes_right.k) c.put.new.out
    c.if-goes_right.out (right t (goal.at.part-requires-then-goes_left t c).After-goes_left) in
    omega (arith, u, v)

pub returns-then-goes_left : goal.returns-then-goes_left
returns-then-goes_left t c =
    let a = c.args in
    let s = a.s.now in
    let o = over s.query s.coords.now in
    let most = s.node_size + 1 in
    let m = c.median-m.result in
    let x = c.part-then-goes_left.result in
    let end = c.part-then-goes_left.new.out in
    let lefts = slots (testing o) (1 - a.v.axis) (shape most a.v.lo m) in
    node-left o a.ids.now s.n a.v.axis most a.v.lo a.v.hi m a.at a.out.now (omega arith) c.median-m.ensures c.in_ok-k.k c.if-goes_right.k x
    c.put.new.out c.if-goes_right.out end c.in_ok-k.ensures (right t (goal.at.returns-then-goes_left t c).After-goes_left)
    (gone o a.ids.now s.n (o.left a.v.axis m) lefts c.if-goes_right.k x c.if-goes_right.out end (sym c.if-goes_left.ensures)
    (c.part-then-goes_left.ensures ∙ ap (λ (l : List ℕ). spend s.n (marks o a.ids.now l) c.if-goes_right.k c.if-goes_right.out)
    (same_slots (testing o) most (omega arith, omega arith, omega arith))))

pub returns : goal.returns
returns t c =
    let a = c.args in
    let s = a.s.now in
    let o = over s.query s.coords.now in
    let most = s.node_size + 1 in
    let m = c.median-m.result in
    let lefts = slots (testing o) (1 - a.v.axis) (shape most a.v.lo m) in
    node-left o a.ids.now s.n a.v.axis most a.v.lo a.v.hi m a.at a.out.now (omega arith) c.median-m.ensures c.in_ok-k.k c.if-goes_right.k
    (Ok c.if-goes_right.k) c.put.new.out c.if-goes_right.out c.if-goes_right.out c.in_ok-k.ensures
    (right t (goal.at.returns t c).After-goes_left)
    (skipped o a.ids.now s.n (o.left a.v.axis m) lefts c.if-goes_right.k c.if-goes_right.out (sym c.if-goes_left.ensures))
