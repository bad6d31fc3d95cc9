-- `kdbush::part` meets its contract: a leaf is scanned; a node is its median, then its right part if it is searched, then its left.
-- Assumes nothing.
use Rattle.std.proofs.Common.{◌≡◌, sym, refl, ap, ◌∙◌, ℕ, ◌+◌, ◌-◌, Some, None, arith}
use Rattle.kdsort.specs.Shape.{shape}
use Rattle.kdslots.specs.Slots.{over, when, slots}
use Rattle.kdbush.specs.laws.Run.{run, ran}
use Rattle.kdbush.specs.Run.{places}
use Rattle.kdbush.proofs.Runs.{same_ran, same_part, put_count, part_count, part-leaf, went, skipped, node-put, node-right, node-left}
use Rattle.kdbush.proofs.+part.Goals as goal
use Rattle.kdbush.proofs.+part.Goals.{After-goes_left, then-goes_right+in_ok-k-2, else-goes_right}

pub returns-then-len-most : goal.returns-then-len-most
returns-then-len-most t c =
    let a = c.args in
    let s = a.s.now in
    part-leaf (over s.query s.coords.now) a.ids.now s.n (s.node_size + 1) a.v.lo a.v.hi a.v.axis a.at a.out.now c.scan.result c.scan.new.out
    (omega arith) c.scan.ensures

pub returns-in_err-k : goal.returns-in_err-k
returns-in_err-k t c =
    let a = c.args in
    let s = a.s.now in
    same_ran c.from_residual.ensures refl
    ∙ node-put (over s.query s.coords.now) a.ids.now s.n (s.node_size + 1) a.v.lo a.v.hi a.v.axis a.at c.median-m.result a.out.now
    (omega arith) c.median-m.ensures c.put.new.out c.in_err-k.ensures

pub part-requires : goal.part-requires
part-requires t c =
    let a = c.args in
    let s = a.s.now in
    let m = c.median-m.result in
    let k = put_count s.n a.at c.in_ok-k.k a.ids.now m ((over s.query s.coords.now).test m) a.out.now c.put.new.out c.in_ok-k.ensures in
    omega (arith, k)

pub returns-in_err-k-2 : goal.returns-in_err-k-2
returns-in_err-k-2 t c =
    let a = c.args in
    let s = a.s.now in
    let o = over s.query s.coords.now in
    let most = s.node_size + 1 in
    let m = c.median-m.result in
    let k = c.in_ok-k.k in
    same_ran c.from_residual-in_err-k-2.ensures refl
    ∙ node-right o a.ids.now s.n most a.v.lo a.v.hi a.v.axis a.at m a.out.now (omega arith) c.median-m.ensures k c.put.new.out
    c.in_ok-k.ensures c.part.new.out
    (went s.n k a.ids.now (slots o (1 - a.v.axis) (shape most (m + 1) a.v.hi)) (o.right a.v.axis m) None c.put.new.out c.part.new.out
    (sym c.if-goes_right.ensures)
    (same_part o a.ids.now s.n most k None c.put.new.out c.part.new.out (omega arith) (omega arith) (omega arith) c.in_err-k-2.ensures))

-- after the median and the right part, whether that is searched or not
right : (t : ℕ) (c : After-goes_left t) → let a = c.args in
    let s = a.s.now in
    let o = over s.query s.coords.now in
    let m = c.median-m.result in
    ran (Some c.if-goes_right.k) c.if-goes_right.out ≡ run s.n c.in_ok-k.k
    (places a.ids.now (when (o.right a.v.axis m) (slots o (1 - a.v.axis) (shape (s.node_size + 1) (m + 1) a.v.hi)))) c.put.new.out
right t c =
    let a = c.args in
    let s = a.s.now in
    let o = over s.query s.coords.now in
    let most = s.node_size + 1 in
    let m = c.median-m.result in
    let k = c.in_ok-k.k in
    let rights = slots o (1 - a.v.axis) (shape most (m + 1) a.v.hi) in
    elim c.if-goes_right.branch [
      | then-goes_right+in_ok-k-2 w ↦ same_ran (ap Some w.k-is) w.out-is
          ∙ went s.n k a.ids.now rights (o.right a.v.axis m) (Some w.in_ok-k-2.k) c.put.new.out w.part.new.out
          (sym c.goes_right.ensures ∙ w.if-goes_right.true)
          (same_part o a.ids.now s.n most k (Some w.in_ok-k-2.k) c.put.new.out w.part.new.out (omega arith) (omega arith) (omega arith)
          w.in_ok-k-2.ensures)
      | else-goes_right w ↦ same_ran (ap Some w.k-is) w.out-is
          ∙ skipped s.n k a.ids.now rights (o.right a.v.axis m) c.put.new.out (sym c.goes_right.ensures ∙ w.if-goes_right.false)
    ]

pub part-requires-then-goes_left : goal.part-requires-then-goes_left
part-requires-then-goes_left t c =
    let a = c.args in
    let s = a.s.now in
    let o = over s.query s.coords.now in
    let m = c.median-m.result in
    let r = right t (goal.at.part-requires-then-goes_left t c).After-goes_left in
    let k = put_count s.n a.at c.in_ok-k.k a.ids.now m (o.test m) a.out.now c.put.new.out c.in_ok-k.ensures in
    let j = part_count o (1 - a.v.axis) (s.node_size + 1) (m + 1) a.v.hi s.n c.in_ok-k.k c.if-goes_right.k a.ids.now
    (o.right a.v.axis m) c.put.new.out c.if-goes_right.out r in
    omega (arith, k, j)

pub returns-then-goes_left : goal.returns-then-goes_left
returns-then-goes_left t c =
    let a = c.args in
    let s = a.s.now in
    let o = over s.query s.coords.now in
    let most = s.node_size + 1 in
    let m = c.median-m.result in
    let x = c.part-then-goes_left.result in
    let end = c.part-then-goes_left.new.out in
    node-left o a.ids.now s.n most a.v.lo a.v.hi a.v.axis a.at m a.out.now (omega arith) c.median-m.ensures c.in_ok-k.k c.put.new.out
    c.in_ok-k.ensures c.if-goes_right.k c.if-goes_right.out (right t (goal.at.returns-then-goes_left t c).After-goes_left) x end
    (went s.n c.if-goes_right.k a.ids.now (slots o (1 - a.v.axis) (shape most a.v.lo m)) (o.left a.v.axis m) x c.if-goes_right.out end
    (sym c.if-goes_left.ensures)
    (same_part o a.ids.now s.n most c.if-goes_right.k x c.if-goes_right.out end (omega arith) (omega arith) (omega arith)
    c.part-then-goes_left.ensures))

pub returns : goal.returns
returns t c =
    let a = c.args in
    let s = a.s.now in
    let o = over s.query s.coords.now in
    let most = s.node_size + 1 in
    let m = c.median-m.result in
    node-left o a.ids.now s.n most a.v.lo a.v.hi a.v.axis a.at m a.out.now (omega arith) c.median-m.ensures c.in_ok-k.k c.put.new.out
    c.in_ok-k.ensures c.if-goes_right.k c.if-goes_right.out (right t (goal.at.returns t c).After-goes_left) (Some c.if-goes_right.k)
    c.if-goes_right.out
    (skipped s.n c.if-goes_right.k a.ids.now (slots o (1 - a.v.axis) (shape most a.v.lo m)) (o.left a.v.axis m) c.if-goes_right.out
    (sym c.if-goes_left.ensures))
