-- `kdwalk::next_in` meets its contract, by where the slot stands: left of the median, at it, or right of it. Assumes nothing.
use Rattle.std.proofs.Common.{sym, ap, ◌∙◌, ◌+◌, ◌-◌, ◌<◌, arith}
use Rattle.kdsort.specs.Shape.{shape, mid}
use Rattle.kdslots.specs.Slots.{over, when, slots}
use Rattle.kdwalk.specs.laws.Cursor.{head_of}
use Rattle.kdwalk.specs.Cursor.{rest}
use Rattle.kdwalk.proofs.Firsts.{picks, falls-to, rest-leaf, rest-median, rest-right, rest-left, same_rest}
use Rattle.kdwalk.proofs.+next_in.Goals as goal

pub returns-then-len-most : goal.returns-then-len-most
returns-then-len-most t c =
    let a = c.args in
    let s = a.s.now in
    c.first_from.ensures
    ∙ ap head_of (sym (rest-leaf (over s.query s.coords.now) a.v.axis (s.node_size + 1) a.v.lo a.v.hi a.c (omega arith)))

pub returns-then-c-m : goal.returns-then-c-m
returns-then-c-m t c =
    let a = c.args in
    let s = a.s.now in
    let o = over s.query s.coords.now in
    let most = s.node_size + 1 in
    c.next_in.ensures ∙ ap head_of
    (same_rest o most a.c c.left.ensures ∙ sym (rest-left o a.v.axis most a.v.lo a.v.hi (omega arith) a.c (omega arith)))

pub returns-then-c-m-2 : goal.returns-then-c-m-2
returns-then-c-m-2 t c =
    let a = c.args in
    let s = a.s.now in
    c.first_below.ensures ∙ ap head_of
    (sym (rest-median (over s.query s.coords.now) a.v.axis (s.node_size + 1) a.v.lo a.v.hi (omega arith) a.c
    (c.if-c-m-2.true ∙ c.median-m.ensures)))

pub returns-in-Some : goal.returns-in-Some
returns-in-Some t c =
    let a = c.args in
    let s = a.s.now in
    let o = over s.query s.coords.now in
    let most = s.node_size + 1 in
    let m = mid a.v.lo a.v.hi in
    let past : m < a.c = omega (arith, c.if-c-m-2.false, c.if-c-m.false) in
    picks (rest o (1 - a.v.axis) (shape most (m + 1) a.v.hi) a.c)
    (when (o.left a.v.axis m) (slots o (1 - a.v.axis) (shape most a.v.lo m))) c.in-Some.i
    (c.in-Some.ensures ∙ ap head_of (same_rest o most a.c c.right.ensures))
    ∙ ap head_of (sym (rest-right o a.v.axis most a.v.lo a.v.hi (omega arith) a.c past))

pub returns : goal.returns
returns t c =
    let a = c.args in
    let s = a.s.now in
    let o = over s.query s.coords.now in
    let most = s.node_size + 1 in
    let m = mid a.v.lo a.v.hi in
    let past : m < a.c = omega (arith, c.if-c-m-2.false, c.if-c-m.false) in
    falls-to (rest o (1 - a.v.axis) (shape most (m + 1) a.v.hi) a.c)
    (when (o.left a.v.axis m) (slots o (1 - a.v.axis) (shape most a.v.lo m))) c.first_left.result
    (c.in_default.ensures ∙ ap head_of (same_rest o most a.c c.right.ensures)) c.first_left.ensures
    ∙ ap head_of (sym (rest-right o a.v.axis most a.v.lo a.v.hi (omega arith) a.c past))
