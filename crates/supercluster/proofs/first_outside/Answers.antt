-- `supercluster::first_outside` meets its contract: at the head of the loop every point before i is inside, and the first of the rest is
-- the first of all. Assumes nothing.
use Rattle.std.proofs.Common.{◌≡◌, ap, sym, ◌∙◌, Bool, true, false, get_or}
use mathlib.Core.Bool.{◌&&◌}
use Rattle.std.specs.Float.Ieee.{nan}
use Rattle.floats.specs.Unit.{in01}
use Rattle.range.specs.declared.Point.{Point}
use Rattle.range.specs.Range.{converted}
use Rattle.supercluster.specs.laws.Fill.{outside-step, outside-here, outside-end}
use Rattle.supercluster.proofs.first_outside.Goals as goal

pub returns-then-not-in_unit : goal.returns-then-not-in_unit
returns-then-not-in_unit c =
    let a = c.args in
    let i = c.loop-i.i in
    let p : Point = converted a.c (record { x = get_or a.points.now.xs.now i nan; y = get_or a.points.now.ys.now i nan }) in
    let x : in01 p.x ≡ false = ap (λ (q : Point). in01 q.x) (sym c.convert-p.ensures) ∙ sym c.in_unit.ensures
    ∙ c.if-not-in_unit.true in
    outside-here a.c a.points.now.xs.now a.points.now.ys.now i c.loop-i-test.true c.requires (ap (λ (b : Bool). b && in01 p.y) x)
    ∙ sym c.loop-i.invariant

pub returns-then-not-in_unit-2 : goal.returns-then-not-in_unit-2
returns-then-not-in_unit-2 c =
    let a = c.args in
    let i = c.loop-i.i in
    let p : Point = converted a.c (record { x = get_or a.points.now.xs.now i nan; y = get_or a.points.now.ys.now i nan }) in
    let x : in01 p.x ≡ true = ap (λ (q : Point). in01 q.x) (sym c.convert-p.ensures) ∙ sym c.in_unit.ensures
    ∙ c.if-not-in_unit.false in
    let y : in01 p.y ≡ false = ap (λ (q : Point). in01 q.y) (sym c.convert-p.ensures) ∙ sym c.in_unit-in-loop-i.ensures
    ∙ c.if-not-in_unit-2.true in
    outside-here a.c a.points.now.xs.now a.points.now.ys.now i c.loop-i-test.true c.requires (ap (λ (b : Bool). b && in01 p.y) x ∙ y)
    ∙ sym c.loop-i.invariant

pub loop-i-preserved : goal.loop-i-preserved
loop-i-preserved c =
    let a = c.args in
    let i = c.loop-i.i in
    let p : Point = converted a.c (record { x = get_or a.points.now.xs.now i nan; y = get_or a.points.now.ys.now i nan }) in
    let x : in01 p.x ≡ true = ap (λ (q : Point). in01 q.x) (sym c.convert-p.ensures) ∙ sym c.in_unit.ensures
    ∙ c.if-not-in_unit.false in
    let y : in01 p.y ≡ true = ap (λ (q : Point). in01 q.y) (sym c.convert-p.ensures) ∙ sym c.in_unit-in-loop-i.ensures
    ∙ c.if-not-in_unit-2.false in
    c.loop-i.invariant
    ∙ outside-step a.c a.points.now.xs.now a.points.now.ys.now i c.loop-i-test.true c.requires (ap (λ (b : Bool). b && in01 p.y) x ∙ y)

pub returns : goal.returns
returns c =
    let a = c.args in
    sym (c.loop-i.invariant ∙ outside-end a.c a.points.now.xs.now a.points.now.ys.now c.loop-i.i c.loop-i-test.false)
