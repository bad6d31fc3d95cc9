-- `plan_box` meets its contract, by the cases of the coordinate system and of the rule. Assumes nothing.
use mathlib.Core.Path.{sym}
use lib.Ieee.{of_bits, of_int, round, neg}
use Rattle.ask_box_plan.specs.Rule.{plan_of}
use Rattle.ask_box_plan.proofs.plan_box.Goals as goal

pub returns-then-r : goal.returns-then-r
unfolding plan_of of_bits of_int round neg
returns-then-r c =
    simp (
      c.in-LatLng.is,
      sym c.rule-r.ensures.0,
      sym c.rule-r.ensures.1,
      c.if-r.true,
      sym c.rule-a.ensures.0,
      sym c.rule-a.ensures.1,
      sym c.rule-b.ensures.0,
      sym c.rule-b.ensures.1,
      c.box_of-f.ensures,
      c.box_of-g.ensures,
    )

pub returns-in-Cartesian : goal.returns-in-Cartesian
unfolding plan_of
returns-in-Cartesian c = simp (c.in-Cartesian.is, c.box_of.ensures)

pub returns-else-r : goal.returns-else-r
unfolding plan_of
returns-else-r c =
    simp (c.in-LatLng.is, sym c.rule-r.ensures.0, sym c.rule-r.ensures.1, c.if-r.false, c.box_of-in-LatLng.ensures)
