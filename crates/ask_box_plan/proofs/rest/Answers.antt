-- `rest` meets its contract. Assumes nothing.
use Rattle.std.proofs.Common.{subst, sym, T, ap, ◌∙◌}
use Rattle.std.specs.Float.Ieee.{of_bits, neg}
use Rattle.ask_box_plan.proofs.Turns.{none-left, all-left, all-left-below, mirrored, from-360, once}
use Rattle.floats.specs.laws.Monotone.{neg-finite}
use Rattle.ask_box_plan.proofs.rest.Goals as goal

pub returns-then-not-is_finite : goal.returns-then-not-is_finite
returns-then-not-is_finite c = none-left c.args.v (sym c.is_finite.ensures ∙ c.if-not-is_finite.true)

pub returns-then-m : goal.returns-then-m
unfolding of_bits
returns-then-m c = all-left-below c.args.v (subst T (sym c.well_formed.0.1) tt) c.if-v.true c.if-m.true

pub reduced-requires-clause-finite : goal.reduced-requires-clause-finite
reduced-requires-clause-finite c =
    neg-finite c.args.v (subst T (sym c.if-not-is_finite.false ∙ c.is_finite.ensures) tt)

pub reduced-requires-clause-from_360 : goal.reduced-requires-clause-from_360
unfolding of_bits
reduced-requires-clause-from_360 c =
    from-360 (neg c.args.v) (neg-finite c.args.v (subst T (sym c.if-not-is_finite.false ∙ c.is_finite.ensures) tt)) c.if-m.false

pub returns-then-v : goal.returns-then-v
returns-then-v c = ap neg c.reduced.ensures ∙ mirrored c.args.v

pub returns-then-v-2 : goal.returns-then-v-2
unfolding of_bits
returns-then-v-2 c = all-left c.args.v (subst T (sym c.well_formed.0.1) tt) c.if-v.false c.if-v-2.true

pub reduced-requires-2-clause-from_360 : goal.reduced-requires-2-clause-from_360
unfolding of_bits
reduced-requires-2-clause-from_360 c = from-360 c.args.v (subst T (sym c.if-not-is_finite.false ∙ c.is_finite.ensures) tt) c.if-v-2.false

pub returns-then-v-3 : goal.returns-then-v-3
unfolding of_bits
returns-then-v-3 c =
    let n = subst T (sym c.if-not-is_finite.false ∙ c.is_finite.ensures) tt in
    once c.args.v (subst T (sym c.well_formed.0.1) tt) n (from-360 c.args.v n c.if-v-2.false) c.if-v-3.true
