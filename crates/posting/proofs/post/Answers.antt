-- `posting::post` meets its contract: each refusal is a case of the definition, in its order. Assumes nothing.
use mathlib.Core.Path.{sym, ◌∙◌}
use Rattle.posting.specs.laws.Ends.{not-reached, no-lamp, too_much}
use Rattle.posting.proofs.post.Goals as goal

pub returns-then-not-reaches : goal.returns-then-not-reaches
returns-then-not-reaches c =
    let a = c.args in
    not-reached a.s a.energy.now a.owners.now a.lamp a.figure (sym c.reaches.ensures ∙ c.if-not-reaches.true)

-- past the first test the state reaches over both columns
pub returns-then-s-lamp : goal.returns-then-s-lamp
returns-then-s-lamp c =
    let a = c.args in
    no-lamp a.s a.energy.now a.owners.now a.lamp a.figure (sym c.reaches.ensures ∙ c.if-not-reaches.false) c.if-s-lamp.true

pub returns-then-figure-gt-MOST_ENERGY : goal.returns-then-figure-gt-MOST_ENERGY
returns-then-figure-gt-MOST_ENERGY c =
    let a = c.args in
    too_much a.s a.energy.now a.owners.now a.lamp a.figure (sym c.reaches.ensures ∙ c.if-not-reaches.false, c.if-s-lamp.false)
    c.if-figure-gt-MOST_ENERGY.true

pub settle-requires : goal.settle-requires
settle-requires c =
    ((sym c.reaches.ensures ∙ c.if-not-reaches.false, c.if-s-lamp.false), c.if-figure-gt-MOST_ENERGY.false)
