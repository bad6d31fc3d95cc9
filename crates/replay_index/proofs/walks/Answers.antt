-- `replay_index::walks` meets its contract. The loop's invariant: what remains of the walk decides the whole. Assumes nothing.
use mathlib.Core.Path.{sym, ◌∙◌}
use Rattle.replay_index.proofs.Laws.{walk-starts, walk_none, walk-other, walk_more, walk_ends}
use Rattle.replay_index.proofs.walks.Goals as goal

pub loop-i-init : goal.loop-i-init
loop-i-init c = walk-starts _ _ _ _ _ _ _ _ c.first-step.ensures

pub returns-then-ids-s : goal.returns-then-ids-s
returns-then-ids-s c = sym (walk_none _ _ _ _ _ _ _ c.slot_of-s.ensures c.loop-i-test.true c.if-ids-s.true)
    ∙ c.loop-i.invariant

pub returns-then-ids-s-2 : goal.returns-then-ids-s-2
returns-then-ids-s-2 c = sym (walk-other _ _ _ _ _ _ _ c.slot_of-s.ensures
    c.loop-i-test.true c.if-ids-s.false c.if-ids-s-2.true)
    ∙ c.loop-i.invariant

pub loop-i-preserved : goal.loop-i-preserved
loop-i-preserved c = rw c.after-step.ensures
    (sym (walk_more _ _ _ _ _ _ _ c.slot_of-s.ensures
    c.loop-i-test.true c.if-ids-s.false
    c.if-ids-s-2.false) ∙ c.loop-i.invariant)

pub returns : goal.returns
returns c = c.is_over.ensures ∙ (sym (walk_ends _ _ _ _ _ _ c.loop-i-test.false) ∙ c.loop-i.invariant)
