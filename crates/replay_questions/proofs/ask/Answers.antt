-- `replay_questions::ask` meets its contract, by the form of the question. Assumes nothing.
use Rattle.replay_questions.specs.Same.{asked_of}
use Rattle.replay_questions.proofs.Laws.{asks}
use Rattle.replay_questions.proofs.ask.Goals as goal

pub returns-in-Box : goal.returns-in-Box
unfolding asked_of
returns-in-Box c = asks _ _ _ _ _ _ _ c.in-Box.is c.list_box.ensures.0 c.list_box.ensures.1

pub returns-in-Ring : goal.returns-in-Ring
unfolding asked_of
returns-in-Ring c = asks _ _ _ _ _ _ _ c.in-Ring.is c.list_ring.ensures.0 c.list_ring.ensures.1

pub returns-in-Children : goal.returns-in-Children
unfolding asked_of
returns-in-Children c = asks _ _ _ _ _ _ _ c.in-Children.is c.children.ensures.0 c.children.ensures.1

pub returns-in-Leaves : goal.returns-in-Leaves
unfolding asked_of
returns-in-Leaves c = asks _ _ _ _ _ _ _ c.in-Leaves.is c.leaves.ensures.0 c.leaves.ensures.1
