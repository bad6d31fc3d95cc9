-- `replay_questions::lists` meets its contract: what is compared is the answer, and the column that it leaves. Assumes nothing.
use Rattle.replay_vectors.specs.Equal.{places-compared}
use Rattle.std.proofs.Common.{rules}
use Rattle.replay_questions.proofs.Laws.{lists-told}
use Rattle.replay_questions.proofs.lists.Goals as goal

pub returns : goal.returns
returns c =
    lists-told _ _ _ _ c.same_reply.ensures (search rules) _ _ _ _ _
    c.ask-a.ensures.0 c.ask-a.ensures.1 (places-compared _ _ _ c.eq.ensures)
