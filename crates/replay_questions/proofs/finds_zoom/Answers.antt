-- `replay_questions::finds_zoom` meets its contract: what is compared is the expansion zoom. Assumes nothing.
use Rattle.std.proofs.Common.{rules}
use Rattle.replay_questions.proofs.Laws.{zoom-told}
use Rattle.replay_questions.proofs.finds_zoom.Goals as goal

pub returns : goal.returns
returns c = zoom-told _ _ _ _ c.same_reply.ensures (search rules) _ c.expansion_zoom-e.ensures
