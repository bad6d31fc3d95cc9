-- `replay_questions::lists_tile` meets its contract: what is compared is the answer, and the three columns that it leaves. Assumes nothing.
use Rattle.std.proofs.Common.{rules}
use Rattle.replay_questions.proofs.Laws.{tile-told}
use Rattle.replay_questions.proofs.lists_tile.Goals as goal

pub returns : goal.returns
returns c =
    tile-told _ _ _ _ c.same_reply.ensures (search rules) _ _ _ _ _ _ _ _
    c.tile-a.ensures c.same_tile.ensures
