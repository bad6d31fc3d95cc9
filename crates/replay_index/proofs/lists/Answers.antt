-- `replay_index::lists` meets its contract, by what the callees say. Assumes nothing.
use mathlib.Core.Path.{sym, ◌∙◌}
use Rattle.replay_vectors.specs.Equal.{places-compared}
use Rattle.replay_index.proofs.Laws.{lists-none, lists-some}
use Rattle.replay_index.proofs.lists.Goals as goal

pub returns-then-is_found : goal.returns-then-is_found
returns-then-is_found c = lists-some _ _ _ _ _ _ _ _ _ c.ask.ensures.value
    (sym c.is_found.ensures ∙ c.if-is_found.true) _ c.ask.ensures.out_value _ (places-compared _ _ _ c.eq.ensures)

pub returns-else-is_found : goal.returns-else-is_found
returns-else-is_found c =
    c.if-is_found.false
    ∙ lists-none _ _ _ _ _ _ _ _ _ c.ask.ensures.value (sym c.is_found.ensures ∙ c.if-is_found.false)
