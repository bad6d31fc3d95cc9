-- `replay_index::builds` meets its contract, by what the callees say. Assumes nothing.
use mathlib.Core.Bool.{not}
use mathlib.Core.Path.{sym, ap, ◌∙◌}
use Rattle.replay_vectors.specs.Equal.{places-compared}
use Rattle.replay_index.proofs.Laws.{builds-none, builds-other, builds-ids}
use Rattle.replay_index.proofs.builds.Goals as goal

pub returns-then-is_err : goal.returns-then-is_err
returns-then-is_err c = builds-none _ _ _ _ _ _ _ _ c.build.ensures.result_value
    (c.is_err.ensures.negation ∙ ap not c.if-is_err.true)

pub returns-then-eq : goal.returns-then-eq
returns-then-eq c =
    builds-ids _ _ _ _ _ _ _ _ c.build.ensures.result_value (c.is_err.ensures.negation ∙ ap not c.if-is_err.false)
    _ _ c.build.ensures.index_value (sym (places-compared _ _ _ c.eq.ensures) ∙ c.if-eq.true) _ c.same_floats.ensures

pub returns-else-eq : goal.returns-else-eq
returns-else-eq c =
    c.if-eq.false
    ∙ builds-other _ _ _ _ _ _ _ _ c.build.ensures.result_value (c.is_err.ensures.negation ∙ ap not c.if-is_err.false)
    _ _ c.build.ensures.index_value (sym (places-compared _ _ _ c.eq.ensures) ∙ c.if-eq.false)
