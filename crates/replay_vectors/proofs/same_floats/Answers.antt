-- `replay_vectors::same_floats` meets its contract: what is asked of each pair is `agreeing`. Assumes nothing.
use Rattle.std.proofs.Common.{rules, tests}
use Rattle.std.proofs.lemmas.Iterator.{YieldsList-from_slice, YieldsList-from_zip}
use Rattle.std.proofs.lemmas.Iterator.Search.{all_from_yields_List}
use Rattle.replay_vectors.specs.Words.{agreeing}
use Rattle.replay_vectors.proofs.Same.{floats-pairs, floats-other}
use Rattle.replay_vectors.proofs.same_floats.Goals as goal

pub returns-then-want-got : goal.returns-then-want-got
returns-then-want-got c =
    floats-pairs _ _ _ c.if-want-got.true
    (all_from_yields_List (λ p. agreeing p.0 p.1) c.all.new.self _ _ c.all.ensures.ran
    (YieldsList-from_zip (YieldsList-from_slice c.args.want.now cc) (YieldsList-from_slice c.args.got.now cc))
    (λ x b q k. search (rules, tests)))

pub returns-else-want-got : goal.returns-else-want-got
returns-else-want-got c = floats-other _ _ c.if-want-got.false
