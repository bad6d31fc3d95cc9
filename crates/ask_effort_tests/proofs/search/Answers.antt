-- `search` meets its contract: the reply by how far both searches came. Assumes nothing.
use Rattle.std.proofs.Common.{ap, ◌∙◌, length}
use Rattle.ask_box_plan.specs.laws.Queries.{queries_of}
use Rattle.ask_effort_tests.specs.Trials.{trials}
use Rattle.ask_effort_tests.specs.laws.Spend.{settled_tests}
use Rattle.ask_effort_tests.specs.laws.Ended.{ends, left-small}
use Rattle.ask_effort_tests.proofs.search.Goals as goal

pub settle-requires : goal.settle-requires
settle-requires c =
    let a = c.args in
    let t = trials (queries_of a.p.now) a.node_size a.n a.index.now.ids.now a.index.now.coords.now in
    left-small a.n a.allowance t c.both-made.result a.out.now c.both-made.new.out c.both-made.ensures

pub returns : goal.returns
returns c =
    let a = c.args in
    let made = c.both-made in
    let t = trials (queries_of a.p.now) a.node_size a.n a.index.now.ids.now a.index.now.coords.now in
    let w = ends a.n a.allowance t made.result a.out.now made.new.out (length a.out.now) made.ensures in
    (c.settle.ensures ∙ ap (settled_tests made.result a.allowance) made.auto.out ∙ w.0, w.1)
