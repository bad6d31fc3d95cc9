-- `ask_cluster::list_none` meets its contract: each case of the fetch has its answer. Assumes nothing.
use mathlib.Core.Path.{ap, ◌∙◌}
use Rattle.std.specs.Prelude.{Ok}
use Rattle.std.proofs.lemmas.Result.{err_from_is_err_and}
use Rattle.ask_cluster.proofs.GivesLeaves.{none-fetched}
use Rattle.ask_cluster.proofs.list_none.Goals as goal

pub returns-in_err-fetch : goal.returns-in_err-fetch
returns-in_err-fetch c =
    let p = err_from_is_err_and c.from_residual.result c.from_residual.ensures.1 in
    rw (p.1, p.2) (none-fetched _ _ _ _ _ _ c.fetch.ensures _ c.in_err-fetch.was)

pub returns-in-Nobody : goal.returns-in-Nobody
returns-in-Nobody c = none-fetched _ _ _ _ _ _ c.fetch.ensures _ (c.in_ok-fetch.was ∙ ap Ok c.in-Nobody.is)

pub returns-in-Others : goal.returns-in-Others
returns-in-Others c = none-fetched _ _ _ _ _ _ c.fetch.ensures _ (c.in_ok-fetch.was ∙ ap Ok c.in-Others.is)

pub returns-in-Cluster : goal.returns-in-Cluster
returns-in-Cluster c = none-fetched _ _ _ _ _ _ c.fetch.ensures _ (c.in_ok-fetch.was ∙ ap Ok c.in-Cluster.is)
