-- `replay_lister::prints` meets its contract: what `report` leaves is what is printed, and the comparison of bytes decides. Assumes
-- nothing.
use Rattle.lister_report.specs.laws.Replies.{report-counts}
use Rattle.replay_vectors.specs.Equal.{places-compared}
use Rattle.replay_lister.specs.One.{reported, decides}
use Rattle.replay_lister.proofs.prints.Goals as goal

pub slice_bounds-out-end : goal.slice_bounds-out-end
slice_bounds-out-end c = (report-counts _ _ _ _ c.report-k.ensures).0

pub slice_bounds-eq-end : goal.slice_bounds-eq-end
slice_bounds-eq-end c = (report-counts _ _ _ _ c.report-k.ensures).1

pub returns : goal.returns
returns c = decides _ _ _ (reported _ _ _ _ c.report-k.ensures) _ (places-compared _ _ _ c.eq.ensures)
