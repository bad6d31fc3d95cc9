-- `lister::main` never fails: the answer counts bytes of the buffer. Assumes nothing.
use Rattle.lister_report.specs.laws.Replies.{report-counts}
use Rattle.lister.proofs.main.Goals as goal

pub slice_bounds-out-end : goal.slice_bounds-out-end
slice_bounds-out-end c = (report-counts _ _ _ _ c.report-k.ensures).0

pub slice_bounds-write_all-end : goal.slice_bounds-write_all-end
slice_bounds-write_all-end c = (report-counts _ _ _ _ c.report-k.ensures).1
