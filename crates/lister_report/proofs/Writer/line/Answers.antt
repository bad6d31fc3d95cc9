-- `lister_report::Writer::line` meets its contract: its four parts, one after the other. Assumes nothing.
use Rattle.std.proofs.Common.{arith}
use Rattle.lister_report.specs.laws.Put.{put-near, put-more}
use Rattle.lister_report.proofs.Writer.line.Goals as goal

pub returns : goal.returns
returns c =
    put-near (omega arith) (put-more (put-more (put-more c.place.ensures c.point.ensures) c.marks.ensures) c.end.ensures)
