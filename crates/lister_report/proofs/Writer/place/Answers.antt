-- `lister_report::Writer::place` meets its contract: its four parts, one after the other. Assumes nothing.
use Rattle.std.proofs.Common.{arith}
use Rattle.lister_report.specs.laws.Put.{put-near, put-more}
use Rattle.lister_report.proofs.Writer.place.Goals as goal

pub returns : goal.returns
returns c =
    put-near (omega arith) (put-more (put-more (put-more c.decimal.ensures c.byte.ensures) c.decimal-2.ensures) c.byte-2.ensures)
