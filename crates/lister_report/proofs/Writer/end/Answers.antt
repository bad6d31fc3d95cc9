-- `lister_report::Writer::end` meets its contract: its six parts, one after the other. Assumes nothing.
use Rattle.std.proofs.Common.{arith}
use Rattle.lister_report.specs.laws.Put.{put-near, put-more}
use Rattle.lister_report.proofs.Writer.end.Goals as goal

pub returns : goal.returns
returns c =
    let num = put-more (put-more c.or_dash.ensures c.byte.ensures) c.decimal.ensures in
    put-near (omega arith) (put-more (put-more (put-more num c.byte-2.ensures) c.decimal-2.ensures) c.byte-3.ensures)
