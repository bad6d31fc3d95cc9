-- `lister_report::Writer::point` meets its contract: its four parts, one after the other. Assumes nothing.
use Rattle.std.proofs.Common.{arith}
use Rattle.lister_report.specs.laws.Put.{put-near, put-more}
use Rattle.lister_report.proofs.Writer.point.Goals as goal

pub returns : goal.returns
returns c =
    let x = put-more (rw c.bits.ensures at c.hex.ensures) c.byte.ensures in
    put-near (omega arith) (put-more (put-more x (rw c.bits-2.ensures at c.hex-2.ensures)) c.byte-2.ensures)
