-- `lister_report::Writer::refusal` meets its contract: its four parts, one after the other. Assumes nothing.
use Rattle.std.proofs.Common.{arith}
use Rattle.lister_report.specs.laws.Put.{put-near, put-more}
use Rattle.lister_report.proofs.Writer.refusal.Goals as goal

pub returns : goal.returns
returns c =
    let number = put-more c.bytes.ensures (rw c.number.ensures at c.decimal.ensures) in
    put-near (omega arith) (put-more (put-more number c.carried.ensures) c.byte.ensures)
