-- `lister_report::Writer::decimal` meets its contract: all digits but the last, and then the last. Assumes nothing.
use Rattle.std.proofs.Common.{arith}
use Rattle.lister_text.specs.laws.Digits.{decimal-none, decimal-one, decimal-more}
use Rattle.lister_report.specs.laws.Put.{put-none, put-near, put-more}
use Rattle.lister_report.proofs.Writer.+decimal.Goals as goal

pub returns-then-left-lt1 : goal.returns-then-left-lt1
returns-then-left-lt1 t c = rw (decimal-none _ _ c.if-left-lt1.true) (put-none _ _)

pub returns-then-n-lt10 : goal.returns-then-n-lt10
returns-then-n-lt10 t c = rw (decimal-one _ _ c.if-left-lt1.false c.if-n-lt10.true) (put-near (omega arith) c.byte.ensures)

pub returns : goal.returns
returns t c =
    rw (decimal-more _ _ c.if-left-lt1.false c.if-n-lt10.false)
    (put-near (omega arith) (put-more c.decimal.ensures c.byte-2.ensures))
