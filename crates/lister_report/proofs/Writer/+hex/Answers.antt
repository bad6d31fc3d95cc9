-- `lister_report::Writer::hex` meets its contract: all digits but the last, and then the last. Assumes nothing.
use Rattle.std.proofs.Common.{arith}
use Rattle.lister_report.specs.laws.Put.{put-none, put-near, put-more}
use Rattle.lister_report.specs.laws.Hex.{hex-none, hex-more}
use Rattle.lister_report.proofs.Writer.+hex.Goals as goal

pub returns-then-left-lt1 : goal.returns-then-left-lt1
returns-then-left-lt1 t c = rw (hex-none _ _ c.if-left-lt1.true) (put-none _ _)

pub returns : goal.returns
returns t c =
    rw (hex-more _ _ c.if-left-lt1.false, ← c.glyph.ensures) (put-near (omega arith) (put-more c.hex.ensures c.byte.ensures))
