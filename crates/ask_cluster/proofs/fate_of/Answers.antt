-- `ask_cluster::fate_of` meets its contract: the tests are those of `fate_of`. Assumes nothing.
use borrow.Author.Tests.{lt-ltb, le-ltb, le-leb, lt-leb}
use Rattle.ask_cluster.proofs.fate_of.Goals as goal

pub returns-then-skipped-num : goal.returns-then-skipped-num
returns-then-skipped-num c = simp (lt-ltb _ _ c.if-num-gt1.true, le-leb _ _ c.if-skipped-num.true)

pub returns-then-num-gt1 : goal.returns-then-num-gt1
returns-then-num-gt1 c = simp (lt-ltb _ _ c.if-num-gt1.true, lt-leb _ _ c.if-skipped-num.false)

pub returns-then-skipped-offset : goal.returns-then-skipped-offset
returns-then-skipped-offset c = simp (le-ltb _ _ c.if-num-gt1.false, lt-ltb _ _ c.if-skipped-offset.true)

pub returns : goal.returns
returns c = simp (le-ltb _ _ c.if-num-gt1.false, le-ltb _ _ c.if-skipped-offset.false)
