-- `ask_base::put_at` meets its contract: a store past the end is no change. Assumes nothing.
use mathlib.Core.Path.{sym}
use lib.Seq.{set_out}
use Rattle.ask_base.proofs.put_at.Goals as goal

pub returns-else-k-out : goal.returns-else-k-out
returns-else-k-out g c = sym (set_out _ _ _ c.if-k-out.false)
