-- `kdsort::exchange` meets its contract: after each turn one pair more is exchanged. Assumes nothing.
use Rattle.kdsort.specs.laws.Batches.{exchanged-none, exchanged-more}
use Rattle.kdsort.proofs.exchange.Goals as goal

pub loop-k-init : goal.loop-k-init
loop-k-init c = exchanged-none _ _ _

pub loop-k-preserved : goal.loop-k-preserved
loop-k-preserved c = exchanged-more _ _ _ c.loop-k.k _ _ c.loop-k.invariant c.swap_item.ensures
