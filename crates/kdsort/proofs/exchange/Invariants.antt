-- `kdsort::exchange`: the pairs below k are exchanged. Assumes nothing.
use Rattle.std.proofs.Common.{◌≡◌}
use Rattle.kdsort.specs.Cols.{index_cols}
use Rattle.kdsort.specs.laws.Batches.{batch_entry, exchanged}
use Rattle.kdsort.proofs.exchange.Given as goal

abbrev pub invariant-loop-k : goal.invariant-loop-k
invariant-loop-k l =
    index_cols l.ids l.coords ≡ exchanged (index_cols l.initial.ids l.initial.coords) (batch_entry l.ups) (batch_entry l.downs) l.k
