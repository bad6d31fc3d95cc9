-- `ask_cluster::expand_from` meets its contract: a turn of the loop is one fetch of the definition. Assumes nothing.
use mathlib.Core.Bool.{true}
use Prim.Native.Nat.{◌+◌, ◌-◌}
use Rattle.std.specs.Prelude.{Ok}
use Rattle.build_tables.specs.Lent.{tables_held}
use Rattle.ask_cluster.specs.Expansion.{expand}
use Rattle.ask_cluster.proofs.Climbing.{Rising}
use Rattle.ask_cluster.proofs.expand_from.Given as goal

abbrev pub invariant-loop-z : goal.invariant-loop-z
invariant-loop-z l =
    let c = tables_held l.t in
    let top = l.s.options.max_zoom in
    Rising l.s c top (expand l.s c (top + 1 - (l.fn.at.table - 1)) (Ok l.fn.at) l.cid (l.fn.at.table - 1) true) l.z l.of l.from l.first
