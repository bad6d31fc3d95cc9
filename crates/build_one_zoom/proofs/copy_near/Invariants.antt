-- `build_one_zoom::copy_near` meets its contract: at the head of the loop the copies so far and those that remain are the definition's, and
-- there is room for what can yet be copied. Assumes nothing.
use Rattle.build_tables.specs.Lent.{held_mut, SameColumns}
use Rattle.build_tables.specs.Rows.{rows}
use Rattle.build_one_zoom.specs.laws.Turns.{Copying}
use Rattle.build_one_zoom.proofs.copy_near.Given as goal

abbrev pub invariant-loop-k : goal.invariant-loop-k
invariant-loop-k l =
    SameColumns l.initial.t l.t
    × Copying l.zoom.len l.zoom.z l.near (rows (held_mut l.initial.t)) l.done (rows (held_mut l.t)) l.d l.k-index
