-- `supercluster::fill` meets its contract: at the head of the loop the first rows, up to the place, are the finest table's, and the rest
-- is as it was. Assumes nothing.
use Rattle.std.proofs.Common.{◌≡◌, ◌++◌, take, drop}
use Rattle.build_tables.specs.Lent.{held_mut, SameColumns}
use Rattle.build_tables.specs.Rows.{rows}
use Rattle.supercluster.specs.laws.Fill.{lamps}
use Rattle.supercluster.proofs.fill.Given as goal

abbrev pub invariant-loop-place : goal.invariant-loop-place
invariant-loop-place l =
    let p = l.points in
    SameColumns l.initial.t l.t
    × (rows (held_mut l.t) ≡ take l.place (lamps l.c p.xs.now p.ys.now p.energies.now) ++ drop l.place (rows (held_mut l.initial.t)))
