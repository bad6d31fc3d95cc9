-- `build_one_zoom::cluster` meets its contract: at the head of the loop what is still to be scanned leads to the definition's scan, there
-- is room for what it can make, every entry of the table is at a finite place, and the notes are those of the table. Assumes nothing.
use Rattle.std.proofs.Common.{take}
use Rattle.kdslots.specs.laws.All.{All}
use Rattle.build_tables.specs.Lent.{held_mut, SameColumns}
use Rattle.build_tables.specs.Rows.{rows}
use Rattle.build_one_zoom.specs.Around.{around}
use Rattle.build_one_zoom.specs.laws.Near.{Placed}
use Rattle.build_one_zoom.specs.laws.Notes.{Noted}
use Rattle.build_one_zoom.specs.laws.Scanning.{Scanning}
use Rattle.build_one_zoom.proofs.cluster.Given as goal

abbrev pub invariant-loop-i : goal.invariant-loop-i
invariant-loop-i l =
    let z = l.zoom in
    let t = rows (held_mut l.t) in
    SameColumns l.initial.t l.t
    × Scanning z.count z.least z.z (around z) z.len (rows (held_mut l.initial.t)) t l.done l.i
    × All Placed (take z.len t) × Noted z.count z.len (around z) l.near (take z.len t)
