-- `build_one_zoom::total_near` meets its contract: at the head of the loop the total so far and what the remaining neighbours add are the
-- whole total. Assumes nothing.
use Rattle.std.proofs.Common.{◌≡◌, ◌+◌, drop}
use Rattle.build_tables.specs.Lent.{held}
use Rattle.build_tables.specs.Rows.{rows}
use Rattle.build_one_zoom.specs.Zoom.{more}
use Rattle.build_one_zoom.proofs.total_near.Given as goal

abbrev pub invariant-loop-k : goal.invariant-loop-k
invariant-loop-k l =
    let t = rows (held l.t) in
    l.total + more l.z t (drop l.k-index l.near) ≡ l.own + more l.z t l.near
