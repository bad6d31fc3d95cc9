-- What the loop of `posting::Correction::mend_all` keeps: at its head the tables from z up are mended, and the others still can be.
use Prim.Native.Nat.{◌-◌, ◌≤◌}
use lib.ListN.{length}
use Rattle.posting.specs.laws.Mends.{Mending}
use Rattle.posting.proofs.Correction.mend_all.Given as goal

abbrev pub invariant-loop-z : goal.invariant-loop-z
invariant-loop-z l =
    let w = l.self in
    let s = w.state.now in
    (s.options.min_zoom ≤ l.z)
    × Mending s w.owners.now w.lamp w.before w.figure (length l.initial.energy) l.initial.energy (l.z - s.options.min_zoom) l.energy
