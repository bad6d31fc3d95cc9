-- What the loop of `posting::Correction::all_mend` keeps: at its head the tables from z up can be mended.
use mathlib.Core.Path.{◌≡◌}
use Prim.Native.Nat.{◌-◌, ◌≤◌}
use Rattle.build_tables.specs.Options.{table_count}
use Rattle.posting.specs.Post.{mendable}
use Rattle.posting.proofs.Correction.all_mend.Given as goal

abbrev pub invariant-loop-z : goal.invariant-loop-z
invariant-loop-z l =
    let w = l.self in
    let s = w.state.now in
    (s.options.min_zoom ≤ l.z)
    × (mendable s w.owners.now w.lamp w.before w.figure l.energy (table_count s.options)
    ≡ mendable s w.owners.now w.lamp w.before w.figure l.energy (l.z - s.options.min_zoom))
