-- `replay_load::read_entries` is safe, and ends: the columns keep their lengths. Assumes nothing.
use mathlib.Core.Path.{◌≡◌}
use lib.ListN.{length}
use Rattle.build_tables.specs.Lent.{SameColumns}
use Rattle.replay_load.proofs.read_entries.Given as goal

abbrev pub invariant-loop-i : goal.invariant-loop-i
invariant-loop-i l =
    SameColumns l.initial.t l.t × (length l.ids ≡ length l.initial.ids) × (length l.coords ≡ length l.initial.coords)
