-- What the loop of `State::is_filled` keeps: what is left to test from a table on is the whole test.
use mathlib.Core.Path.{◌≡◌}
use Prim.Native.Nat.{◌+◌, ◌*◌, ◌≤◌}
use Rattle.build_tables.specs.Options.{table_count}
use Rattle.build_tables.specs.Sound.{packed}
use Rattle.build_tables.proofs.State.is_filled.Given as goal

abbrev pub invariant-loop-left : goal.invariant-loop-left
invariant-loop-left l =
    (l.at + l.left * 1048576 ≤ table_count l.self.options * 1048576)
    × (packed l.self l.cap l.left l.at ≡ packed l.self l.cap (table_count l.self.options) 0)
