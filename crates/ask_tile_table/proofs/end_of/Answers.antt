-- `ask_tile_table::end_of` meets its contract: past the last tile is 2. Assumes nothing.
use mathlib.Core.Path.{◌≡◌}
use Prim.Native.Nat.{ℕ, ◌+◌, ◌^◌}
use native.Mathlib.Omega.{arith}
use lib.Ieee.{of_bits}
use borrow.Author.Tests.{eq-eqb}
use Rattle.floats.specs.Numbers.{two}
use Rattle.ask_tile_table.specs.laws.Floor.{ends}
use Rattle.ask_tile_table.proofs.end_of.Goals as goal

last : (z v : ℕ) → v + 1 ≡ 2 ^ z → two ≡ ends z v
last z v e = rw (eq-eqb (v + 1) (2 ^ z) e)

pub returns-then-v-across : goal.returns-then-v-across
unfolding of_bits
returns-then-v-across c = last c.args.z c.args.v (omega (arith, c.if-v-across.true, c.across.ensures))
