-- `ask_owner::reaches` meets its contract: where the state is sound its tables have few places. Assumes nothing.
use mathlib.Core.Path.{◌≡◌, sym, ◌∙◌}
use Prim.Native.Nat.{ℕ, ◌*◌, ◌≤◌}
use native.Mathlib.Omega.{arith}
use Rattle.build_tables.specs.Options.{table_count}
use Rattle.build_tables.specs.laws.Sound.{given}
use Rattle.ask_owner.specs.laws.Reach.{few}
use Rattle.ask_owner.proofs.reaches.Goals as goal

-- so many places fit
fits : (a t n most : ℕ) → a ≡ t → t * n ≤ most → a * n ≤ most
fits a t n most e h = rw e h

pub table_count-requires : goal.table_count-requires
table_count-requires c = (given c.args.s.now c.args.room (sym c.is_sound.ensures ∙ c.if-is_sound.true)).zooms

pub overflow_mul-result : goal.overflow_mul-result
overflow_mul-result c =
    let s = c.args.s.now in
    let f = few s c.args.room (sym c.is_sound.ensures ∙ c.if-is_sound.true) in
    omega (arith, fits c.table_count.result (table_count s.options) s.count 33554432 c.table_count.ensures f)
