-- `ask_tile_table::asked::AskedTile::add_up` meets its contract: the marks that it lends are blank and enough. Assumes nothing.
use Rattle.std.proofs.Common.{◌≡◌, refl, Bool, true, false, ℕ, ◌*◌, ◌≤◌, length, replicate, sym, subst, arith}
use Rattle.std.specs.Prelude.{ltb}
use borrow.Author.Tests.{ltb-false}
use Rattle.ask_tile_table.specs.laws.Counting.{marks_for}
use Rattle.ask_tile_table.specs.laws.Told.{Blank, blank}
use Rattle.ask_tile_table.proofs.asked.AskedTile.add_up.Goals as goal

-- 8,192 marks are enough
enough : (n : ℕ) → marks_for (ltb 8192 n) n ≤ 8 * 1024
enough n = go (ltb 8192 n) refl
  where
    go : (b : Bool) → ltb 8192 n ≡ b → marks_for b n ≤ 8 * 1024
    go true e = omega arith
    go false e = omega (arith, ltb-false 8192 n e)

pub add_with-requires : goal.add_with-requires
add_with-requires c =
    let n = length c.args.self.now.table.entries.x.now in
    subst (λ (k : ℕ). Blank (ltb 8192 k) n (replicate 1024 0)) (sym c.len-few.ensures) (blank (ltb 8192 n) n 1024 (enough n))
