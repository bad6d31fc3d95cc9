-- What is asked to print the tables of a state, and their lines one table after the other, from the finest down. Assumes nothing.
use mathlib.Core.List.{List, [], ◌∷◌, ◌++◌}
use Rattle.std.specs.Prelude.{◌≡◌, get_or}
use Rattle.std.proofs.Math.Path.{ap}
use Rattle.std.proofs.Common.{◌∙◌}
use Prim.Native.Nat.{ℕ, suc, ◌+◌, ◌-◌, ◌*◌, ◌<◌, ◌≤◌}
use native.Mathlib.Omega.{arith}
use Rattle.std.proofs.Math.ListN.{length, length-append}
use Rattle.build_tables.specs.declared.State.{State}
use Rattle.build_tables.specs.laws.Columns.{part-long}
use Rattle.build_tables.specs.Columns.{held_at}
use Rattle.build_tables.specs.Entries.{Table}
use Rattle.build_all_zooms.specs.Zooms.{joined}
use Rattle.supercluster.specs.laws.Held.{held, held_by}
use Rattle.lister_report.specs.Lines.{line_room, table_text, tables_text}

-- each table lies within the rows, and there is room for a line for each entry
pub record Holding (s : State) (t : Table) (room : ℕ) : Type 0 where
  pub zooms : s.options.min_zoom ≤ s.options.max_zoom
  pub top : s.options.max_zoom ≤ 30
  pub within : (z : ℕ) → s.options.min_zoom ≤ z → z < s.options.max_zoom + 2 → get_or s.starts z 0 + get_or s.lens z 0 ≤ length t
  pub fits : line_room * length (joined (held_by s t)) ≤ room

-- ---- one table more

module _ (ss ll : List ℕ) (t : Table) (low z : ℕ) where
  held-step : low < z → held ss ll t low (z - low) ≡ held_at ss ll t (z - 1) ∷ held ss ll t low (z - 1 - low)
  unfolding held
  held-step h =
      let e : z - low ≡ suc (z - 1 - low) = omega arith in
      let f : low + (z - 1 - low) ≡ z - 1 = omega arith in
      ap (held ss ll t low) e ∙ ap (λ (q : ℕ). held_at ss ll t q ∷ held ss ll t low (z - 1 - low)) f

  pub text-step : low < z → tables_text (z - 1) (held ss ll t low (z - low)) ≡ table_text (z - 1) 0 (held_at ss ll t (z - 1))
      ++ tables_text (z - 1 - 1) (held ss ll t low (z - 1 - low))
  unfolding tables_text
  text-step h = ap (tables_text (z - 1)) (held-step h)

  pub text-end : z ≤ low → tables_text (z - 1) (held ss ll t low (z - low)) ≡ []
  unfolding held tables_text
  text-end h = let e : z - low ≡ 0 = omega arith in ap (λ (k : ℕ). tables_text (z - 1) (held ss ll t low k)) e

  pub held-long : low < z → get_or ss (z - 1) 0 + get_or ll (z - 1) 0 ≤ length t
      → length (joined (held ss ll t low (z - low))) ≡ get_or ll (z - 1) 0 + length (joined (held ss ll t low (z - 1 - low)))
  unfolding joined
  held-long h w =
      ap (λ (q : List Table). length (joined q)) (held-step h)
      ∙ length-append (held_at ss ll t (z - 1)) (joined (held ss ll t low (z - 1 - low)))
      ∙ ap (λ (k : ℕ). k + length (joined (held ss ll t low (z - 1 - low)))) (part-long (get_or ss (z - 1) 0) (get_or ll (z - 1) 0) t w)
