-- A part of a column, and the table of a zoom among the rows. Definitions only.
use Rattle.std.specs.Prelude.{List, ℕ, get_or, take, drop}
use Rattle.build_tables.specs.Entries.{Table}

-- a part of a column: n entries from a on
abbrev pub part : {A : Type 0} → ℕ → ℕ → List A → List A
part a n l = take n (drop a l)

-- the table of the zoom z among the rows t, where starts and lengths stand in ss and ll
abbrev pub held_at : List ℕ → List ℕ → Table → ℕ → Table
held_at ss ll t z = part (get_or ss z 0) (get_or ll z 0) t
