-- The state of a build: a value of its options, its number of points, and where each table starts and how long it is. Definitions only.
use Rattle.std.specs.Prelude.{List, ℕ, get_or, set, replicate}
use Rattle.build_tables.specs.declared.Options.{Options}
use Rattle.build_tables.specs.declared.State.{State}

-- the state of these parts
abbrev pub state_of : Options → ℕ → List ℕ → List ℕ → State
state_of o n starts lens = record { options = o; count = n; starts = starts; lens = lens }

-- no tables yet: zeros
abbrev pub new_state : Options → ℕ → State
new_state o n = record { options = o; count = n; starts = replicate 32 0; lens = replicate 32 0 }

-- the table of zoom z starts at `at` and has `len` entries
abbrev pub with_table : State → ℕ → ℕ → ℕ → State
with_table s z at len = record { options = s.options; count = s.count; starts = set s.starts z at; lens = set s.lens z len }

-- where the table of zoom z starts, and how many entries it has
abbrev pub start_of : State → ℕ → ℕ
start_of s z = get_or s.starts z 0

abbrev pub len_of : State → ℕ → ℕ
len_of s z = get_or s.lens z 0
