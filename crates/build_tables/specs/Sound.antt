-- A sound state: what is asked of a state before a question goes by it, over columns of `cap` entries; any other is refused 11. Definitions
-- only.
use Rattle.std.specs.Prelude.{Bool, ◌&&◌, ℕ, zero, suc, ◌+◌, leb, eqb}
use Rattle.kdslots.specs.Bounds.{count_ok}
use Rattle.build_tables.specs.declared.State.{State}
use Rattle.build_tables.specs.Options.{options_ok, table_count}
use Rattle.build_tables.specs.State.{start_of, len_of}

-- a table of len entries that starts at `start` starts at `at` and has 1 to n entries
abbrev pub is_table : ℕ → ℕ → ℕ → ℕ → Bool
is_table start len n at = eqb start at && leb 1 len && leb len n

-- the table of zoom z starts at `at` and has 1 to N entries
abbrev pub table_ok : State → ℕ → ℕ → Bool
table_ok s z at = is_table (start_of s z) (len_of s z) s.count at

-- k tables are left, that of min_zoom + k - 1 and then each smaller one: each starts where the one before ends, and the last ends within
-- the columns
unfoldable pub packed : State → ℕ → ℕ → ℕ → Bool
packed s cap zero at = leb at cap
packed s cap (suc k) at = table_ok s (s.options.min_zoom + k) at && packed s cap k (at + len_of s (s.options.min_zoom + k))

-- options and N within bounds, N entries in the finest table, the tables packed from 0 on
unfoldable pub state_ok : State → ℕ → Bool
state_ok s cap =
    options_ok s.options && count_ok s.count && eqb (len_of s (s.options.max_zoom + 1)) s.count
    && packed s cap (table_count s.options) 0
