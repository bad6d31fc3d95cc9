-- What the columns hold while a table is scanned: its entries, and right after them the next table's, as far as it is made. And what is
-- counted on the way. Definitions only.
use Rattle.std.specs.Prelude.{◌≡◌, cond, [], ◌∷◌, ℕ, ◌+◌, ◌≤◌, length, take, drop}
use Rattle.build_tables.specs.declared.Entry.{Entry}
use Rattle.build_tables.specs.Entries.{Table, unseen}
use Rattle.build_one_zoom.specs.Zoom.{Scan, adds, num_of}

-- the scan that the columns hold: the table is the first len rows, and the next one the d rows after them
abbrev pub scan_of : ℕ → ℕ → Table → Scan
scan_of len d t = record { table = take len t; next = take d (drop len t) }

-- what a step of a scan leaves of the columns: the scan's two tables, and the old rows past them
pub record Scanned (len d₀ : ℕ) (s : Scan) (old new : Table) (d : ℕ) : Type 0 where
  pub scan : scan_of len d new ≡ s
  pub rest : drop (len + d) new ≡ drop (len + d) old
  pub grown : d₀ ≤ d
  pub fits : len + d ≤ length new

-- how many entries are unseen: there is room for no more in the next table
unfoldable pub unseen_count : ℕ → Table → ℕ
unseen_count z [] = 0
unseen_count z (e ∷ t) = cond (unseen z e) 1 0 + unseen_count z t

-- f of the unseen entries, added up
unfoldable pub unseen_of : (Entry → ℕ) → ℕ → Table → ℕ
unseen_of f z [] = 0
unseen_of f z (e ∷ t) = adds f z e + unseen_of f z t

-- the num of the unseen entries: no total is more
abbrev pub unseen_num : ℕ → Table → ℕ
unseen_num z t = unseen_of num_of z t
