-- What the code goes by, to fill a table's part of the owner column from that of the finer table without a search by id. Each entry has a
-- lamp that it began with: itself, or the lamp that the origin of the cluster began with. So the place which owns this lamp in the finer
-- table is known for each entry of the next, and every place goes where its origin, or it itself, goes. Assumes nothing.
use Rattle.std.specs.Prelude.{◌≡◌, ◌⊎◌, true, false, cond, List, ℕ, zero, suc, ◌+◌, ◌-◌, ◌<◌, ◌≤◌, eqb, ltb, length, get_or}
use Rattle.build_tables.specs.declared.Entry.{Entry}
use Rattle.build_tables.specs.Lent.{held}
use Rattle.build_tables.specs.Rows.{rows}
use Rattle.build_owners.specs.declared.Build.{Build}
use Rattle.build_tables.specs.declared.State.{State}
use Rattle.build_tables.specs.Entries.{Table, entry, unset}
use Rattle.build_tables.specs.Ids.{origin_of, table_of}
use Rattle.build_tables.specs.State.{start_of, len_of}
use Rattle.supercluster.specs.laws.Held.{held_by}
use Rattle.build_owners.specs.OwnerColumn.{owner_in}

-- the rows where a build's tables stand
abbrev pub rows_of : Build → Table
rows_of b = rows (held b.entries)

-- the id of the origin of the cluster c, in a build of n points whose tables start in the rows R by ss
abbrev pub origin_id : ℕ → List ℕ → Table → ℕ → ℕ
origin_id n ss R c = (entry R (get_or ss (table_of n c) 0 + origin_of n c)).id

-- the lamp that the entry with the id c began with, in at most f steps
unfoldable pub lead_of : ℕ → List ℕ → Table → ℕ → ℕ → ℕ
lead_of n ss R zero c = c
lead_of n ss R (suc f) c = elim (ltb c n) [ true ↦ c | false ↦ lead_of n ss R f (origin_id n ss R c) ]

-- it is come to in so many, and each origin on the way is one of the rows
unfoldable pub Chain : ℕ → List ℕ → Table → ℕ → ℕ → Type 0
Chain n ss R zero c = c < n
Chain n ss R (suc f) c = (c < n) ⊎ ((n ≤ c) × (get_or ss (table_of n c) 0 + origin_of n c < length R) × Chain n ss R f (origin_id n ss R c))

-- where the place k goes, goes its cluster's origin; a place without a parent goes by itself
abbrev pub seat_of : ℕ → Entry → ℕ → ℕ
seat_of n e k = cond (eqb e.parent unset) k (origin_of n e.parent)

-- lamp l's owner in the table of zoom z, among the rows R
abbrev pub owner_on : State → Table → ℕ → ℕ → ℕ
owner_on s R z l = owner_in (held_by s R) (s.options.max_zoom + 1 - z) l

-- the entry at j of that table, and the lamp that it began with
abbrev pub entry_at : State → Table → ℕ → ℕ → Entry
entry_at s R z j = entry R (start_of s z + j)

abbrev pub lead_at : State → Table → ℕ → ℕ → ℕ
lead_at s R z j = lead_of s.count s.starts R 32 (entry_at s R z j).id

-- the owner of lamp l in table z + 1
abbrev pub finer : State → Table → ℕ → ℕ → ℕ
finer s R z l = owner_on s R (suc z) l

-- from table z + 1 to table z
pub record Climbs (s : State) (R : Table) (z : ℕ) : Type 0 where
  -- both tables stand among the rows
  pub inside : start_of s z + len_of s z ≤ length R
  pub finer-inside : start_of s (suc z) + len_of s (suc z) ≤ length R
  pub few : len_of s z ≤ s.count
  pub finer-few : len_of s (suc z) ≤ s.count
  -- the lamp that each entry began with is one that it owns
  pub chained : (d : ℕ) → d < len_of s z → Chain s.count s.starts R 32 (entry_at s R z d).id
  pub led : (d : ℕ) → d < len_of s z → lead_at s R z d < s.count
  pub owned : (d : ℕ) → d < len_of s z → owner_on s R z (lead_at s R z d) ≡ d
  -- owners are places of their tables
  pub there : (l : ℕ) → l < s.count → owner_on s R z l < len_of s z
  pub finer-there : (l : ℕ) → l < s.count → finer s R z l < len_of s (suc z)
  -- a parent is unset or a cluster's id, and the place that an owner goes with is that of the lamp which the next owner began with
  pub parent-set : (l : ℕ) → l < s.count → let e = entry_at s R (suc z) (finer s R z l) in (e.parent ≡ unset) ⊎ (s.count ≤ e.parent)
  pub seated : (l : ℕ) → l < s.count
      → seat_of s.count (entry_at s R (suc z) (finer s R z l)) (finer s R z l) ≡ finer s R z (lead_at s R z (owner_on s R z l))

-- a state and rows whose owner column can be filled so
pub record Climbable (s : State) (R : Table) : Type 0 where
  pub few : s.count ≤ 1048576
  pub zooms : s.options.min_zoom ≤ s.options.max_zoom
  pub zoom-to : s.options.max_zoom ≤ 30
  pub starts-small : (z : ℕ) → s.options.min_zoom ≤ z → z ≤ s.options.max_zoom + 1 → start_of s z ≤ 67108864
  pub climbs : (z : ℕ) → s.options.min_zoom ≤ z → z ≤ s.options.max_zoom → Climbs s R z
