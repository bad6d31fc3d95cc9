-- Demand 3: one owner for every lamp; and the energies of #108, by owner. What is said here is said of a state and its columns, as
-- `load` replies and leaves them and as a question is lent them: their tables, `table_at s c z` from the finest, max_zoom + 1, down to
-- min_zoom, and what `leaves` answers of them. That it holds of every accepted build is shown in Proved, and is what this crate's `load`
-- ensures. Definitions only.
use Rattle.std.specs.Prelude.{Ok, ◌≡◌, ◌↔◌, true, List, ◌++◌, ℕ, suc, ◌+◌, ◌^◌, ◌<◌, ◌≤◌, eqb, length, get_or, take, drop}
use Rattle.build_tables.specs.declared.State.{State}
use Rattle.build_tables.specs.Entries.{entry}
use Rattle.law_groups.specs.Sums.{gate, one_if, sum, count, range}
use Rattle.ask_base.specs.Asked.{told, answer_of, column_of}
use Rattle.build_tables.specs.Room.{Columns}
use Rattle.ask_base.specs.Columns.{table_at}
use Rattle.law_lamps.specs.Owner.{owner_up}
use Rattle.owners.specs.LeafPages.{num_at, page_asked, LeafPages}

-- the tables that the state names
pub record Between (s : State) (z : ℕ) : Type 0 where
  pub low : s.options.min_zoom ≤ z
  pub high : z ≤ s.options.max_zoom + 1

-- the entry at j of table z is a cluster
pub record IsCluster (s : State) (c : Columns) (z j : ℕ) : Type 0 where
  pub between : Between s z
  pub place : j < length (table_at s c z)
  pub many : 1 < (entry (table_at s c z) j).num

-- the lamps ls are those that the place j of a table owns, each once; `own l` is the place that owns the lamp l, of n lamps
pub record Owned (n : ℕ) (own : ℕ → ℕ) (j : ℕ) (ls : List ℕ) : Type 0 where
  -- a lamp is in the list once where j owns it, and is not in it otherwise
  pub each : (l : ℕ) → l < n → count l ls ≡ one_if (eqb (own l) j)
  -- nothing else is in it
  pub only : (l : ℕ) → n ≤ l → count l ls ≡ 0

-- the leaves of the cluster at j of table z with offset 0 and this limit: all lamps that it owns, `own l` the place that owns the lamp l
pub record Leaves (s : State) (c : Columns) (own : ℕ → ℕ) (z j limit : ℕ) : Type 0 where
  pub lamps : List ℕ
  -- they are what `leaves` answers
  pub given : page_asked s c z j limit 0 ≡ told true lamps
  -- as many as the cluster's num
  pub long : length lamps ≡ num_at s c z j
  -- each once
  pub owned : Owned s.count own j lamps
  -- given room: in a column at least as long as the count they stand at the front, before what it held, and their number is answered
  pub room : (out : List ℕ) → num_at s c z j ≤ length out
      → (answer_of (page_asked s c z j limit 0) (length out) ≡ Ok (num_at s c z j))
      × (column_of (page_asked s c z j limit 0) out ≡ lamps ++ drop (num_at s c z j) out)

-- own z l is the place in table z of the one owner of the lamp l; ws are the energies that the build was given, by lamp
pub record Owners (s : State) (c : Columns) (ws : List ℕ) (own : ℕ → ℕ → ℕ) : Type 0 where
  -- in the finest table a lamp owns itself
  pub first : (l : ℕ) → own (s.options.max_zoom + 1) l ≡ l
  -- the owner is an entry of the table
  pub there : (z l : ℕ) → Between s z → l < s.count → own z l < length (table_at s c z)
  -- and exactly one entry is the owner: that with the id of the cluster which absorbed the owner before, or, where none did, with that
  -- owner's own id
  pub climbs : (z l q : ℕ) → s.options.min_zoom ≤ z → z ≤ s.options.max_zoom → l < s.count → q < length (table_at s c z)
      → ((entry (table_at s c z) q).id ≡ owner_up (entry (table_at s c (suc z)) (own (suc z) l))) ↔ (q ≡ own z l)
  -- an entry's num is the number of lamps that it owns
  pub counts : (z j : ℕ) → Between s z → j < length (table_at s c z)
      → (entry (table_at s c z) j).num ≡ sum (λ l. one_if (eqb (own z l) j)) (range 0 s.count)
  -- the entries of a table own all lamps together
  pub together : (z : ℕ) → Between s z → sum (λ j. (entry (table_at s c z) j).num) (range 0 (length (table_at s c z))) ≡ s.count
  -- an entry's energy is the sum of the given energies over the lamps that it owns
  pub energy : (z j : ℕ) → Between s z → j < length (table_at s c z)
      → (entry (table_at s c z) j).energy ≡ sum (λ l. gate (eqb (own z l) j) (get_or ws l 0)) (range 0 s.count)
  -- in every table the energies sum to the lamps' total
  pub energies : (z : ℕ) → Between s z
      → sum (λ j. (entry (table_at s c z) j).energy) (range 0 (length (table_at s c z))) ≡ sum (λ l. get_or ws l 0) (range 0 s.count)
  -- which is at most 2^60: no sum of energies passes the largest u64
  pub light : sum (λ l. get_or ws l 0) (range 0 s.count) ≤ 2 ^ 60
  -- lamps that share an owner share one at every smaller zoom
  pub shares : (z w l m : ℕ) → Between s z → w ≤ z → own z l ≡ own z m → own w l ≡ own w m
  -- a cluster's leaves with offset 0 and a limit of at least its num are the lamps that it owns, each once, and given room they stand in
  -- the column
  pub leaves : (z j limit : ℕ) → IsCluster s c z j → num_at s c z j ≤ limit → Leaves s c (own z) z j limit
  -- a larger limit never changes what a smaller one listed at the same offset; limit 0 lists the shortest list
  pub prefix : (z j m n offset : ℕ) → IsCluster s c z j → m ≤ n
      → (ls : List ℕ) × (page_asked s c z j n offset ≡ told true ls) × (page_asked s c z j m offset ≡ told true (take m ls))
  -- pages of a size of 1 or more join up, and each lamp is on exactly one (#112)
  pub pages : (z j size : ℕ) → IsCluster s c z j → 1 ≤ size → LeafPages s c (own z) z j size
