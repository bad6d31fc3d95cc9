-- #112, leaf pages that join up: the page k of a size is what `leaves` answers with the size as limit and k * size as offset. What is
-- so of the pages of one size, of one cluster, is the record LeafPages, over a state and its columns. It is a field of Owners, so that
-- `owners::load` ensures it of every build that it accepts, of every cluster and every size of 1 or more. Definitions only.
use Rattle.std.specs.Prelude.{Ok, ◌≡◌, true, List, [], ◌++◌, ℕ, ◌+◌, ◌-◌, ◌*◌, ◌<◌, ◌≤◌, min, length, drop}
use Rattle.build_tables.specs.declared.State.{State}
use Rattle.build_tables.specs.Entries.{entry}
use Rattle.law_groups.specs.Sums.{count, range}
use Rattle.ask_base.specs.Asked.{Asked, refused, told, answer_of, column_of}
use Rattle.build_tables.specs.Room.{Columns}
use Rattle.ask_base.specs.Columns.{table_at}
use Rattle.ask_cluster.specs.Leaves.{leaves_of}
use Rattle.law_lamps.specs.Owner.{gather}

-- the items of an answer
abbrev pub page_items : Asked → List ℕ
page_items (refused a) = []
page_items (told b l) = l

-- the cluster at j of table z: its id and its count
abbrev pub id_at : State → Columns → ℕ → ℕ → ℕ
id_at s c z j = (entry (table_at s c z) j).id

abbrev pub num_at : State → Columns → ℕ → ℕ → ℕ
num_at s c z j = (entry (table_at s c z) j).num

-- what `leaves` answers of it with a limit at an offset, and the lamps of this answer
abbrev pub page_asked : State → Columns → ℕ → ℕ → ℕ → ℕ → Asked
page_asked s c z j limit offset = leaves_of s c (id_at s c z j) limit offset

abbrev pub lamps_of_cluster : State → Columns → ℕ → ℕ → ℕ → ℕ → List ℕ
lamps_of_cluster s c z j limit offset = page_items (page_asked s c z j limit offset)

-- its whole leaf list, and the page k of a size
abbrev pub all_leaves : State → Columns → ℕ → ℕ → List ℕ
all_leaves s c z j = lamps_of_cluster s c z j (num_at s c z j) 0

abbrev pub page : State → Columns → ℕ → ℕ → ℕ → ℕ → List ℕ
page s c z j size k = lamps_of_cluster s c z j size (k * size)

-- of pages, the page k has x once, and no other page has it
pub record OnPage (x : ℕ) (pages : ℕ → List ℕ) (k : ℕ) : Type 0 where
  pub here : count x (pages k) ≡ 1
  pub nowhere-else : (m : ℕ) → (m ≡ k → ⊥) → count x (pages m) ≡ 0

-- what is so of the pages of a size, of the cluster at j of table z, whose lamps are those with `own l` the place j
pub record LeafPages (s : State) (c : Columns) (own : ℕ → ℕ) (z j size : ℕ) : Type 0 where
  -- no page is refused, nor breaks, whatever its offset
  pub given : (offset : ℕ) → page_asked s c z j size offset ≡ told true (lamps_of_cluster s c z j size offset)
  -- pages in turn, as many as reach the count, join to the whole list of leaves: `gather` puts those of 0 to n - 1 together
  pub joined : (n : ℕ) → num_at s c z j ≤ n * size → gather (λ k. page s c z j size k) (range 0 n) ≡ all_leaves s c z j
  -- a page has the size, or what is left of the count
  pub long : (k : ℕ) → length (page s c z j size k) ≡ min size (num_at s c z j - k * size)
  -- so with k whole pages and a rest, less than a page, the page after them is the rest: short where the size does not divide the count,
  -- and otherwise empty
  pub last : (k rest : ℕ) → num_at s c z j ≡ k * size + rest → rest < size → length (page s c z j size k) ≡ rest
  -- at or past the count a page is empty: at every offset, so up to the largest u32
  pub past : (offset : ℕ) → num_at s c z j ≤ offset → page_asked s c z j size offset ≡ told true []
  -- the offset of a page that is not empty is a u32
  pub fits : (k : ℕ) → k * size < num_at s c z j → k * size ≤ 4294967295
  -- in a column that is long enough for a page, as long as the size or as the count, the page is answered whole, and stands at the front
  -- before what the column held
  pub stands : (offset : ℕ) (out : List ℕ) → min size (num_at s c z j) ≤ length out
      → (answer_of (page_asked s c z j size offset) (length out) ≡ Ok (length (lamps_of_cluster s c z j size offset)))
      × (column_of (page_asked s c z j size offset) out
      ≡ lamps_of_cluster s c z j size offset ++ drop (length (lamps_of_cluster s c z j size offset)) out)
  -- each lamp of the cluster stands on exactly one page, once, and that page is one of those that reach the count
  pub once : (n l : ℕ) → num_at s c z j ≤ n * size → l < s.count → own l ≡ j → (k : ℕ) × (k < n) × OnPage l (λ i. page s c z j size i) k
  -- and nothing else stands on any page
  pub no_other : (k l : ℕ) → (l < s.count → own l ≡ j → ⊥) → count l (page s c z j size k) ≡ 0
