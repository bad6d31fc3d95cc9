-- Reading an entry: the tests on the way to it lead to the refusals of `entry_asked`, in its order, or to the entry; and past them the
-- table stands in the columns. Assumes nothing.
use mathlib.Core.Path.{◌≡◌, ap, sym, ◌∙◌}
use mathlib.Core.Bool.{true, false}
use mathlib.Core.List.{List}
use lib.ListN.{length}
use Rattle.std.specs.Prelude.{Ok, Err}
use Prim.Native.Nat.{ℕ, ◌+◌, ◌<◌, ◌≤◌}
use native.Mathlib.Omega.{arith}
use borrow.Author.Tests.{le-leb, lt-leb}
use Rattle.build_tables.specs.declared.State.{State}
use Rattle.build_tables.specs.declared.Entry.{Entry}
use Rattle.build_tables.specs.Entries.{entry}
use Rattle.build_tables.specs.Rows.{Cols, rows, each}
use Rattle.build_tables.specs.Columns.{part}
use Rattle.build_tables.specs.State.{start_of, len_of}
use Rattle.build_tables.specs.Sound.{state_ok}
use Rattle.build_tables.specs.laws.Sound.{given, stands}
use Rattle.build_tables.specs.Room.{Columns, room_of}
use Rattle.build_tables.specs.declared.columns.Table.{Table}
use Rattle.build_tables.specs.Lent.{held}
use Rattle.build_tables.specs.laws.Roomy.{each-roomy}
use Rattle.build_tables.specs.laws.Columns.{part-long, rows-part}
use Rattle.ask_base.specs.Columns.{table_at}
use Rattle.refusals.specs.declared.Refusal.TheVariants.{NoTree, NoCluster, Spoiled}
use Rattle.exports.specs.Read.{entry_asked}

-- past the tests of the state and the zoom
pub record Built (s : State) (c : Columns) (z : ℕ) : Type 0 where
  pub good : state_ok s (room_of c) ≡ true
  pub low : s.options.min_zoom ≤ z
  pub high : z ≤ s.options.max_zoom + 1

module _ (s : State) (c : Columns) (z p : ℕ) where
  pub read-spoiled : state_ok s (room_of c) ≡ false → Err Spoiled ≡ entry_asked s c z p
  unfolding entry_asked
  read-spoiled e = simp e

  pub read_low : state_ok s (room_of c) ≡ true → z < s.options.min_zoom → Err NoTree ≡ entry_asked s c z p
  unfolding entry_asked
  read_low e h = simp (e, lt-leb _ _ h)

  pub read-high : state_ok s (room_of c) ≡ true → s.options.min_zoom ≤ z → s.options.max_zoom + 1 < z → Err NoTree ≡ entry_asked s c z p
  unfolding entry_asked
  read-high e l h = simp (e, le-leb _ _ l, lt-leb _ _ h)

  pub read_past : {n : ℕ} → Built s c z → n ≡ len_of s z → n ≤ p → Err NoCluster ≡ entry_asked s c z p
  unfolding entry_asked
  read_past b q h = simp (b.good, le-leb _ _ b.low, le-leb _ _ b.high, sym q, le-leb _ _ h)

  pub read_at : {n : ℕ} (e : Entry) → Built s c z → n ≡ len_of s z → p < n → e ≡ entry (table_at s c z) p → Ok e ≡ entry_asked s c z p
  unfolding entry_asked
  read_at e b q h k = simp (b.good, le-leb _ _ b.low, le-leb _ _ b.high, sym q, lt-leb _ _ h, k)

-- the zoom is one of the 32
pub small : (s : State) (c : Columns) (z : ℕ) → Built s c z → z < 32
small s c z b = let g = given s (room_of c) b.good in omega (arith, g.zoom-to, b.high)

-- the columns reach over the table
module _ (s : State) (c : Columns) (z : ℕ) (b : Built s c z) {a n : ℕ} (f : a ≡ start_of s z) (q : n ≡ len_of s z) where
  pub reach : a + n ≤ room_of c
  reach = let w = stands s (room_of c) b.good z b.low b.high in omega (arith, w.ends, f, q)

  -- what is cut out of them is the table of the zoom
  module _ (t : Table) (cut : held t.entries ≡ each (λ A l. part a n l) c.table) where
    pub long : length t.entries.x.now ≡ n
    long = ap (λ (k : Cols). length k.x) cut ∙ part-long a n c.table.x (each-roomy c (a + n) reach).hx

    pub entry-is : (p : ℕ) {e : Entry} → e ≡ entry (rows (held t.entries)) p → e ≡ entry (table_at s c z) p
    entry-is p k = k ∙ ap (λ (r : List Entry). entry r p) (ap rows cut ∙ rows-part a n c.table ∙ rw (f, q))
