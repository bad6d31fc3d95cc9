-- Of a table that stands in the lent columns the parts are as long as the table, and what is lent of the columns from its start to its end
-- is the table. Assumes nothing.
use Rattle.std.specs.Prelude.{◌≡◌, List, ℕ, ◌+◌, ◌-◌, ◌*◌, ◌<◌, length, get_or, take, drop, Float}
use Rattle.std.proofs.Common.{ap, sym, ◌∙◌, subst, arith, get_or-take, get_or-drop}
use Rattle.build_tables.specs.declared.State.{State}
use Rattle.build_tables.specs.State.{start_of, len_of}
use Rattle.build_tables.specs.laws.Sound.{Stands}
use Rattle.build_tables.specs.Rows.{Cols, rows, each}
use Rattle.build_tables.specs.laws.Rows.{rows-length, Even, each_same}
use Rattle.build_tables.specs.Room.{Columns, index_room, room_of}
use Rattle.build_tables.specs.laws.Roomy.{Roomy, each-roomy, room-index, index-roomy}
use Rattle.build_tables.specs.Columns.{part}
use Rattle.build_tables.specs.laws.Columns.{part-long, rows-part}
use Rattle.ask_base.specs.Columns.{table_at, ids_at, coords_at}

-- ---- parts

pub part-get_d : {A : Type 0} (a n : ℕ) (l : List A) (i : ℕ) (d : A) → i < n → get_or (part a n l) i d ≡ get_or l (a + i) d
part-get_d a n l i d h = get_or-take n (drop a l) i d h ∙ get_or-drop a l i d

pub even-part : (a n : ℕ) (c : Cols) → Roomy (a + n) c → Even (each (λ A l. part a n l) c)
even-part a n c h =
    let e = sym (part-long a n c.x h.hx) in
    record {
      ey = part-long a n c.y h.hy ∙ e;
      es = part-long a n c.seen h.hs ∙ e;
      ei = part-long a n c.id h.hi ∙ e;
      ep = part-long a n c.parent h.hp ∙ e;
      en = part-long a n c.num h.hn ∙ e;
      ew = part-long a n c.energy h.hw ∙ e;
    }

-- ---- a column as it is lent, from a up to e

abbrev pub sliced : {A : Type 0} → ℕ → ℕ → List A → List A
sliced a e l = take (e - a) (drop a l)

pub lent-part : {A : Type 0} (a n : ℕ) (l : List A) → sliced a (a + n) l ≡ part a n l
lent-part a n l =
    let k : a + n - a ≡ n = omega arith in
    ap (λ (m : ℕ). take m (drop a l)) k

lent-each : (a n : ℕ) (c : Cols) → each (λ A l. sliced a (a + n) l) c ≡ each (λ A l. part a n l) c
lent-each a n c = each_same (λ A l. sliced a (a + n) l) (λ A l. part a n l) c (λ A l. lent-part a n l)

pub lent_rows : (a n : ℕ) (c : Cols) → rows (each (λ A l. sliced a (a + n) l) c) ≡ part a n (rows c)
lent_rows a n c = ap rows (lent-each a n c) ∙ rows-part a n c

pub lent-even : (a n : ℕ) (c : Cols) → Roomy (a + n) c → Even (each (λ A l. sliced a (a + n) l) c)
lent-even a n c h = subst (λ (q : Cols). Even q) (sym (lent-each a n c)) (even-part a n c h)

-- ---- of a table that stands

module _ (s : State) (c : Columns) (z : ℕ) (w : Stands s (room_of c) z) where
  pub table-length : length (table_at s c z) ≡ len_of s z
  table-length =
      part-long (start_of s z) (len_of s z) (rows c.table)
      (rw (rows-length c.table) (each-roomy c (start_of s z + len_of s z) w.ends).hx)

  -- the columns reach over it
  pub table-roomy : Roomy (start_of s z + len_of s z) c.table
  table-roomy = each-roomy c (start_of s z + len_of s z) w.ends

module _ (s : State) (ids : List ℕ) (coords : List Float) (z : ℕ) (w : Stands s (index_room ids coords) z) where
  pub ids-length : length (ids_at s ids z) ≡ len_of s z
  ids-length = part-long (start_of s z) (len_of s z) ids (index-roomy ids coords (start_of s z + len_of s z) w.ends).0

  pub coords-length : length (coords_at s coords z) ≡ 2 * len_of s z
  coords-length =
      let h = (index-roomy ids coords (start_of s z + len_of s z) w.ends).1 in
      part-long (2 * start_of s z) (2 * len_of s z) coords (omega (arith, h))

-- a table that stands in all columns stands in those of the index
pub stands-index : (s : State) (c : Columns) (z : ℕ) → Stands s (room_of c) z → Stands s (index_room c.ids c.coords) z
stands-index s c z w = record { ends = room-index c (start_of s z + len_of s z) w.ends; some = w.some; most = w.most }
