-- One zoom, by SCOPE: the entries of a table in order, each passed by, or marked and then made a cluster with its unseen neighbours, or
-- copied with them. In every definition n is the number of points, least is min_points, z the zoom, and `near x y` are the places that
-- `within` answers at (x, y). Definitions only.
use Rattle.std.specs.Prelude.{Bool, cond, ◌&&◌, List, [], ◌∷◌, ◌++◌, ℕ, zero, suc, ◌+◌, length, set, ltb, leb, Float}
use Rattle.std.specs.Float.{binary64}
use Rattle.std.specs.Float.Ieee.{add, mul, div}
use Rattle.floats.specs.Numbers.{float}
use Rattle.build_tables.specs.declared.Entry.{Entry}
use Rattle.build_tables.specs.Entries.{Table, entry, never, unset, unseen, marked, under}
use Rattle.build_tables.specs.Ids.{cluster_id}

-- the numbers that clusters add up: lamps and energy
abbrev pub num_of : Entry → ℕ
num_of e = e.num

abbrev pub energy_of : Entry → ℕ
energy_of e = e.energy

-- what an entry adds to a sum of f: nothing where it is seen
abbrev pub adds : (Entry → ℕ) → ℕ → Entry → ℕ
adds f z e = cond (unseen z e) (f e) 0

-- f of each unseen neighbour, added up
unfoldable pub more_of : (Entry → ℕ) → ℕ → Table → List ℕ → ℕ
more_of f z t [] = 0
more_of f z t (k ∷ ks) = adds f z (entry t k) + more_of f z t ks

-- the num of each unseen neighbour
abbrev pub more : ℕ → Table → List ℕ → ℕ
more z t l = more_of num_of z t l

-- ---- a cluster

-- the table, and the running sums: coordinates times nums, and energies
pub record Absorbed : Type 0 where
  pub table : Table
  pub sx : Float
  pub sy : Float
  pub se : ℕ

abbrev pub absorbed : Table → Float → Float → ℕ → Absorbed
absorbed t a b c = record { table = t; sx = a; sy = b; se = c }

-- one neighbour: where it is unseen, it is marked, gets the parent p, and adds its products and its energy
unfoldable pub absorb_one : ℕ → ℕ → Absorbed → ℕ → Absorbed
absorb_one z p s k =
    cond (unseen z (entry s.table k))
    (record {
      table = set s.table k (under p (marked z (entry s.table k)));
      sx = add binary64 s.sx (mul binary64 (entry s.table k).x (float (entry s.table k).num));
      sy = add binary64 s.sy (mul binary64 (entry s.table k).y (float (entry s.table k).num));
      se = s.se + (entry s.table k).energy;
    })
    s

-- the neighbours in answer order
unfoldable pub absorb : ℕ → ℕ → Absorbed → List ℕ → Absorbed
absorb z p s [] = s
absorb z p s (k ∷ ks) = absorb z p (absorb_one z p s k) ks

-- the sums begin with the origin's products and energy
abbrev pub started : Table → Entry → Absorbed
started t e = absorbed t (mul binary64 e.x (float e.num)) (mul binary64 e.y (float e.num)) e.energy

-- the new entry
abbrev pub centre : Absorbed → ℕ → ℕ → Entry
centre s id total =
    record {
      x = div binary64 s.sx (float total);
      y = div binary64 s.sy (float total);
      seen = never;
      id = id;
      parent = unset;
      num = total;
      energy = s.se;
    }

-- ---- a scan: the table, with its marks so far, and the next table, as far as it is made
pub record Scan : Type 0 where
  pub table : Table
  pub next : Table

-- the origin gets the parent too, and the new entry is the next table's next
abbrev pub made : ℕ → Absorbed → Table → ℕ → ℕ → Scan
made i s next id total = record { table = set s.table i (under id (entry s.table i)); next = next ++ (centre s id total ∷ []) }

abbrev pub made_at : ℕ → ℕ → ℕ → ℕ → List ℕ → Scan → Scan
made_at n z i total near s =
    let id = cluster_id n z i in
    made i (absorb z id (started s.table (entry s.table i)) near) s.next id total

-- one neighbour: where it is unseen, it is marked and copied
unfoldable pub copy_one : ℕ → Scan → ℕ → Scan
copy_one z s k =
    cond (unseen z (entry s.table k))
    (record { table = set s.table k (marked z (entry s.table k)); next = s.next ++ (marked z (entry s.table k) ∷ []) })
    s

unfoldable pub copy_all : ℕ → Scan → List ℕ → Scan
copy_all z s [] = s
copy_all z s (k ∷ ks) = copy_all z (copy_one z s k) ks

-- the entry is copied, then its neighbours in answer order
abbrev pub left_at : ℕ → ℕ → List ℕ → Scan → Scan
left_at z i near s = copy_all z (record { table = s.table; next = s.next ++ (entry s.table i ∷ []) }) near

-- whether a cluster arises: more lamps than the entry has alone, and min_points or more
abbrev pub enough : ℕ → ℕ → ℕ → Bool
enough own total least = ltb own total && leb least total

abbrev pub visit_by : ℕ → ℕ → ℕ → List ℕ → ℕ → Scan → ℕ → Scan
visit_by n least z near i s total = cond (enough (entry s.table i).num total least) (made_at n z i total near s) (left_at z i near s)

-- the entry i, which is marked: the total is its num and what its free neighbours add
unfoldable pub visit : ℕ → ℕ → ℕ → List ℕ → ℕ → Scan → Scan
visit n least z near i s = visit_by n least z near i s ((entry s.table i).num + more z s.table near)

abbrev pub mark_at : ℕ → ℕ → Scan → Scan
mark_at z i s = record { table = set s.table i (marked z (entry s.table i)); next = s.next }

-- the entry i: left out where its seen is <= zoom, otherwise marked with zoom and visited
unfoldable pub scan_one : ℕ → ℕ → ℕ → (Float → Float → List ℕ) → Scan → ℕ → Scan
scan_one n least z near s i =
    cond (unseen z (entry s.table i))
    (visit n least z (near (entry s.table i).x (entry s.table i).y) i (mark_at z i s))
    s

-- k entries from i on
unfoldable pub scan_from : ℕ → ℕ → ℕ → (Float → Float → List ℕ) → Scan → ℕ → ℕ → Scan
scan_from n least z near s i zero = s
scan_from n least z near s i (suc k) = scan_from n least z near (scan_one n least z near s i) (suc i) k

-- the whole table: it, marked, and the next one
unfoldable pub cluster : ℕ → ℕ → ℕ → (Float → Float → List ℕ) → Table → Scan
cluster n least z near t = scan_from n least z near (record { table = t; next = [] }) 0 (length t)
