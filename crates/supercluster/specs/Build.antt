-- The build, by SCOPE's 'Tables and one zoom' and the Rust's `load`: the refusals in order; otherwise the finest table, and each zoom from
-- max_zoom down to min_zoom, every table with its index, packed from position 0. The zooms and the packing are those of `Zooms`, in the
-- crate build_all_zooms. Definitions only.
use Rattle.std.specs.Prelude.{Bool, true, false, cond, ◌&&◌, List, [], ◌∷◌, map, ℕ, zero, suc, ◌+◌, ◌*◌, min, leb, eqb, length, get_or, replicate, Float}
use Rattle.range.specs.declared.CoordinateSystem.{CoordinateSystem}
use Rattle.range.specs.declared.Point.{Point}
use Rattle.range.specs.Range.{converted}
use Rattle.std.specs.Prelude.{Option, Some, None, Result, Ok, Err}
use Rattle.std.specs.Result.{result_unwrap_or}
use Rattle.refusals.specs.declared.Refusal.{Refusal}
use Rattle.refusals.specs.declared.Refusal.TheVariants.{Options as No-as-Options, Count, Point as No-as-Point, Energy, Tables}
use Rattle.kdbush.specs.Reply.{pair_ok, first_outside}
use Rattle.build_tables.specs.declared.Options.{Options}
use Rattle.build_tables.specs.declared.State.{State}
use Rattle.build_tables.specs.declared.Entry.{Entry}
use Rattle.build_tables.specs.Options.{options_ok, table_count}
use Rattle.build_tables.specs.State.{new_state}
use Rattle.build_tables.specs.Entries.{Table, never, unset, xs_of, ys_of, seen_of, ids_of, parents_of, nums_of, energies_of}
use Rattle.build_tables.specs.Rows.{Cols, cols, each2}
use Rattle.build_tables.specs.Room.{columns, room_of}
use Rattle.build_all_zooms.specs.Zooms.{zoom_plan, run_zooms, zooms_of, joined, joined_ids, joined_co, laid_over, starts, lens}

-- ---- the tables

-- the converted points
unfoldable pub converted_all : CoordinateSystem → List Float → List Float → List Point
converted_all c [] ys = []
converted_all c (x ∷ xs) [] = []
converted_all c (x ∷ xs) (y ∷ ys) = converted c (record { x = x; y = y }) ∷ converted_all c xs ys

-- the entry of the point p of energy w: id = its position i, num 1, seen and parent unset
abbrev pub lamp : Point → ℕ → ℕ → Entry
lamp p w i = record { x = p.x; y = p.y; seen = never; id = i; parent = unset; num = 1; energy = w }

-- the finest table: the points in order; ws are their energies
unfoldable pub finest : List Point → List ℕ → ℕ → Table
finest [] ws i = []
finest (p ∷ ps) ws i = lamp p (get_or ws i 0) i ∷ finest ps ws (suc i)

-- every table of a build, the finest first
unfoldable pub tables_of : Options → List Float → List Float → List ℕ → List Table
tables_of o xs ys ws = run_zooms (zoom_plan o (length xs)) (zooms_of o) (finest (converted_all o.coordinate_system xs ys) ws 0)

-- ---- the columns and the state that hold them

-- the lent columns: those of the tables, those of the indexes, and room to work
pub record BuildColumns : Type 0 where
  pub table : Cols
  pub ids : List ℕ
  pub coords : List Float
  pub near : List ℕ

abbrev pub build_columns : Cols → List ℕ → List Float → List ℕ → BuildColumns
build_columns c d co r = record { table = c; ids = d; coords = co; near = r }

-- the columns of a table
abbrev pub cols_of : Table → Cols
cols_of t = cols (xs_of t) (ys_of t) (seen_of t) (ids_of t) (parents_of t) (nums_of t) (energies_of t)

-- the columns after a build of n points: the packed tables, their indexes, zeros in the first 2n of `near`, and past them the old contents
unfoldable pub written : ℕ → ℕ → List Table → BuildColumns → BuildColumns
written size n ts l =
    record {
      table = each2 (λ A l q. laid_over l q) (cols_of (joined ts)) l.table;
      ids = laid_over (joined_ids size ts) l.ids;
      coords = laid_over (joined_co size ts) l.coords;
      near = laid_over (replicate (n + n) 0) l.near;
    }

-- the state: the tables from max_zoom + 1 down, packed from 0
abbrev pub built_state : Options → ℕ → List Table → State
built_state o n ts =
    record {
      options = o;
      count = n;
      starts = starts (o.max_zoom + 1) 0 ts (replicate 32 0);
      lens = lens (o.max_zoom + 1) ts (replicate 32 0);
    }

-- ---- the replies

-- how many entries each lent column has to hold
abbrev pub need : Options → ℕ → ℕ
need o n = table_count o * n

-- for how many entries every lent column has room
abbrev pub room_in : BuildColumns → ℕ
room_in l = min (room_of (columns l.table l.ids l.coords)) (length l.near)

-- the largest energy of a point, in watt-hours: 2^40
abbrev pub most_energy : ℕ
most_energy = 1099511627776

-- the first point from i on that has more
unfoldable pub first_over : List ℕ → ℕ → Option ℕ
first_over [] i = None
first_over (w ∷ ws) i = elim (leb w most_energy) [ true ↦ first_over ws (suc i) | false ↦ Some i ]

-- 3 with the point, where one is outside; otherwise what the next tests give
abbrev pub pointed : Option ℕ → Result (Unit {0}) Refusal → Result (Unit {0}) Refusal
pointed (Some i) r = Err (No-as-Point i)
pointed None r = r

-- 15 with the point, where one has too much; otherwise what the next tests give
abbrev pub weighed : Option ℕ → Result (Unit {0}) Refusal → Result (Unit {0}) Refusal
weighed (Some i) r = Err (Energy i)
weighed None r = r

-- refusals 1, 2, 3, 15, 4, in this order
abbrev pub ordered : Bool → Bool → Option ℕ → Option ℕ → Bool → Result (Unit {0}) Refusal
ordered options count points energies room =
    cond options (cond count (pointed points (weighed energies (cond room (Ok tt) (Err Tables)))) (Err Count)) (Err No-as-Options)

-- 1 to 1,048,576 points, with as many ys and energies as xs
abbrev pub triple_ok : List Float → List Float → List ℕ → Bool
triple_ok xs ys ws = pair_ok xs ys && eqb (length ws) (length xs)

-- what is tested of each, in columns with room for so many entries
abbrev pub checked_in : Options → List Float → List Float → List ℕ → ℕ → Result (Unit {0}) Refusal
checked_in o xs ys ws room =
    let ps = converted_all o.coordinate_system xs ys in
    ordered (options_ok o) (triple_ok xs ys ws) (first_outside (map (λ p. p.x) ps) (map (λ p. p.y) ps) 0) (first_over ws 0)
    (leb (need o (length xs)) room)

unfoldable pub checked : Options → List Float → List Float → List ℕ → BuildColumns → Result (Unit {0}) Refusal
checked o xs ys ws l = checked_in o xs ys ws (room_in l)

-- what a reply with this number leaves of a column: 0 writes it, a refusal does not
abbrev pub unless_refused : ℕ → List ℕ → List ℕ → List ℕ
unless_refused zero written old = written
unless_refused (suc n) written old = old

-- a reply, its state where it is no refusal, and what it leaves in the columns
pub record Outcome : Type 0 where
  pub reply : Result State Refusal
  pub columns : BuildColumns

abbrev pub outcome : Result State Refusal → BuildColumns → Outcome
outcome b l = record { reply = b; columns = l }

-- the state that a caller has by `unwrap_or`: beside a refusal stand the options as given and no tables
abbrev pub state_left : Options → Result State Refusal → State
state_left o r = result_unwrap_or r (new_state o 0)

-- a refusal writes no column
abbrev pub by_reply : Options → List Float → List Float → List ℕ → BuildColumns → Result (Unit {0}) Refusal → Outcome
by_reply o xs ys ws l (Ok d) =
    outcome (Ok (built_state o (length xs) (tables_of o xs ys ws))) (written o.node_size (length xs) (tables_of o xs ys ws) l)
by_reply o xs ys ws l (Err e) = outcome (Err e) l

-- what `load` replies and leaves, for every input
unfoldable pub loaded : Options → List Float → List Float → List ℕ → BuildColumns → Outcome
loaded o xs ys ws l = by_reply o xs ys ws l (checked o xs ys ws l)
