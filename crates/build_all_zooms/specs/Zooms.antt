-- The zooms of a build, by SCOPE's 'Tables and one zoom' and the Rust's `load`: the index of a table, zoom after zoom on tables as values,
-- and how tables are packed one after the other in columns and recorded in a state. Definitions only.
use Rattle.std.specs.Prelude.{List, [], ◌∷◌, ◌++◌, ℕ, zero, suc, ◌+◌, ◌-◌, length, set, drop, Float}
use Rattle.kdsort.specs.Cols.{IndexCols}
use Rattle.kdbush.specs.Reply.{index_of}
use Rattle.build_tables.specs.declared.Options.{Options}
use Rattle.build_tables.specs.Entries.{Table, xs_of, ys_of}
use Rattle.build_tables.specs.Radius.{radius_at}
use Rattle.build_one_zoom.specs.Zoom.{Scan, cluster}
use Rattle.build_one_zoom.specs.Near.{near_of}

-- ---- the tables

-- the index of a table
unfoldable pub index_of_table : ℕ → Table → IndexCols
index_of_table size t = index_of size (xs_of t) (ys_of t)

-- what `within` answers of it
abbrev pub near_in : ℕ → Float → Table → Float → Float → List ℕ
near_in size r t = near_of size (length t) (index_of_table size t).ids (index_of_table size t).co r

-- what a build goes by: the options, and the number of points
pub record Plan : Type 0 where
  pub options : Options
  pub count : ℕ

abbrev pub zoom_plan : Options → ℕ → Plan
zoom_plan o n = record { options = o; count = n }

-- zoom z on the table t: t, marked, and the next table
abbrev pub zoomed : Plan → ℕ → Table → Scan
zoomed p z t =
    let r = radius_at p.options.radius p.options.extent z in
    cluster p.count p.options.min_points z (near_in p.options.node_size r t) t

-- the tables from t down to that of min_zoom, k zooms being left
unfoldable pub run_zooms : Plan → ℕ → Table → List Table
run_zooms p zero t = t ∷ []
run_zooms p (suc k) t = (zoomed p (p.options.min_zoom + k) t).table ∷ run_zooms p k (zoomed p (p.options.min_zoom + k) t).next

-- how many zooms there are
abbrev pub zooms_of : Options → ℕ
zooms_of o = o.max_zoom + 1 - o.min_zoom

-- ---- the columns and the state that hold them

-- tables, and their indexes' columns, one after the other
unfoldable pub joined : List Table → Table
joined [] = []
joined (t ∷ ts) = t ++ joined ts

unfoldable pub joined_ids : ℕ → List Table → List ℕ
joined_ids size [] = []
joined_ids size (t ∷ ts) = (index_of_table size t).ids ++ joined_ids size ts

unfoldable pub joined_co : ℕ → List Table → List Float
joined_co size [] = []
joined_co size (t ∷ ts) = (index_of_table size t).co ++ joined_co size ts

-- a column that holds l, and past it what it held
abbrev pub laid_over : {A : Type 0} → List A → List A → List A
laid_over l d = l ++ drop (length l) d

-- starts and lengths, from the table of zoom z on, which starts at `at`
unfoldable pub starts : ℕ → ℕ → List Table → List ℕ → List ℕ
starts z at [] l = l
starts z at (t ∷ ts) l = starts (z - 1) (at + length t) ts (set l z at)

unfoldable pub lens : ℕ → List Table → List ℕ → List ℕ
lens z [] l = l
lens z (t ∷ ts) l = lens (z - 1) ts (set l z (length t))
