-- SCOPE's worked build, computed from the definitions: the real index, the real search and the real distance test give the tables that
-- SCOPE prints, at its node size and at node size 1, where the index is split; and columns one entry too short are refused 4. Assumes
-- nothing.
use Rattle.std.specs.Prelude.{◌≡◌, refl, false, List, [], ◌∷◌, ℕ, ◌+◌, set, replicate, Float, Some, Err}
use Rattle.std.specs.Float.{binary64}
use Rattle.std.specs.Float.Ieee.{add, sub, mul, div, of_int, of_bits, le, lt, eq}
use Rattle.floats.specs.Numbers.{zero, one}
use Rattle.range.specs.declared.CoordinateSystem.TheVariants.{Cartesian}
use Rattle.range.specs.Range.{offset_of, scale_of, normalized, in_bounds, system_in_bounds, converted}
use Rattle.kdsort.specs.Cols.{swap_co, swap_ids}
use Rattle.kdsort.specs.Shape.{shape, split}
use Rattle.kdsort.specs.Select.{up, down, passes, parted, sel, selected}
use Rattle.kdsort.specs.Sort.{filled_slots, sorted, indexed}
use Rattle.kdslots.specs.Slots.{scanned, slots}
use Rattle.kdbush.specs.Run.{places}
use Rattle.kdbush.specs.Reply.{first_outside}
use Rattle.build_tables.specs.declared.Options.{Options}
use Rattle.build_tables.specs.declared.Entry.{Entry}
use Rattle.build_tables.specs.Options.{options_ok}
use Rattle.build_tables.specs.Entries.{Table, never, unset}
use Rattle.build_tables.specs.Radius.{radius_at}
use Rattle.build_tables.specs.Rows.{cols}
use Rattle.build_one_zoom.specs.Zoom.{more_of, absorb_one, absorb, copy_one, copy_all, visit, scan_one, scan_from, cluster}
use Rattle.kdbush.specs.Reply.{index_of}
use Rattle.build_all_zooms.specs.Zooms.{index_of_table, run_zooms, starts}
use Rattle.refusals.specs.declared.Refusal.TheVariants.{Tables}
use Rattle.supercluster.specs.Build.{converted_all, finest, tables_of, BuildColumns, build_columns, first_over, checked, loaded}

-- a float by its bits, as SCOPE prints it
unfoldable pub b : ℕ → Float
unfolding of_bits
b n = of_bits binary64 n

-- an entry by the bits of x and y, seen, id, parent, num and energy
unfoldable pub at : ℕ → ℕ → ℕ → ℕ → ℕ → ℕ → ℕ → Entry
at x y s i p n w = record { x = b x; y = b y; seen = s; id = i; parent = p; num = n; energy = w }

-- the worked example's options, Cartesian with offset 0 and scale 1, and any node_size
unfoldable pub options : ℕ → Options
options size =
    record {
      min_zoom = 0;
      max_zoom = 1;
      min_points = 2;
      radius = b 0x4050000000000000;
      extent = b 0x4080000000000000;
      node_size = size;
      coordinate_system = Cartesian
          (record { min_x = zero; min_y = zero; max_x = one; max_y = one; offset = Some zero; scale = Some one });
      longitude_strips_only = false;
    }

-- the four lamps, and their energies
unfoldable pub xs : List Float
xs = b 0x3fd0000000000000 ∷ b 0x3fd4000000000000 ∷ b 0x3fda000000000000 ∷ b 0x3fda000000000000 ∷ []

unfoldable pub ys : List Float
ys = b 0x3fe0000000000000 ∷ b 0x3fe0000000000000 ∷ b 0x3fe0000000000000 ∷ b 0x3fe0000000000000 ∷ []

unfoldable pub ws : List ℕ
ws = 10 ∷ 20 ∷ 30 ∷ 40 ∷ []

-- the three tables that SCOPE prints
unfoldable pub shown : List Table
shown =
    (at 0x3fd0000000000000 0x3fe0000000000000 1 0 6 1 10
    ∷ at 0x3fd4000000000000 0x3fe0000000000000 1 1 6 1 20
    ∷ at 0x3fda000000000000 0x3fe0000000000000 1 2 70 1 30
    ∷ at 0x3fda000000000000 0x3fe0000000000000 1 3 70 1 40
    ∷ [])
    ∷ (at 0x3fd2000000000000 0x3fe0000000000000 0 6 5 2 30 ∷ at 0x3fda000000000000 0x3fe0000000000000 0 70 5 2 70 ∷ [])
    ∷ (at 0x3fd6000000000000 0x3fe0000000000000 never 5 unset 4 100 ∷ [])
    ∷ []

pub tables-are : tables_of (options 64) xs ys ws ≡ shown
unfolding tables_of run_zooms converted_all finest index_of_table index_of radius_at cluster scan_from scan_one visit copy_all copy_one absorb
    absorb_one
    more_of converted normalized offset_of scale_of add sub mul div of_int of_bits le lt eq filled_slots sorted indexed selected sel parted passes
    up down swap_co swap_ids shape split scanned slots places options xs ys ws shown b at
tables-are = refl

-- and at node size 1
pub split-are : tables_of (options 1) xs ys ws ≡ shown
unfolding tables_of run_zooms converted_all finest index_of_table index_of radius_at cluster scan_from scan_one visit copy_all copy_one absorb
    absorb_one
    more_of converted normalized offset_of scale_of add sub mul div of_int of_bits le lt eq filled_slots sorted indexed selected sel parted passes
    up down swap_co swap_ids shape split scanned slots places options xs ys ws shown b at
split-are = refl

-- table 2 starts at 0, table 1 at 4, table 0 at 6
pub starts-are : starts 2 0 shown (replicate 32 0) ≡ set (set (replicate 32 0) 1 4) 0 6
unfolding starts shown
starts-are = refl

-- zeroed columns of n entries
unfoldable pub zeros : ℕ → BuildColumns
zeros n =
    let f = replicate n zero in
    let z = replicate {A = ℕ} n 0 in
    build_columns (cols f f z z z z z) z (replicate (n + n) zero) z

-- columns of 12 entries are long enough (Build), and one less is refused 4
pub too_short : (loaded (options 64) xs ys ws (zeros 11)).reply ≡ Err Tables
unfolding loaded checked options_ok system_in_bounds in_bounds first_outside converted_all converted normalized offset_of scale_of add sub mul
    div of_bits le lt options xs ys ws b zeros first_over
too_short = refl
