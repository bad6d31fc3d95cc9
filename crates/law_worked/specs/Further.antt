-- SCOPE's lines that are not marked P, computed from the definitions too: the largest max_zoom, options that are refused, a lone lamp at
-- (1, 0.5), which tile (0,0,0) lists twice and counts once, and lists once with the strips for longitude only (#114); the four lamps with
-- min_points 3, and both edge strips at z = 0. Assumes nothing.
use Rattle.std.specs.Prelude.{◌≡◌, refl, Bool, true, cond, [], ◌∷◌, map, ℕ, replicate, pos, Ok, Err}
use Rattle.std.proofs.Common.{ap}
use Rattle.std.specs.Float.Ieee.{neg, add, sub, mul, div, of_int, of_bits, le, lt, eq}
use Rattle.floats.specs.Numbers.{zero, half, one}
use Rattle.floats.specs.Away.{away}
use Rattle.range.specs.Range.{offset_of, scale_of, normalized, in_bounds, system_in_bounds, converted}
use Rattle.kdsort.specs.Cols.{swap_co, swap_ids}
use Rattle.kdsort.specs.Shape.{shape, split}
use Rattle.kdsort.specs.Select.{up, down, passes, parted, sel, selected}
use Rattle.kdsort.specs.Sort.{filled_slots, sorted, indexed}
use Rattle.kdslots.specs.Slots.{scanned, slots}
use Rattle.kdbush.specs.Run.{places}
use Rattle.kdbush.specs.Reply.{first_outside}
use Rattle.build_tables.specs.declared.Options.{Options}
use Rattle.build_tables.specs.Options.{options_ok}
use Rattle.build_tables.specs.Entries.{ids_of, nums_of}
use Rattle.build_tables.specs.Radius.{radius_at}
use Rattle.build_tables.specs.Rows.{rows}
use Rattle.build_tables.specs.Sound.{packed, state_ok}
use Rattle.build_one_zoom.specs.Zoom.{more_of, absorb_one, absorb, copy_one, copy_all, visit, scan_one, scan_from, cluster}
use Rattle.kdbush.specs.Reply.{index_of}
use Rattle.build_all_zooms.specs.Zooms.{index_of_table, run_zooms, joined, joined_ids, joined_co, starts, lens}
use Rattle.refusals.specs.declared.Refusal.TheVariants.{Tables, NoRoom}
use Rattle.refusals.specs.Refusals.{number}
use Rattle.supercluster.specs.Build.{converted_all, finest, tables_of, BuildColumns, written, first_over, checked, Outcome, loaded}
use Rattle.supercluster.specs.laws.Load.{roomy}
use Rattle.ask_tile_table.specs.Floor.{home_of}
use Rattle.ask_tile_table.specs.Tile.{here, wraps, east_strip, west_strip, visited, tile_listed, whole_tile, rounded}
use Rattle.ask_tile_table.specs.Tally.{member, distinct, total, tally_of}
use Rattle.ask_tile.specs.Tallied.{tallied}
use Rattle.ask_base.specs.Asked.{told}
use Rattle.ask_tile.specs.Asked.{TileAsked, tile_asked, tile_outcome, outcome_of, tiled}
use Rattle.law_worked.specs.Build.{state_told}
use Rattle.law_worked.specs.Tables.{b, options, xs, ys, ws, zeros}
use Rattle.law_answers.specs.Stored.{columns_of}

-- ---- max_zoom 30 is built; max_zoom 31 and node_size 0 are refused 1

-- SCOPE's options with another max_zoom and min_points
unfoldable pub with : ℕ → ℕ → Options
unfolding options
with z k =
    let o = options 64 in
    record {
      min_zoom = o.min_zoom;
      max_zoom = z;
      min_points = k;
      radius = o.radius;
      extent = o.extent;
      node_size = o.node_size;
      coordinate_system = o.coordinate_system;
      longitude_strips_only = o.longitude_strips_only;
    }

-- 32 tables of four lamps
pub zoom-30 : (l : BuildColumns) → roomy 128 l ≡ true → checked (with 30 2) xs ys ws l ≡ Ok tt
unfolding checked options_ok system_in_bounds in_bounds first_outside converted_all converted normalized offset_of scale_of add sub mul div
    of_bits le lt with options xs ys ws b first_over
zoom-30 l h = ap (λ (c : Bool). cond c (Ok tt) (Err Tables)) h

pub zoom-31 : (l : BuildColumns) → number (checked (with 31 2) xs ys ws l) ≡ 1
unfolding checked options_ok system_in_bounds in_bounds offset_of scale_of sub of_bits le lt with options b
zoom-31 l = refl

pub size-0 : (l : BuildColumns) → number (checked (options 0) xs ys ws l) ≡ 1
unfolding checked options_ok system_in_bounds in_bounds offset_of scale_of sub of_bits le lt options b
size-0 l = refl

-- ---- min_points 3: each of the three tables has the four lamps, none of them clustered

pub single : (map ids_of (tables_of (with 1 3) xs ys ws) ≡ replicate 3 (0 ∷ 1 ∷ 2 ∷ 3 ∷ []))
    × (map nums_of (tables_of (with 1 3) xs ys ws) ≡ replicate 3 (replicate 4 1))
unfolding tables_of run_zooms converted_all finest index_of_table index_of radius_at cluster scan_from scan_one visit copy_all copy_one absorb
    absorb_one
    more_of converted normalized offset_of scale_of filled_slots sorted indexed selected sel parted passes up down swap_co swap_ids add sub mul
    div
    of_int of_bits le lt eq shape split scanned slots places with options xs ys ws b
single = (refl, refl)

-- ---- a lone lamp at (1, 0.5)

abbrev pub lone : Outcome
lone = loaded (options 64) (one ∷ []) (half ∷ []) (9 ∷ []) (zeros 3)

-- at (512,256), and again at (0,256)
pub tile-of-lone : tile_asked (state_told lone.reply) (columns_of lone.columns) 0 0 0
    ≡ told true (record { place = 0; x = pos 512; y = pos 256 } ∷ record { place = 0; x = pos 0; y = pos 256 } ∷ [])
unfolding loaded checked first_over zeros written joined joined_ids joined_co starts lens tables_of run_zooms converted_all finest index_of_table
    index_of
    radius_at cluster scan_from scan_one visit copy_all copy_one absorb absorb_one more_of converted normalized offset_of scale_of filled_slots sorted
    indexed selected sel parted passes up down swap_co swap_ids first_outside tile_asked state_ok packed options_ok system_in_bounds in_bounds
    visited here wraps east_strip west_strip tile_listed whole_tile rounded away neg add sub mul div of_int of_bits le lt eq shape split scanned
    slots places
    rows options b
tile-of-lone = refl

-- the shortest column has room for one of the two
pub lone-no-room : tiled (state_told lone.reply) (columns_of lone.columns) 0 0 0 (9 ∷ 9 ∷ []) (pos 9 ∷ []) (pos 9 ∷ pos 9 ∷ [])
    ≡ tile_outcome (Err (NoRoom 2)) (0 ∷ 9 ∷ []) (pos 512 ∷ []) (pos 256 ∷ pos 9 ∷ [])
lone-no-room = ap (λ (a : TileAsked). outcome_of a (9 ∷ 9 ∷ []) (pos 9 ∷ []) (pos 9 ∷ pos 9 ∷ [])) tile-of-lone

-- listed twice, and counted once
pub tally-of-lone : tallied (state_told lone.reply) (columns_of lone.columns) 0 0 0 ≡ Ok 1
unfolding loaded checked first_over zeros written joined joined_ids joined_co starts lens tables_of run_zooms converted_all finest index_of_table
    index_of
    radius_at cluster scan_from scan_one visit copy_all copy_one absorb absorb_one more_of converted normalized offset_of scale_of filled_slots sorted
    indexed selected sel parted passes up down swap_co swap_ids first_outside tallied tally_of total distinct member home_of state_ok packed
    options_ok system_in_bounds in_bounds visited here wraps east_strip west_strip tile_listed whole_tile rounded away neg add sub mul div of_int
    of_bits le lt eq
    shape split scanned slots places rows options b
tally-of-lone = refl

-- ---- the same lamp on a site plan, with the strips for longitude only: at (512,256) alone (#114)

unfoldable pub on_plan : Options → Options
on_plan o =
    record {
      min_zoom = o.min_zoom;
      max_zoom = o.max_zoom;
      min_points = o.min_points;
      radius = o.radius;
      extent = o.extent;
      node_size = o.node_size;
      coordinate_system = o.coordinate_system;
      longitude_strips_only = true;
    }

abbrev pub worked_planned : Outcome
worked_planned = loaded (on_plan (options 64)) (one ∷ []) (half ∷ []) (9 ∷ []) (zeros 3)

pub tile-of-planned : tile_asked (state_told worked_planned.reply) (columns_of worked_planned.columns) 0 0 0
    ≡ told true (record { place = 0; x = pos 512; y = pos 256 } ∷ [])
unfolding on_plan loaded checked first_over zeros written joined joined_ids joined_co starts lens tables_of run_zooms converted_all finest
    index_of_table
    index_of radius_at cluster scan_from scan_one visit copy_all copy_one absorb absorb_one more_of converted normalized offset_of scale_of
    filled_slots
    sorted indexed selected sel parted passes up down swap_co swap_ids first_outside tile_asked state_ok packed options_ok system_in_bounds in_bounds
    visited here wraps east_strip west_strip tile_listed whole_tile rounded away neg add sub mul div of_int of_bits le lt eq shape split scanned
    slots places
    rows options b
tile-of-planned = refl

-- ---- lamps at (0, 0.5) and (1, 0.5): each is listed in the tile, and once more by the other strip

abbrev pub two_lamps : Outcome
two_lamps = loaded (options 64) (zero ∷ one ∷ []) (half ∷ half ∷ []) (9 ∷ 9 ∷ []) (zeros 6)

pub tile-of-two : tile_asked (state_told two_lamps.reply) (columns_of two_lamps.columns) 0 0 0
    ≡ told true
    (record { place = 0; x = pos 0; y = pos 256 }
    ∷ record { place = 1; x = pos 512; y = pos 256 }
    ∷ record { place = 1; x = pos 0; y = pos 256 }
    ∷ record { place = 0; x = pos 512; y = pos 256 }
    ∷ [])
unfolding loaded checked first_over zeros written joined joined_ids joined_co starts lens tables_of run_zooms converted_all finest index_of_table
    index_of
    radius_at cluster scan_from scan_one visit copy_all copy_one absorb absorb_one more_of converted normalized offset_of scale_of filled_slots sorted
    indexed selected sel parted passes up down swap_co swap_ids first_outside tile_asked state_ok packed options_ok system_in_bounds in_bounds
    visited here wraps east_strip west_strip tile_listed whole_tile rounded away neg add sub mul div of_int of_bits le lt eq shape split scanned
    slots places
    rows options b
tile-of-two = refl
