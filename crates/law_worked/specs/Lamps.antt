-- Each lamp's owner in each of the three tables of SCOPE's worked build, and the lamps of each entry, computed from the definitions.
-- Assumes nothing.
use Rattle.std.specs.Prelude.{◌≡◌, refl, [], ◌∷◌, map}
use Rattle.std.specs.Float.Ieee.{add, sub, mul, div, of_int, of_bits, le, lt, eq}
use Rattle.range.specs.Range.{offset_of, scale_of, normalized, converted}
use Rattle.kdsort.specs.Cols.{swap_co, swap_ids}
use Rattle.kdsort.specs.Shape.{shape, split}
use Rattle.kdsort.specs.Select.{up, down, passes, parted, sel, selected}
use Rattle.kdsort.specs.Sort.{filled_slots, sorted, indexed}
use Rattle.kdslots.specs.Slots.{scanned, slots}
use Rattle.kdbush.specs.Run.{places}
use Rattle.build_tables.specs.Radius.{radius_at}
use Rattle.build_one_zoom.specs.Zoom.{more_of, absorb_one, absorb, copy_one, copy_all, visit, scan_one, scan_from, cluster}
use Rattle.law_groups.specs.Groups.{weighed_sum}
use Rattle.kdbush.specs.Reply.{index_of}
use Rattle.build_all_zooms.specs.Zooms.{index_of_table, run_zooms}
use Rattle.supercluster.specs.Build.{converted_all, finest, tables_of}
use Rattle.law_builds.specs.Given.{Given, given_build}
use Rattle.law_builds.specs.Came.{comes, came, table_of_zoom}
use Rattle.law_builds.specs.GroupsOfBuild.{groups_by}
use Rattle.law_lamps.specs.Owner.{owner, owner_at, lamps_of, lamps_at, members_of}
use Rattle.law_worked.specs.Tables.{b, options, xs, ys, ws}

-- SCOPE's four lamps
abbrev pub worked_lamps : Given
worked_lamps = given_build (options 64) xs ys ws

-- the owners of the four lamps in table 2, table 1 and table 0
pub owners-are : map (λ z. map (owner worked_lamps z) (0 ∷ 1 ∷ 2 ∷ 3 ∷ [])) (2 ∷ 1 ∷ 0 ∷ []) ≡ (0 ∷ 1 ∷ 2 ∷ 3 ∷ []) ∷ (0 ∷ 0 ∷ 1 ∷ 1 ∷ []) ∷
    (0 ∷ 0 ∷ 0 ∷ 0 ∷ []) ∷ []
unfolding owner owner_at groups_by came comes weighed_sum converted_all finest index_of_table index_of radius_at cluster scan_from scan_one visit
    copy_all
    copy_one absorb absorb_one more_of converted normalized offset_of scale_of add sub mul div of_int of_bits le lt eq filled_slots sorted indexed
    selected sel parted passes up down swap_co swap_ids shape split scanned slots places options xs ys ws b
owners-are = refl

-- the lamps of the two entries of table 1, and of the one of table 0: the leaves of 5
pub lamps-are-1 : map (lamps_of worked_lamps 1) (0 ∷ 1 ∷ []) ≡ (0 ∷ 1 ∷ []) ∷ (2 ∷ 3 ∷ []) ∷ []
unfolding lamps_of lamps_at groups_by came comes weighed_sum converted_all finest index_of_table index_of radius_at cluster scan_from scan_one visit
    copy_all copy_one absorb absorb_one more_of converted normalized offset_of scale_of add sub mul div of_int of_bits le lt eq filled_slots sorted
    indexed selected sel parted passes up down swap_co swap_ids shape split scanned slots places options xs ys ws b
lamps-are-1 = refl

pub lamps-are-0 : lamps_of worked_lamps 0 0 ≡ 0 ∷ 1 ∷ 2 ∷ 3 ∷ []
unfolding lamps_of lamps_at groups_by came comes weighed_sum converted_all finest index_of_table index_of radius_at cluster scan_from scan_one visit
    copy_all copy_one absorb absorb_one more_of converted normalized offset_of scale_of add sub mul div of_int of_bits le lt eq filled_slots sorted
    indexed selected sel parted passes up down swap_co swap_ids shape split scanned slots places options xs ys ws b
lamps-are-0 = refl

-- cluster 5 was made of places 0 and 1 of table 1
pub members-are : members_of worked_lamps 5 ≡ 0 ∷ 1 ∷ []
unfolding table_of_zoom tables_of run_zooms converted_all finest index_of_table index_of radius_at cluster scan_from scan_one visit copy_all copy_one
    absorb
    absorb_one more_of converted normalized offset_of scale_of add sub mul div of_int of_bits le lt eq filled_slots sorted indexed selected sel
    parted passes up down swap_co swap_ids shape split scanned slots places options xs ys ws b
members-are = refl
