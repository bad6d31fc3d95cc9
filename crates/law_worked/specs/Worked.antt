-- SCOPE's lines marked P as one proved table, in SCOPE's order and words, before them the lines that the table lister prints. What is asked
-- of the worked build is asked of the state and the columns that `load` replies and leaves of SCOPE's four lamps, in any columns that are
-- long enough. Assumes nothing.
use Rattle.std.specs.Prelude.{◌≡◌, refl, true, [], ◌∷◌, pos, negsuc, Ok}
use Rattle.std.proofs.Common.{sym, subst}
use Rattle.std.specs.Float.Ieee.{neg}
use Rattle.floats.specs.Numbers.{half}
use Rattle.floats.specs.Away.{away}
use Rattle.floats.specs.laws.Away.{half-away, minus-half-away}
use Rattle.build_tables.specs.declared.State.{State}
use Rattle.build_tables.specs.Ids.{origin_of, table_of}
use Rattle.ask_base.specs.Asked.{told}
use Rattle.build_tables.specs.Room.{Columns}
use Rattle.ask_cluster.specs.Children.{children_of}
use Rattle.ask_cluster.specs.Expansion.{zoom_of}
use Rattle.ask_cluster.specs.Leaves.{leaves_of}
use Rattle.ask_tile.specs.Asked.{tile_asked}
use Rattle.supercluster.specs.Build.{tables_of, BuildColumns, Outcome, loaded}
use Rattle.supercluster.specs.laws.Load.{roomy}
use Rattle.lister_text.specs.Text.{text, head_is, given_xs, given_ys, given_energies}
use Rattle.lister_text.specs.Values.{options_of}
use Rattle.lister_report.specs.Report.{lister_columns as zeros, lines_of}
use Rattle.law_answers.specs.Stored.{columns_of}
use Rattle.law_worked.specs.Build.{worked_built, state_in, columns_in, state, worked_held, built-is, state_told}
use Rattle.law_worked.specs.Walks.{Refused, children-5, leaves-10-0, leaves-3-1, leaves-0-0, leaves-0-1, zoom-5, zoom-6, refused-3}
use Rattle.law_worked.specs.Walks.{refused-4, refused-7, refused-134}
use Rattle.build_owners.specs.OwnerColumn.{owner_column}
use Rattle.law_worked.specs.Tables.{options, xs, ys, ws}
use Rattle.law_worked.specs.Kept.{worked-owners}
use Rattle.law_worked.specs.Tiles.{tile-000}
use Rattle.law_worked.specs.Printed.{example, example-built, example_text, seven_lines, text-is, lines_are}

-- the table, of a state s and the columns c
pub record Worked (s : State) (c : Columns) : Type 0 where
  -- the lister's text of the four points with their energies, and the seven lines that it prints
  pub written : text example ≡ example_text
  pub printed : lines_of example ≡ seven_lines
  -- cluster 70 was made at place 2 of table 2, cluster 5 at place 0 of table 1
  pub id-70 : (origin_of s.count 70 ≡ 2) × (table_of s.count 70 ≡ 2)
  pub id-5 : (origin_of s.count 5 ≡ 0) × (table_of s.count 5 ≡ 1)
  -- cluster 5 has children at places 0 and 1
  pub children-of-5 : children_of s c 5 ≡ told true (0 ∷ 1 ∷ [])
  -- its leaves: all four, and three behind the first
  pub leaves-limit-10 : leaves_of s c 5 10 0 ≡ told true (0 ∷ 1 ∷ 2 ∷ 3 ∷ [])
  pub leaves-limit-3 : leaves_of s c 5 3 1 ≡ told true (1 ∷ 2 ∷ 3 ∷ [])
  -- with limit 0 none, at either offset
  pub leaves-limit-0 : leaves_of s c 5 0 0 ≡ told true []
  pub leaves-limit-0-later : leaves_of s c 5 0 1 ≡ told true []
  -- at which zoom 5 and 6 come apart
  pub expansion-of-5 : zoom_of s c 5 ≡ Ok 1
  pub expansion-of-6 : zoom_of s c 6 ≡ Ok 2
  -- all three questions are refused, of 3, 4 and 134 by 6, of 7 by 5
  pub id-3 : Refused s c 3 6
  pub id-4 : Refused s c 4 6
  pub id-7 : Refused s c 7 5
  pub id-134 : Refused s c 134 6
  -- tile (0,0,0) has one item: the entry at place 0, at (176,256)
  pub tile : tile_asked s c 0 0 0 ≡ told true (record { place = 0; x = pos 176; y = pos 256 } ∷ [])
  -- the owner column: the lamps themselves in table 2, two places in table 1, one in table 0
  pub owners-kept : owner_column 4 (tables_of (options 64) xs ys ws) ≡ 0 ∷ 1 ∷ 2 ∷ 3 ∷ 0 ∷ 0 ∷ 1 ∷ 1 ∷ 0 ∷ 0 ∷ 0 ∷ 0 ∷ []
  -- a half is rounded away from zero
  pub half_up : away half ≡ pos 1
  pub half_down : away (neg half) ≡ negsuc 0

-- over the state and the columns that Build shows
table : (l : BuildColumns) → Worked state (worked_held l)
unfolding neg state
table l =
    record {
      written = text-is;
      printed = lines_are;
      id-70 = (refl, refl);
      id-5 = (refl, refl);
      children-of-5 = children-5 l;
      leaves-limit-10 = leaves-10-0 l;
      leaves-limit-3 = leaves-3-1 l;
      leaves-limit-0 = leaves-0-0 l;
      leaves-limit-0-later = leaves-0-1 l;
      expansion-of-5 = zoom-5 l;
      expansion-of-6 = zoom-6 l;
      id-3 = refused-3 l;
      id-4 = refused-4 l;
      id-7 = refused-7 l;
      id-134 = refused-134 l;
      tile = tile-000 l;
      owners-kept = worked-owners;
      half_up = half-away;
      half_down = minus-half-away;
    }

-- and those are what `load` replies and leaves
pub worked : (l : BuildColumns) → roomy 12 l ≡ true → ((worked_built l).reply ≡ Ok (state_in l)) × Worked (state_in l) (columns_in l)
worked l h = subst (λ (o : Outcome). (o.reply ≡ Ok (state_told o.reply)) × Worked (state_told o.reply) (columns_of o.columns)) (sym (built-is l h))
    (refl, table l)

-- so of the lister's example, in the lister's columns of 1,152 zeros
abbrev pub worked_listed : Outcome
worked_listed = loaded (options_of (head_is example)) (given_xs example) (given_ys example) (given_energies example) zeros

pub worked-in-lister : Worked (state_told worked_listed.reply) (columns_of worked_listed.columns)
unfolding zeros
worked-in-lister = subst (λ (o : Outcome). Worked (state_told o.reply) (columns_of o.columns)) (sym (example-built zeros))
    (worked zeros refl).1
