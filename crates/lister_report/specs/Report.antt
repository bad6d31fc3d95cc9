-- What the table lister prints for a text, by SCOPE's 'The table lister' and the energies: the refusal 12, where the text is not of its
-- form; or the refusal of the build; or every line of every table, the finest table first. Definitions only.
use Rattle.std.specs.Prelude.{List, ◌≡◌, ℕ, ◌+◌, ◌*◌, length, replicate, Result, Ok, Err}
use Rattle.floats.specs.Numbers.{zero}
use Rattle.build_tables.specs.declared.Options.{Options}
use Rattle.build_tables.specs.Entries.{Table}
use Rattle.build_tables.specs.Rows.{cols}
use Rattle.build_all_zooms.specs.Zooms.{laid_over}
use Rattle.supercluster.specs.Build.{BuildColumns, build_columns, checked, tables_of, Outcome, loaded}
use Rattle.refusals.specs.declared.Refusal.{Refusal}
use Rattle.refusals.specs.declared.Refusal.TheVariants.{Text}
use Rattle.refusals.specs.Refusals.{number_of, carried_of}
use Rattle.lister_report.specs.declared.ListerColumns.{ListerColumns}
use Rattle.lister_text.specs.Values.{options_of}
use Rattle.lister_text.specs.Text.{Input, text, Valid, head_is, PointCols, points_of}
use Rattle.lister_report.specs.Lines.{line_room, tables_text, refusal_text}

-- the lister's columns: 1,152 entries, and 2,304 index coordinates
unfoldable pub lister_columns : BuildColumns
lister_columns =
    let real = replicate 1152 zero in
    let whole = replicate {A = ℕ} 1152 0 in
    build_columns (cols real real whole whole whole whole whole) whole (replicate 2304 zero) whole

-- what such columns hold
abbrev pub lister_held : ListerColumns → BuildColumns
lister_held c = build_columns (cols c.x c.y c.seen c.id c.parent c.num c.energy) c.ids c.coords c.near

-- the build of these points: its tables, its reply, and what it leaves
abbrev pub tables_by : Options → PointCols → List Table
tables_by o p = tables_of o p.xs p.ys p.energies

abbrev pub checked_by : Options → PointCols → BuildColumns → Result (Unit {0}) Refusal
checked_by o p l = checked o p.xs p.ys p.energies l

abbrev pub loaded_by : Options → PointCols → BuildColumns → Outcome
loaded_by o p l = loaded o p.xs p.ys p.energies l

-- what is printed for a build with this reply. Of a text that is never 15: an energy of seven digits is below 2^40
abbrev pub answer_text : Options → PointCols → Result (Unit {0}) Refusal → List ℕ
answer_text o p (Ok d) = tables_text (o.max_zoom + 1) (tables_by o p)
answer_text o p (Err e) = refusal_text (number_of e) (carried_of e)

-- how many bytes that is at the most
abbrev pub answer_room : ℕ
answer_room = 1152 * line_room

-- for the build of these points in the lister's columns
unfoldable pub build_text : Options → PointCols → List ℕ
build_text o p = answer_text o p (checked_by o p lister_columns)

-- what is printed for an input
unfoldable pub lines_of : Input → List ℕ
lines_of i = build_text (options_of (head_is i)) (points_of i)

-- and where there is no input
abbrev pub refused_line : List ℕ
refused_line = refusal_text (number_of Text) (carried_of Text)

-- what the lister is lent: the columns of the build, and room for the answer
pub record Lending : Type 0 where
  pub columns : BuildColumns
  pub out : List ℕ

abbrev pub lending : BuildColumns → List ℕ → Lending
lending l out = record { columns = l; out = out }

-- and leaves for an input: what the build leaves, and what is printed; past these the old contents
unfoldable pub left : Input → Lending → Lending
left i d = lending (loaded_by (options_of (head_is i)) (points_of i) d.columns).columns (laid_over (lines_of i) d.out)

-- the answer to the text s is how many bytes are printed: for the input that s is the writing of, or the refusal 12 where there is none
pub data Reports (s : List ℕ) (d : Lending) (answer : ℕ) (d' : Lending) : Type 0 where
  read : (i : Input) → Valid i → s ≡ text i → answer ≡ length (lines_of i) → d' ≡ left i d → Reports s d answer d'
  refused_report : ((i : Input) → Valid i → s ≡ text i → ⊥) → answer ≡ length refused_line
      → d' ≡ lending d.columns (laid_over refused_line d.out) → Reports s d answer d'
