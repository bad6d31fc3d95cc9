-- SCOPE's example of the table lister, computed: the text that it gives is the writing of the example, and what is printed for it is its
-- seven lines. The tables are those of Tables. Assumes nothing.
use Rattle.std.specs.Prelude.{List, [], ◌∷◌, ◌++◌, ◌≡◌, refl, ℕ, Ok}
use Rattle.std.proofs.Common.{ap, ◌∙◌}
use Rattle.std.specs.Float.Ieee.{div, of_int, of_bits, to_bits, is_nan}
use Rattle.supercluster.specs.Build.{BuildColumns, checked, loaded}
use Rattle.refusals.specs.declared.Refusal.TheVariants.{Text}
use Rattle.refusals.specs.Refusals.{number_of}
use Rattle.lister_text.specs.Bytes.{bytes}
use Rattle.lister_text.specs.Digits.{decimal_of}
use Rattle.lister_text.specs.declared.LampText.{LampText}
use Rattle.lister_text.specs.Text.{Input, line, points_text, text, head_is, given_xs, given_ys, given_energies, point_cols}
use Rattle.lister_text.specs.Values.{options_of}
use Rattle.lister_report.specs.Hex.{hex_of}
use Rattle.lister_report.specs.Lines.{table_text, tables_text, refusal_text}
use Rattle.lister_report.specs.Report.{lister_columns, answer_text, build_text, lines_of}
use Rattle.law_worked.specs.Tables.{b, at, options, xs, ys, ws, shown, tables-are}
use Rattle.law_worked.specs.Build.{worked_built, accepted}

abbrev place : ℕ → ℕ → ℕ → LampText
place x y w = record { x = x; y = y; wh = w }

-- SCOPE's input
unfoldable pub example : Input
example =
    record {
      min_zoom = 0;
      max_zoom = 1;
      min_points = 2;
      radius = 64;
      extent = 512;
      node_size = 64;
      points = place 16384 32768 10 ∷ place 20480 32768 20 ∷ place 26624 32768 30 ∷ place 26624 32768 40 ∷ [];
    }

-- its text, one key=value a line
unfoldable pub example_text : List ℕ
example_text =
    bytes "min_zoom=0\n"
    ++ bytes "max_zoom=1\n"
    ++ bytes "min_points=2\n"
    ++ bytes "radius=64\n"
    ++ bytes "extent=512\n"
    ++ bytes "node_size=64\n"
    ++ bytes "count=4\n"
    ++ bytes "x=16384\ny=32768\nwh=10\n"
    ++ bytes "x=20480\ny=32768\nwh=20\n"
    ++ bytes "x=26624\ny=32768\nwh=30\n"
    ++ bytes "x=26624\ny=32768\nwh=40\n"

-- and the seven lines that SCOPE prints for it
unfoldable pub seven_lines : List ℕ
seven_lines =
    bytes "2 0 3fd0000000000000 3fe0000000000000 1 0 6 1 10\n"
    ++ bytes "2 1 3fd4000000000000 3fe0000000000000 1 1 6 1 20\n"
    ++ bytes "2 2 3fda000000000000 3fe0000000000000 1 2 70 1 30\n"
    ++ bytes "2 3 3fda000000000000 3fe0000000000000 1 3 70 1 40\n"
    ++ bytes "1 0 3fd2000000000000 3fe0000000000000 0 6 5 2 30\n"
    ++ bytes "1 1 3fda000000000000 3fe0000000000000 0 70 5 2 70\n"
    ++ bytes "0 0 3fd6000000000000 3fe0000000000000 - 5 - 4 100\n"

pub text-is : text example ≡ example_text
unfolding example example_text line points_text decimal_of
text-is = refl

-- ---- what is printed, step by step

options-are : options_of (head_is example) ≡ options 64
unfolding example options b of_int of_bits
options-are = refl

xs-are : given_xs example ≡ xs
unfolding example xs b of_int of_bits div
xs-are = refl

ys-are : given_ys example ≡ ys
unfolding example ys b of_int of_bits div
ys-are = refl

ws-are : given_energies example ≡ ws
unfolding example ws
ws-are = refl

reply-is : checked (options 64) xs ys ws lister_columns ≡ Ok tt
unfolding lister_columns
reply-is = accepted lister_columns refl

-- so the build that the lister makes of it, in any columns, is the worked build
pub example-built : (l : BuildColumns) → loaded (options_of (head_is example)) (given_xs example) (given_ys example) (given_energies example) l
    ≡ worked_built l
example-built l i = loaded (options-are i) (xs-are i) (ys-are i) (ws-are i) l

shown-text : tables_text 2 shown ≡ seven_lines
unfolding tables_text table_text shown seven_lines b at of_bits to_bits is_nan decimal_of hex_of
shown-text = refl

pub lines_are : lines_of example ≡ seven_lines
unfolding lines_of build_text options
lines_are =
    (λ i. build_text (options-are i) (point_cols (xs-are i) (ys-are i) (ws-are i)))
    ∙ ap (answer_text (options 64) (point_cols xs ys ws)) reply-is
    ∙ ap (tables_text 2) tables-are
    ∙ shown-text

-- ---- the lines of refusals

pub no_text : refusal_text (number_of Text) 0 ≡ bytes "refusal=12\n"
unfolding decimal_of
no_text = refl

pub no-point : refusal_text 3 1151 ≡ bytes "refusal=3 at=1151\n"
unfolding decimal_of
no-point = refl

pub no_room : refusal_text 4 0 ≡ bytes "refusal=4\n"
unfolding decimal_of
no_room = refl
