-- The lines that the lister prints, as text: that of an entry, those of a table, those of every table, and that of a refusal. Definitions
-- only.
use Rattle.std.specs.Prelude.{cond, List, [], ◌∷◌, ◌++◌, ℕ, suc, ◌-◌, eqb, Float}
use Rattle.std.specs.Float.{binary64}
use Rattle.std.specs.Float.Ieee.{to_bits, is_nan}
use Rattle.build_tables.specs.declared.Entry.{Entry}
use Rattle.build_tables.specs.Entries.{Table, never, unset}
use Rattle.lister_text.specs.Bytes.{bytes}
use Rattle.lister_text.specs.Digits.{decimal_of}
use Rattle.lister_report.specs.Hex.{hex_of}

-- a number, or `-` where it is the one that stands for unset
abbrev pub or_dash : ℕ → ℕ → List ℕ
or_dash mark n = cond (eqb n mark) (bytes "-") (decimal_of 10 n)

-- a float's bits; of a NaN those of the Rust's f64::NAN
abbrev pub bits_of : Float → ℕ
bits_of x = cond (is_nan x) 0x7ff8_0000_0000_0000 (to_bits binary64 x)

-- zoom and place
abbrev pub place_text : ℕ → ℕ → List ℕ
place_text zoom place = ((decimal_of 10 zoom ++ bytes " ") ++ decimal_of 10 place) ++ bytes " "

-- 16 hexadecimal digits of the bits of x, and of y
abbrev pub centre_text : Float → Float → List ℕ
centre_text x y = ((hex_of 16 (bits_of x) ++ bytes " ") ++ hex_of 16 (bits_of y)) ++ bytes " "

-- seen and id
abbrev pub marks_text : ℕ → ℕ → List ℕ
marks_text seen id = ((or_dash never seen ++ bytes " ") ++ decimal_of 10 id) ++ bytes " "

-- parent, num, energy and the line's end
abbrev pub end_text : ℕ → ℕ → ℕ → List ℕ
end_text parent num energy =
    ((((or_dash unset parent ++ bytes " ") ++ decimal_of 10 num) ++ bytes " ") ++ decimal_of 20 energy) ++ bytes "\n"

-- the line of an entry
abbrev pub line_text : ℕ → ℕ → Entry → List ℕ
line_text zoom place e =
    ((place_text zoom place ++ centre_text e.x e.y) ++ marks_text e.seen e.id) ++ end_text e.parent e.num e.energy

-- how many bytes it takes at the most
abbrev pub line_room : ℕ
line_room = 136

-- the lines of a table's entries, the first of them at the place i
unfoldable pub table_text : ℕ → ℕ → Table → List ℕ
table_text zoom i [] = []
table_text zoom i (e ∷ t) = line_text zoom i e ++ table_text zoom (suc i) t

-- the lines of tables, the first of them that of the zoom z, and each other that of one zoom less
unfoldable pub tables_text : ℕ → List Table → List ℕ
tables_text z [] = []
tables_text z (t ∷ ts) = table_text z 0 t ++ tables_text (z - 1) ts

-- what the refusal n carries: of 3 the point i, of the others nothing
abbrev pub at_text : ℕ → ℕ → List ℕ
at_text n i = cond (eqb n 3) (bytes " at=" ++ decimal_of 20 i) []

-- the line of the refusal n
abbrev pub refusal_text : ℕ → ℕ → List ℕ
refusal_text n i = ((bytes "refusal=" ++ decimal_of 10 n) ++ at_text n i) ++ bytes "\n"
