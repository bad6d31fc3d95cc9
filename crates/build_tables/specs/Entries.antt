-- An entry of a table, and a table as a value: the list of its entries. Definitions only.
use Rattle.std.specs.Prelude.{Bool, List, map, ℕ, get_or, ltb, Float}
use Rattle.std.specs.Float.{nan}
use Rattle.build_tables.specs.declared.Entry.{Entry}

abbrev pub Table : Type 0
Table = List Entry

-- seen and parent where they are unset
abbrev pub never : ℕ
never = 255

abbrev pub unset : ℕ
unset = 4294967295

-- what stands past a table's end
abbrev pub none : Entry
none = record { x = nan; y = nan; seen = 0; id = 0; parent = unset; num = 0; energy = 0 }

abbrev pub entry : Table → ℕ → Entry
entry t i = get_or t i none

-- not seen by zoom z or a smaller one
abbrev pub unseen : ℕ → Entry → Bool
unseen z e = ltb z e.seen

-- seen by zoom z; under the cluster p
abbrev pub marked : ℕ → Entry → Entry
marked z e = record { x = e.x; y = e.y; seen = z; id = e.id; parent = e.parent; num = e.num; energy = e.energy }

abbrev pub under : ℕ → Entry → Entry
under p e = record { x = e.x; y = e.y; seen = e.seen; id = e.id; parent = p; num = e.num; energy = e.energy }

-- the columns of a table
abbrev pub xs_of : Table → List Float
xs_of t = map (λ e. e.x) t

abbrev pub ys_of : Table → List Float
ys_of t = map (λ e. e.y) t

abbrev pub seen_of : Table → List ℕ
seen_of t = map (λ e. e.seen) t

abbrev pub ids_of : Table → List ℕ
ids_of t = map (λ e. e.id) t

abbrev pub parents_of : Table → List ℕ
parents_of t = map (λ e. e.parent) t

abbrev pub nums_of : Table → List ℕ
nums_of t = map (λ e. e.num) t

abbrev pub energies_of : Table → List ℕ
energies_of t = map (λ e. e.energy) t
