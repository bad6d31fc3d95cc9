-- The replies of the public functions and what they leave in the lent columns, for every input: SCOPE's refusals in its order, and
-- otherwise the answer. Definitions only.
use Rattle.std.specs.Prelude.{Bool, true, false, cond, ◌&&◌, List, [], ◌∷◌, ℕ, suc, ◌*◌, leb, eqb, length, Float}
use Rattle.std.specs.Prelude.{Option, Some, None, Result, Ok, Err}
use Rattle.floats.specs.Unit.{in01}
use Rattle.kdsort.specs.Cols.{IndexCols, blank}
use Rattle.kdsort.specs.Sort.{indexed}
use Rattle.kdslots.specs.declared.Query.{Query}
use Rattle.refusals.specs.declared.Refusal.{Refusal}
use Rattle.refusals.specs.declared.Refusal.TheVariants.{Options, Count, Point, Tables, Box, NoRoom, Spoiled}
use Rattle.kdslots.specs.Query.{query_ok}
use Rattle.kdslots.specs.Slots.{answers}
use Rattle.kdslots.specs.Bounds.{node_size_ok, count_ok, coords_ok}
use Rattle.kdbush.specs.Run.{places, sound, whole, filled}

-- ---- the build

-- the first point from i on with a coordinate outside [0,1] or no number
unfoldable pub first_outside : List Float → List Float → ℕ → Option ℕ
first_outside [] ys i = None
first_outside (x ∷ xs) [] i = None
first_outside (x ∷ xs) (y ∷ ys) i = elim (in01 x && in01 y) [ true ↦ first_outside xs ys (suc i) | false ↦ Some i ]

abbrev pub index_pointed : Option ℕ → Result (Unit {0}) Refusal → Result (Unit {0}) Refusal
index_pointed (Some i) r = Err (Point i)
index_pointed None r = r

-- refusals 1, 2, 3, 4, in this order: whether the options, the count, every point and the lent columns are as SCOPE asks
abbrev pub in_order : Bool → Bool → Option ℕ → Bool → Result (Unit {0}) Refusal
in_order options count points room =
    cond options (cond count (index_pointed points (cond room (Ok tt) (Err Tables))) (Err Count)) (Err Options)

-- xs and ys are as long as each other, and not too long
abbrev pub pair_ok : List Float → List Float → Bool
pair_ok xs ys = count_ok (length xs) && eqb (length ys) (length xs)

unfoldable pub index_checked : ℕ → List Float → List Float → IndexCols → Result (Unit {0}) Refusal
index_checked size xs ys s =
    in_order (node_size_ok size) (pair_ok xs ys) (first_outside xs ys 0)
    (leb (length xs) (length s.ids) && leb (2 * length xs) (length s.co))

-- the columns after a reply: the index, or as they were
abbrev pub built_by : Result (Unit {0}) Refusal → ℕ → List Float → List Float → IndexCols → IndexCols
built_by (Ok tt) size xs ys s = indexed size xs ys s
built_by (Err e) size xs ys s = s

abbrev pub built : ℕ → List Float → List Float → IndexCols → IndexCols
built size xs ys s = built_by (index_checked size xs ys s) size xs ys s

-- the index of points, in columns that just hold it
unfoldable pub index_of : ℕ → List Float → List Float → IndexCols
index_of size xs ys = indexed size xs ys (blank (length xs))

-- ---- the searches, over any lent columns

-- the places that a query answers
abbrev pub found : Query → ℕ → ℕ → List ℕ → List Float → List ℕ
found q size n ids co = places ids (answers q co size n)

-- an answer of k places in a column of length room; ok says whether each place is below n
abbrev pub told_search : Bool → ℕ → ℕ → Result ℕ Refusal
told_search ok k room = cond ok (cond (leb k room) (Ok k) (Err (NoRoom k))) (Err Spoiled)

-- an index of n slots that may be searched
abbrev pub index_ok : ℕ → ℕ → List ℕ → List Float → Bool
index_ok size n ids co = coords_ok size n (length co) && leb n (length ids)

-- by any numbers: refusals 11 and 10
unfoldable pub listed : Query → ℕ → ℕ → List ℕ → List Float → ℕ → Result ℕ Refusal
listed q size n ids co room =
    cond (index_ok size n ids co) (told_search (whole n (found q size n ids co)) (length (found q size n ids co)) room) (Err Spoiled)

-- the column: the places before the first that is past the table, as many as fit, and then the old contents; as it was, where the index
-- is refused
unfoldable pub listed_column : Query → ℕ → ℕ → List ℕ → List Float → List ℕ → List ℕ
listed_column q size n ids co out = cond (index_ok size n ids co) (filled (sound n (found q size n ids co)) out) out

-- by numbers that are looked at: refusals 11, 9, 11, 10, in this order
unfoldable pub searched : Query → ℕ → ℕ → List ℕ → List Float → ℕ → Result ℕ Refusal
searched q size n ids co room = cond (index_ok size n ids co) (cond (query_ok q) (listed q size n ids co room) (Err Box)) (Err Spoiled)

-- the column: as it was, where the query is refused
unfoldable pub column_after : Query → ℕ → ℕ → List ℕ → List Float → List ℕ → List ℕ
column_after q size n ids co out = cond (query_ok q) (listed_column q size n ids co out) out
