-- #111, boxes inside boxes: what `list_box` answers for the common part of two boxes, for one that is empty, for the same box twice, and
-- for three boxes cut in any order. The whole statement is `BoxesInsideBoxes`, the last of this file: of every Cartesian build that `load`
-- accepts, at every zoom. Proved shows that it holds. Definitions only.
use Rattle.std.specs.Prelude.{◌≡◌, ◌⊎◌, Bool, true, false, ◌||◌, List, [], ◌∷◌, ℕ, T, eqb, Float, Ok}
use Rattle.std.specs.Float.Ieee.{lt}
use Rattle.std.specs.Float.Ieee.Scale.{finite}
use Rattle.range.specs.declared.DataRange.{DataRange}
use Rattle.range.specs.declared.CoordinateSystem.TheVariants.{Cartesian}
use Rattle.range.specs.Range.{smaller_of, larger_of, normalized}
use Rattle.kdslots.specs.Keep.{keep}
use Rattle.build_tables.specs.declared.State.{State}
use Rattle.ask_base.specs.Asked.{Asked, told}
use Rattle.build_tables.specs.Room.{Columns}
use Rattle.ask_box.specs.Lists.{box_asked}
use Rattle.supercluster.specs.Build.{BuildColumns}
use Rattle.law_answers.specs.Stored.{columns_of}
use Rattle.law_answers.specs.laws.Stored.{loaded_of}
use Rattle.law_builds.specs.Given.{Given}

-- ---- a box, and the common part of two

-- a box as it is asked for, in the caller's coordinates: least x, least y, greatest x, greatest y
pub record Box : Type 0 where
  pub west : Float
  pub least : Float
  pub east : Float
  pub greatest : Float

-- the common part: the larger of their least numbers, and the smaller of their greatest; of 0 and -0 that of the first box
abbrev pub common : Box → Box → Box
common a b =
    record {
      west = larger_of a.west b.west;
      least = larger_of a.least b.least;
      east = smaller_of a.east b.east;
      greatest = smaller_of a.greatest b.greatest;
    }

-- ---- the conditions

-- a number of a corner that is spoken of: it is finite, and it normalises to a finite number
abbrev pub FairCorners : DataRange → Float → Type 0
FairCorners d v = T (finite v) × T (finite (normalized d v))

-- a box that is spoken of: all its four numbers are such. Nothing else is asked of a box: its least numbers may exceed its greatest
pub record Taken (d : DataRange) (a : Box) : Type 0 where
  pub west : FairCorners d a.west
  pub least : FairCorners d a.least
  pub east : FairCorners d a.east
  pub greatest : FairCorners d a.greatest

-- a box that is still empty after normalising: its greatest x is then below its least x, or its greatest y below its least y
abbrev pub Empty : DataRange → Box → Type 0
Empty d a = T (lt (normalized d a.east) (normalized d a.west)) ⊎ T (lt (normalized d a.greatest) (normalized d a.least))

-- ---- what is said of the answers

-- whether a list gives the place p
abbrev pub gives : List ℕ → ℕ → Bool
gives [] p = false
gives (x ∷ xs) p = eqb p x || gives xs p

-- of the answers to two boxes, and to their common part: all three are answered whole (`told true`, with the places), none is refused
pub record Shared (one other both : Asked) : Type 0 where
  -- the places that each box gives, in order
  pub first : List ℕ
  pub second : List ℕ
  pub one-gives : one ≡ told true first
  pub other-gives : other ≡ told true second
  -- the common part gives just those that both give, in the order in which the first gives them
  pub as_first : both ≡ told true (keep (gives second) first)
  -- and in the order in which the second gives them
  pub as-second : both ≡ told true (keep (gives first) second)

-- of a question `ask` that takes any box, with a range d. Equal answers are the same places in the same order
pub record Overlaps (d : DataRange) (ask : Box → Asked) : Type 0 where
  -- what both boxes give is just what their common part gives, in the order of either
  pub shared : (a b : Box) → Taken d a → Taken d b → Shared (ask a) (ask b) (ask (common a b))
  -- for a common part that is empty once normalised nothing is given, and nothing refused
  pub nothing : (a b : Box) → Taken d a → Taken d b → Empty d (common a b) → ask (common a b) ≡ told true []
  -- the same box twice adds nothing, and takes nothing away
  pub twice : (a : Box) → Taken d a → ask (common a a) ≡ ask a
  -- two boxes in either order
  pub turned : (a b : Box) → Taken d a → Taken d b → ask (common a b) ≡ ask (common b a)
  -- three boxes: the first two turned, the last two turned, and cut from the other end. These lead from one order of cutting to any other
  pub first-turned : (a b c : Box) → Taken d a → Taken d b → Taken d c → ask (common (common a b) c) ≡ ask (common (common b a) c)
  pub last-turned : (a b c : Box) → Taken d a → Taken d b → Taken d c → ask (common (common a b) c) ≡ ask (common (common a c) b)
  pub regrouped : (a b c : Box) → Taken d a → Taken d b → Taken d c → ask (common (common a b) c) ≡ ask (common a (common b c))

-- ---- of every build

-- the box at a zoom, asked of a state and its columns: the answer of `list_box` is `answer_of` of this, and its output column `column_of`
abbrev pub box_at : State → Columns → ℕ → Box → Asked
box_at s c zoom a = box_asked s c.ids c.coords zoom a.west a.least a.east a.greatest

-- of the state that `load` replies and the columns that it leaves, where it refuses nothing and the coordinates are Cartesian; at every
-- zoom, built or not
abbrev pub BoxesInsideBoxes : Type 0
BoxesInsideBoxes =
    (G : Given) (l : BuildColumns) (s : State) → (loaded_of G l).reply ≡ Ok s
    → (d : DataRange) → G.options.coordinate_system ≡ Cartesian d → (zoom : ℕ)
    → Overlaps d (box_at s (columns_of (loaded_of G l).columns) zoom)
