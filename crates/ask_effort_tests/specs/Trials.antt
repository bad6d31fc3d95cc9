-- The tests of queries over an index, those of both halves of a box that is split in one list, and what the first of them find.
-- Definitions only.
use Rattle.std.specs.Prelude.{Bool, ℕ, get_or, take, Float}
use mathlib.Core.List.{List, [], ◌∷◌, flat_map}
use Rattle.kdslots.specs.declared.Query.{Query}
use Rattle.kdslots.specs.Slots.{Search, over}
use Rattle.kdslots.specs.Keep.{put}
use Rattle.ask_effort_tests.specs.Tested.{tests}

-- a test: whether the slot passes, and the place that it names
pub data Mark : Type 0 where
  mark : Bool → ℕ → Mark

-- the tests of the slots of a list
unfoldable pub marks : Search → List ℕ → List ℕ → List Mark
marks s ids [] = []
marks s ids (t ∷ ts) = mark (s.test t) (get_or ids t 0) ∷ marks s ids ts

-- the places of those that pass
unfoldable pub hits : List Mark → List ℕ
hits [] = []
hits (mark b p ∷ ms) = put b p (hits ms)

-- the tests of queries over an index of n, in order, one query after the other
abbrev pub trials : List Query → ℕ → ℕ → List ℕ → List Float → List Mark
trials qs size n ids co = flat_map (λ q. marks (over q co) ids (tests q co size n)) qs

-- the places that the first a tests find
abbrev pub items : ℕ → List Mark → List ℕ
items a ms = hits (take a ms)
