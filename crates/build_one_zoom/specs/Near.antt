-- The neighbours of a place: what `within` answers around it, over the index of the table. Definitions only.
use Rattle.std.specs.Prelude.{List, ℕ, Float}
use Rattle.kdslots.specs.declared.Query.TheVariants.{Within}
use Rattle.kdbush.specs.Reply.{found}

-- the places around (x, y)
abbrev pub near_of : ℕ → ℕ → List ℕ → List Float → Float → Float → Float → List ℕ
near_of size n ids co r x y = found (Within x y r) size n ids co
