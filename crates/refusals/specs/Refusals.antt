-- SCOPE's number of a refusal and of a reply, and what they carry. Definitions only.
use Rattle.std.specs.Prelude.{ℕ, Result, Ok, Err}
use Rattle.refusals.specs.declared.Refusal.{Refusal}
use Rattle.refusals.specs.declared.Refusal.TheVariants.{Options, Count, Point, Tables, NoTree, NoCluster, Tile, EmptyTile, Box, NoRoom, Spoiled, Text, Energy, Lamp}

-- SCOPE's number of a refusal
abbrev pub number_of : Refusal → ℕ
number_of Options = 1
number_of Count = 2
number_of (Point i) = 3
number_of Tables = 4
number_of NoTree = 5
number_of NoCluster = 6
number_of Tile = 7
number_of EmptyTile = 8
number_of Box = 9
number_of (NoRoom k) = 10
number_of Spoiled = 11
number_of Text = 12
number_of (Energy i) = 15
number_of Lamp = 16

-- what a refusal carries: the first such point, or the whole length of an answer that is longer than the column
abbrev pub carried_of : Refusal → ℕ
carried_of Options = 0
carried_of Count = 0
carried_of (Point i) = i
carried_of Tables = 0
carried_of NoTree = 0
carried_of NoCluster = 0
carried_of Tile = 0
carried_of EmptyTile = 0
carried_of Box = 0
carried_of (NoRoom k) = k
carried_of Spoiled = 0
carried_of Text = 0
carried_of (Energy i) = i
carried_of Lamp = 0

-- SCOPE's number of a reply: 0 where nothing is refused
abbrev pub number : {A : Type 0} → Result A Refusal → ℕ
number (Ok a) = 0
number (Err e) = number_of e

-- what a reply carries: how many there are, or what its refusal carries
abbrev pub carried : Result ℕ Refusal → ℕ
carried (Ok k) = k
carried (Err e) = carried_of e

-- what the refusal of a reply carries: 0 where nothing is refused
abbrev pub refusal_carried : {A : Type 0} → Result A Refusal → ℕ
refusal_carried (Ok a) = 0
refusal_carried (Err e) = carried_of e
