-- The slots that the definition of a search tests, in the order in which it tests them. Definitions only.
use Rattle.std.specs.Prelude.{true, List, ℕ, ◌+◌, Float}
use Rattle.kdsort.specs.Shape.{shape}
use Rattle.kdslots.specs.declared.Query.{Query}
use Rattle.kdslots.specs.Slots.{Search, slots, over}

-- a search that goes where s goes, and answers every slot that it comes to: those are the slots that s tests
abbrev pub testing : Search → Search
testing s = record { test = λ i. true; right = s.right; left = s.left }

-- the slots of an index of n that a query tests, for a node size: each slot of an unsplit interval; of a split one the median, then those
-- of the right part and then those of the left, where they are gone into
abbrev pub tests : Query → List Float → ℕ → ℕ → List ℕ
tests q cs size n = slots (testing (over q cs)) 0 (shape (size + 1) 0 n)
