-- An answer walked one slot at a time: what is left of it after a slot. Definitions only.
use Rattle.std.specs.Prelude.{true, false, List, ◌++◌, ℕ, ◌+◌, ◌-◌, ltb, eqb, Float}
use Rattle.kdslots.specs.declared.Query.{Query}
use Rattle.kdsort.specs.Shape.{Shape, leaf, node, shape}
use Rattle.kdslots.specs.Slots.{Search, when, scanned, slots, over}

-- what a search of a shape answers after the slot c
unfoldable pub rest : Search → ℕ → Shape → ℕ → List ℕ
unfolding scanned slots
rest s ax (leaf lo hi) c = scanned s (c + 1) (hi - (c + 1))
rest s ax (node m r l) c =
    elim (eqb c m) [
      | true ↦ when (s.right ax m) (slots s (1 - ax) r) ++ when (s.left ax m) (slots s (1 - ax) l)
      | false ↦ elim (ltb m c) [
        | true ↦ rest s (1 - ax) r c ++ when (s.left ax m) (slots s (1 - ax) l)
        | false ↦ rest s (1 - ax) l c
      ]
    ]

-- what a query over an index answers after the slot c
abbrev pub rest_of : Query → List Float → ℕ → ℕ → ℕ → List ℕ
rest_of q cs size n c = rest (over q cs) 0 (shape (size + 1) 0 n) c
