-- What a search leaves: the places that are sound, and the column, 'first items, then old contents'. Definitions only.
use Rattle.std.specs.Prelude.{Bool, true, false, List, [], ◌∷◌, ◌++◌, map, ℕ, ltb, length, get_or, take, drop}

-- the places of the slots of a list
unfoldable pub places : List ℕ → List ℕ → List ℕ
places ids is = map (λ i. get_or ids i 0) is

-- the places before the first that is n or more
unfoldable pub sound : ℕ → List ℕ → List ℕ
sound n [] = []
sound n (p ∷ ps) = elim (ltb p n) [ true ↦ p ∷ sound n ps | false ↦ [] ]

-- whether each is below n
unfoldable pub whole : ℕ → List ℕ → Bool
whole n [] = true
whole n (p ∷ ps) = elim (ltb p n) [ true ↦ whole n ps | false ↦ false ]

-- the first items, as many as fit, and then the old contents
abbrev pub filled : {A : Type 0} → List A → List A → List A
filled ps out = take (length out) ps ++ drop (length ps) out
