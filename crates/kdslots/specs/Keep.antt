-- The places of a list that pass a test, in the list's order. Definitions only.
use Rattle.std.specs.Prelude.{Bool, true, false, List, [], ◌∷◌, ℕ}

-- x in front where a test is true
abbrev pub put : Bool → ℕ → List ℕ → List ℕ
put true x r = x ∷ r
put false x r = r

-- those of the list that pass p
abbrev pub keep : (ℕ → Bool) → List ℕ → List ℕ
keep p [] = []
keep p (x ∷ xs) = put (p x) x (keep p xs)
