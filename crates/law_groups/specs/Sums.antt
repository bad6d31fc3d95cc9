-- Sums over a list of places, how often a place is in it, and the places from one on. Definitions only.
use Rattle.std.specs.Prelude.{List, [], ◌∷◌, Bool, true, false, ℕ, zero, suc, ◌+◌, eqb}

-- n where a test is true
abbrev pub gate : Bool → ℕ → ℕ
gate true n = n
gate false n = 0

-- 1 where a test is true
abbrev pub one_if : Bool → ℕ
one_if b = gate b 1

-- f of each, added up
abbrev pub sum : (ℕ → ℕ) → List ℕ → ℕ
sum f [] = 0
sum f (x ∷ xs) = f x + sum f xs

-- how often k is in the list
abbrev pub count : ℕ → List ℕ → ℕ
count k xs = sum (λ x. one_if (eqb k x)) xs

-- n places from lo on
abbrev pub range : ℕ → ℕ → List ℕ
range lo zero = []
range lo (suc n) = lo ∷ range (suc lo) n
