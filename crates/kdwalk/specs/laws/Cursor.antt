-- The first of an answer, of two answers joined; and up to where the slots after one are answered one by one. Assumes nothing.
use Rattle.std.specs.Prelude.{true, false, ◌≡◌, refl, List, [], ◌∷◌, ◌++◌, ℕ, ◌+◌, ltb, eqb, Option, Some, None}
use Rattle.kdsort.specs.Shape.{Shape, leaf, node}

-- the first of a list
abbrev pub head_of : List ℕ → Option ℕ
head_of [] = None
head_of (i ∷ l) = Some i

-- the first answer, and where there is none the other
abbrev pub or_else : Option ℕ → Option ℕ → Option ℕ
or_else (Some i) o = Some i
or_else None o = o

pub head-append : (a b : List ℕ) → head_of (a ++ b) ≡ or_else (head_of a) (head_of b)
head-append [] b = refl
head-append (i ∷ a) b = refl

-- up to where the slots after c are answered one by one: the end of the leaf that has it; a median has none after it
unfoldable pub leaf_end : Shape → ℕ → ℕ
leaf_end (leaf lo hi) c = hi
leaf_end (node m r l) c =
    elim (eqb c m) [
      | true ↦ c + 1
      | false ↦ elim (ltb m c) [
        | true ↦ leaf_end r c
        | false ↦ leaf_end l c
      ]
    ]
