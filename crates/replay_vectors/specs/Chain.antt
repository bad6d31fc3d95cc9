-- Laws of comparisons in a row, over plain values, for the programs that compare. Assumes nothing.
use Rattle.std.specs.Prelude.{Bool, true, false, not, ◌&&◌, ◌≡◌, refl, ℕ, eqb}
use Rattle.std.proofs.Common.{ap, sym, ◌∙◌, eq-eqb, ne_eqb}
use Rattle.std.proofs.lemmas.Bool.{not-true, not-false}

-- a comparison b, which is the definition's d: it fails, and the rest c is not looked at; or it holds, and the rest decides
pub row-no : (b d c : Bool) → b ≡ d → not b ≡ true → false ≡ (d && c)
row-no b d c e h = rw (sym e ∙ not-true b h) refl

pub row-yes : (b d r c : Bool) → b ≡ d → not b ≡ false → r ≡ c → r ≡ (d && c)
row-yes b d r c e h g = rw (sym e ∙ not-false b h) g

-- the same of two numbers that are compared
pub number-no : (a b : ℕ) (c : Bool) → (a ≡ b → ⊥) → false ≡ (eqb a b && c)
number-no a b c h = rw (ne_eqb a b h) refl

pub number-yes : (a b : ℕ) (r c : Bool) → a ≡ b → r ≡ c → r ≡ (eqb a b && c)
number-yes a b r c h g = rw (eq-eqb a b h) g

-- two comparisons, each of which is the definition's, are so together
infixl 35 ◌and◌
pub ◌and◌ : {a b c d : Bool} → a ≡ c → b ≡ d → (a && b) ≡ (c && d)
◌and◌ {b = b} {c = c} e f = ap (λ (x : Bool). x && b) e ∙ ap (λ (x : Bool). c && x) f
