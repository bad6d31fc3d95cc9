-- Laws of the comparison of two columns of floats, over plain values. Assumes nothing.
use Prim.Native.Nat.{ℕ, zero, suc}
use native.Mathlib.Omega.{arith}
use mathlib.Core.Bool.{Bool, true, false, ◌&&◌}
use mathlib.Core.List.{List, [], ◌∷◌}
use mathlib.Core.Path.{◌≡◌, refl, ap, ◌∙◌}
use borrow.Author.Tests.{eq-eqb, ne_eqb}
use lib.Dec.{eqb}
use lib.ListN.{length}
use lib.Ieee.{Float}
use Rattle.std.specs.List.{list_all, zip}
use Rattle.floats.specs.laws.Table.{upto}
use Rattle.replay_vectors.specs.Words.{agreeing}
use Rattle.replay_vectors.specs.Same.{float_at, same_floats}

swap : (a b c : Bool) → (a && (b && c)) ≡ (b && (a && c))
swap true b c = refl
swap false true c = refl
swap false false c = refl

-- the first position before the others
upto-front : (f : ℕ → Bool) (k : ℕ) → upto f (suc k) ≡ (f 0 && upto (λ i. f (suc i)) k)
upto-front f zero = refl
upto-front f (suc k) =
    ap (λ (b : Bool). f (suc k) && b) (upto-front f k) ∙ swap (f (suc k)) (f 0) (upto (λ i. f (suc i)) k)

-- the pairs of two columns of one length agree where the columns do at each position
pairs : (a b : List Float) → length a ≡ length b → list_all (λ p. agreeing p.0 p.1) (zip a b) ≡ upto (float_at a b) (length a)
pairs [] b e = refl
pairs (x ∷ a) [] e = let z : ⊥ = omega arith in absurd z
pairs (x ∷ a) (y ∷ b) e =
    let d : length a ≡ length b = omega arith in
    rw (upto-front (float_at (x ∷ a) (y ∷ b)) (length a)) (ap (λ (t : Bool). agreeing x y && t) (pairs a b d))

module _ (a b : List Float) where
  pub floats-pairs : (r : Bool) → length a ≡ length b → r ≡ list_all (λ p. agreeing p.0 p.1) (zip a b) → r ≡ same_floats a b
  unfolding same_floats
  floats-pairs r e h = rw (eq-eqb (length a) (length b) e) (h ∙ pairs a b e)

  pub floats-other : (length a ≡ length b → ⊥) → eqb (length a) (length b) ≡ same_floats a b
  unfolding same_floats
  floats-other h = rw (ne_eqb (length a) (length b) h) refl
