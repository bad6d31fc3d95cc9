-- A column that is filled one item at a time: a store at the number of items so far is one more item, whether it fits or not. Assumes
-- nothing.
use Rattle.std.specs.Prelude.{◌≡◌, refl, List, [], ◌∷◌, ◌++◌, ℕ, suc, length, set}
use Rattle.std.proofs.Common.{ap, sym}
use Rattle.std.proofs.Math.Seq.{drop-nil}
use Rattle.kdbush.specs.Run.{filled}

pub filled_none : {A : Type 0} (out : List A) → filled [] out ≡ out
filled_none [] = refl
filled_none (a ∷ out) = refl

pub filled_next : (l : List ℕ) (p : ℕ) (out : List ℕ) → set (filled l out) (length l) p ≡ filled (l ++ (p ∷ [])) out
filled_next l p [] = simp drop-nil
filled_next [] p (a ∷ out) = ap (λ (o : List ℕ). p ∷ o) (sym (filled_none out))
filled_next (b ∷ l) p (a ∷ out) = ap (λ (o : List ℕ). b ∷ o) (filled_next l p out)

pub filled-length : (l out : List ℕ) → length (filled l out) ≡ length out
filled-length [] [] = refl
filled-length (b ∷ l) [] = refl
filled-length [] (a ∷ out) = refl
filled-length (b ∷ l) (a ∷ out) = ap suc (filled-length l out)
