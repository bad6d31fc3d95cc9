-- The tests of two lists of slots are those of the first and then those of the second, and so is what they find: the places of the slots
-- that pass. Assumes nothing.
use Rattle.std.specs.Prelude.{Bool, true, false, ◌≡◌, refl, List, [], ◌∷◌, ◌++◌, ℕ, suc, length, get_or}
use Rattle.std.proofs.Common.{ap}
use Rattle.kdslots.specs.Slots.{Search}
use Rattle.kdslots.specs.Keep.{put, keep}
use Rattle.kdbush.specs.Run.{places}
use Rattle.ask_effort_tests.specs.Trials.{Mark, mark, marks, hits}

pub marks-append : (s : Search) (ids a b : List ℕ) → marks s ids (a ++ b) ≡ marks s ids a ++ marks s ids b
unfolding marks
marks-append s ids [] b = refl
marks-append s ids (t ∷ ts) b = ap (λ (l : List Mark). mark (s.test t) (get_or ids t 0) ∷ l) (marks-append s ids ts b)

pub marks-length : (s : Search) (ids ts : List ℕ) → length (marks s ids ts) ≡ length ts
unfolding marks
marks-length s ids [] = refl
marks-length s ids (t ∷ ts) = ap suc (marks-length s ids ts)

hit-append : (b : Bool) (p : ℕ) (l r w : List ℕ) → w ≡ l ++ r → put b p w ≡ put b p l ++ r
hit-append true p l r w e = ap (λ (z : List ℕ). p ∷ z) e
hit-append false p l r w e = e

pub hits-append : (a b : List Mark) → hits (a ++ b) ≡ hits a ++ hits b
unfolding hits
hits-append [] b = refl
hits-append (mark v p ∷ ms) b = hit-append v p (hits ms) (hits b) (hits (ms ++ b)) (hits-append ms b)

-- the places that the tests of a list find are those of its slots that pass
pub hits-marks : (s : Search) (ids ts : List ℕ) → hits (marks s ids ts) ≡ places ids (keep s.test ts)
unfolding hits marks places
hits-marks s ids [] = refl
hits-marks s ids (t ∷ ts) = go (s.test t) (hits (marks s ids ts)) (keep s.test ts) (hits-marks s ids ts)
  where
    go : (b : Bool) (h l : List ℕ) → h ≡ places ids l → put b (get_or ids t 0) h ≡ places ids (put b t l)
    go true h l e = ap (λ (z : List ℕ). get_or ids t 0 ∷ z) e
    go false h l e = e
