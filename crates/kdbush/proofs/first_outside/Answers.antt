-- `kdbush::first_outside` meets its contract: the first pair of coordinates that is not within [0,1] is the first point outside.
-- Assumes nothing.
use Rattle.std.proofs.Common.{◌≡◌, ◌∙◌, refl, ℕ, suc, List, [], ◌∷◌, Bool, true, false, not, ◌&&◌, Float, rules, tests}
use Rattle.std.proofs.lemmas.Iterator.{YieldsList-from_slice, YieldsList-from_zip}
use Rattle.std.proofs.lemmas.Iterator.Search.{position_from_yields_List}
use Rattle.std.proofs.lemmas.Iterator.Adapters.{position_from-zero}
use Rattle.std.proofs.Common.{add-one}
use Rattle.std.specs.List.{position_from, zip}
use Rattle.floats.specs.Unit.{in01}
use Rattle.kdbush.specs.Reply.{first_outside}
use Rattle.kdbush.proofs.first_outside.Goals as goal

-- a point that is outside
abbrev outside : Float × Float → Bool
outside p = not (in01 p.0 && in01 p.1)

first-outside : (xs ys : List Float) (i : ℕ) → position_from outside i (zip xs ys) ≡ first_outside xs ys i
unfolding first_outside
first-outside [] ys i = refl
first-outside (x ∷ xs) [] i = refl
first-outside (x ∷ xs) (y ∷ ys) i = go (in01 x && in01 y) refl (first-outside xs ys (suc i))
  where
    go : (b : Bool) → (in01 x && in01 y) ≡ b → position_from outside (suc i) (zip xs ys) ≡ first_outside xs ys (suc i)
        → position_from outside i (zip (x ∷ xs) (y ∷ ys)) ≡ first_outside (x ∷ xs) (y ∷ ys) i
    go true e h = rw (e, first_outside, add-one i) h
    go false e h = rw (e, first_outside)

pub returns : goal.returns
returns c =
    let a = c.args in
    position_from_yields_List outside c.position.new.self _ c.position.result c.position.ensures.ran
    (YieldsList-from_zip {s = c.zip.result} (YieldsList-from_slice a.xs.now cc) (YieldsList-from_slice a.ys.now cc)) (λ x b q k. search (rules, tests))
    ∙ position_from-zero outside (zip a.xs.now a.ys.now) ∙ first-outside a.xs.now a.ys.now 0
