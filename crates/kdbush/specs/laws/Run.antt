-- A search place by place, as the code makes it: its count and the lent column come to the definitions of Run. Assumes nothing.
use Rattle.std.specs.Prelude.{Bool, true, false, ◌≡◌, refl, List, [], ◌∷◌, ◌++◌, ℕ, suc, ◌+◌, ltb, length, get_or, set, Option, Some, None}
use Rattle.std.proofs.Common.{sym, ap, ◌∙◌, arith, add-one, add-zero, zero-add}
use Rattle.std.proofs.lemmas.List.{length-map}
use Rattle.std.proofs.lemmas.List.Edits.{sets}
use Rattle.std.proofs.Math.Seq.{drop-nil}
use Rattle.kdbush.specs.Run.{places, sound, whole, filled}

-- a reply beside what the column holds
pub data Ran : Type 0 where
  ran : Option ℕ → List ℕ → Ran

-- the places p one after the other, `at` found before, an index of n: each goes to its position, if that is within the column. The first
-- that is n or more ends it.
unfoldable pub run : ℕ → ℕ → List ℕ → List ℕ → Ran
run n at [] out = ran (Some at) out
run n at (p ∷ ps) out =
    elim (ltb p n) [
      | true ↦ run n (at + 1) ps (set out at p)
      | false ↦ ran None out
    ]

-- what follows, where nothing was spoiled
abbrev pub next : Option ℕ → List ℕ → (ℕ → List ℕ → Ran) → Ran
next (Some k) out f = f k out
next None out f = ran None out

abbrev pub and_then : Ran → (ℕ → List ℕ → Ran) → Ran
and_then (ran r out) f = next r out f

pub run-append : (n at : ℕ) (ps qs out : List ℕ) → run n at (ps ++ qs) out ≡ and_then (run n at ps out) (λ k o. run n k qs o)
unfolding run
run-append n at [] qs out = refl
run-append n at (p ∷ ps) qs out = go (ltb p n) refl (run-append n (at + 1) ps qs (set out at p))
  where
    go : (b : Bool) → ltb p n ≡ b → run n (at + 1) (ps ++ qs) (set out at p) ≡ and_then (run n (at + 1) ps (set out at p))
        (λ k o. run n k qs o)
        → run n at ((p ∷ ps) ++ qs) out ≡ and_then (run n at (p ∷ ps) out) (λ k o. run n k qs o)
    go true e h = rw (e, run) h
    go false e h = rw (e, run)

-- there are as many places as slots
pub places-length : (ids is : List ℕ) → length (places ids is) ≡ length is
unfolding places
places-length ids is = length-map is (λ i. get_or ids i 0)

-- the reply: how many there are, or that one is spoiled
abbrev pub pick_reply : Bool → ℕ → Option ℕ
pick_reply true k = Some k
pick_reply false k = None

abbrev pub reply : ℕ → List ℕ → Option ℕ
reply n ps = pick_reply (whole n ps) (length ps)

run-sets : (n at : ℕ) (ps out : List ℕ) → run n at ps out ≡ ran (pick_reply (whole n ps) (at + length ps)) (sets out at (sound n ps))
unfolding run sound whole
run-sets n at [] out = rw add-zero
run-sets n at (p ∷ ps) out = go (ltb p n) refl (run-sets n (at + 1) ps (set out at p))
  where
    go : (b : Bool) → ltb p n ≡ b
        → run n (at + 1) ps (set out at p) ≡ ran (pick_reply (whole n ps) (at + 1 + length ps)) (sets (set out at p) (at + 1) (sound n ps))
        → run n at (p ∷ ps) out ≡ ran (pick_reply (whole n (p ∷ ps)) (at + suc (length ps))) (sets out at (sound n (p ∷ ps)))
    go true e h =
        let k : at + 1 + length ps ≡ at + suc (length ps) = omega arith in
        rw (e, run, whole, sound) (h ∙ ap (λ (j : ℕ). ran (pick_reply (whole n ps) j) (sets (set out at p) (at + 1) (sound n ps))) k
        ∙ ap (λ (j : ℕ). ran (pick_reply (whole n ps) (at + suc (length ps))) (sets (set out at p) j (sound n ps))) (add-one at))
    go false e h = rw (e, run, whole, sound)

sets-cons : (a : ℕ) (l : List ℕ) (i : ℕ) (vs : List ℕ) → sets (a ∷ l) (suc i) vs ≡ a ∷ sets l i vs
sets-cons a l i [] = refl
sets-cons a l i (v ∷ vs) = sets-cons a (set l i v) (suc i) vs

sets-nil : (i : ℕ) (vs : List ℕ) → sets [] i vs ≡ []
sets-nil i [] = refl
sets-nil i (v ∷ vs) = sets-nil (suc i) vs

sets-filled : (l vs : List ℕ) → sets l 0 vs ≡ filled vs l
sets-filled [] vs = sets-nil 0 vs ∙ sym (drop-nil (length vs))
sets-filled (a ∷ l) [] = refl
sets-filled (a ∷ l) (v ∷ vs) = sets-cons v l 0 vs ∙ ap (λ (r : List ℕ). v ∷ r) (sets-filled l vs)

pub run-filled : (n : ℕ) (ps out : List ℕ) → run n 0 ps out ≡ ran (reply n ps) (filled (sound n ps) out)
run-filled n ps out = run-sets n 0 ps out ∙ rw (zero-add, sets-filled)
