-- Of the places that a tally is over: a place of the list is among them, and none twice. Assumes nothing.
use Rattle.std.specs.Prelude.{◌≡◌, refl, Bool, true, false, not, ◌&&◌, List, [], ◌∷◌, ℕ, eqb}
use Rattle.std.proofs.Common.{sym, ap, ◌∙◌, arith, eqb-true}
use Rattle.std.proofs.lemmas.Bool.{eqb-false}
use Rattle.kdslots.specs.laws.Members.{NotIn, Distinct}
use Rattle.ask_tile_table.specs.Tally.{member, distinct}

member-here : (p : ℕ) (l : List ℕ) → member p (p ∷ l) ≡ true
unfolding member
member-here p l = go (eqb p p) refl
  where
    go : (b : Bool) → eqb p p ≡ b → member p (p ∷ l) ≡ true
    go true e = rw (e, member)
    go false e = absurd (eqb-false p p e refl)

member-later : (p q : ℕ) (l : List ℕ) → member p l ≡ true → member p (q ∷ l) ≡ true
unfolding member
member-later p q l h = go (eqb p q) refl
  where
    go : (b : Bool) → eqb p q ≡ b → member p (q ∷ l) ≡ true
    go true e = rw (e, member)
    go false e = rw (e, member) h

-- what was seen is not in it
distinct_without : (k : ℕ) (seen ps : List ℕ) → member k seen ≡ true → NotIn k (distinct seen ps)
unfolding distinct
distinct_without k seen [] h = tt
distinct_without k seen (p ∷ ps) h =
    go (member p seen) refl (distinct_without k seen ps h) (distinct_without k (p ∷ seen) ps (member-later k p seen h))
  where
    go : (b : Bool) → member p seen ≡ b → NotIn k (distinct seen ps) → NotIn k (distinct (p ∷ seen) ps) → NotIn k (distinct seen (p ∷ ps))
    go true e f g = rw (e, distinct) f
    go false e f g =
        let n : k ≡ p → ⊥ = λ q. let z : true ≡ false = sym h ∙ ap (λ (j : ℕ). member j seen) q
        ∙ e in (let y : ◌≡◌ {A = ℕ} 0 1 = cc in omega arith) in
        rw (e, distinct) (n, g)

-- no place is in it twice
pub distinct-once : (seen ps : List ℕ) → Distinct (distinct seen ps)
unfolding distinct
distinct-once seen [] = tt
distinct-once seen (p ∷ ps) = go (member p seen) refl (distinct-once seen ps) (distinct-once (p ∷ seen) ps)
  where
    go : (b : Bool) → member p seen ≡ b → Distinct (distinct seen ps) → Distinct (distinct (p ∷ seen) ps)
        → Distinct (distinct seen (p ∷ ps))
    go true e f g = rw (e, distinct) f
    go false e f g = rw (e, distinct) (distinct_without p (p ∷ seen) ps (member-here p seen), g)

-- a place is in it where it is in the list and was not seen
pub distinct-member : (k : ℕ) (seen ps : List ℕ) → member k (distinct seen ps) ≡ (not (member k seen) && member k ps)
unfolding distinct member
distinct-member k seen [] = and-false (not (member k seen))
  where
    and-false : (b : Bool) → false ≡ (b && false)
    and-false true = refl
    and-false false = refl
distinct-member k seen (p ∷ ps) = go (member p seen) refl (eqb k p) refl (distinct-member k seen ps) (distinct-member k (p ∷ seen) ps)
  where
    go : (b : Bool) → member p seen ≡ b → (c : Bool) → eqb k p ≡ c → member k (distinct seen ps) ≡ (not (member k seen) && member k ps)
        → member k (distinct (p ∷ seen) ps) ≡ (not (member k (p ∷ seen)) && member k ps)
        → member k (distinct seen (p ∷ ps)) ≡ (not (member k seen) && member k (p ∷ ps))
    go true e true g f h =
        let q : member k seen ≡ true = ap (λ (j : ℕ). member j seen) (eqb-true k p g) ∙ e in
        rw (e, distinct) (f ∙ rw q)
    go true e false g f h = rw (e, distinct) (rw (g, member) f)
    go false e true g f h =
        let q : member k seen ≡ false = ap (λ (j : ℕ). member j seen) (eqb-true k p g) ∙ e in
        rw (e, distinct) (rw (g, member, q))
    go false e false g f h = rw (e, distinct) (rw (g, member) (rw (g, member) at h))

-- the tally is over the places of the list, each once
pub distinct-all : (k : ℕ) (ps : List ℕ) → member k (distinct [] ps) ≡ member k ps
unfolding member
distinct-all k ps = distinct-member k [] ps
