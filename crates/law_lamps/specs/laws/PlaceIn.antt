-- The group that has a place: where the place is in the groups once, it is in the group at `place_in` once, and in no other. Each member
-- of a group that fits is a place of the table. Assumes nothing.
use Rattle.std.specs.Prelude.{◌≡◌, refl, Bool, true, false, cond, List, [], ◌∷◌, ◌++◌, ℕ, zero, suc, ◌+◌, ◌<◌, ltb, eqb, length}
use Rattle.std.proofs.Common.{sym, ap, ◌∙◌, ⊎_elim, arith, ltb-true, ltb-false}
use Rattle.std.proofs.Math.Dec.{eqb-zero-suc, eqb-suc-zero, eqb-suc-suc}
use Rattle.build_tables.specs.Entries.{Table}
use Rattle.law_groups.specs.Sums.{one_if, count}
use Rattle.law_groups.specs.laws.Sums.{eqb_same, hit, sum-append}
use Rattle.law_groups.specs.Groups.{Group, copied, joined_group, from, froms}
use Rattle.law_groups.specs.laws.OneZoom.{FitsZoom}
use Rattle.law_builds.specs.Places.{group_at}
use Rattle.law_lamps.specs.Owner.{place_in}

none-at : (k : ℕ) (gs : List Group) → count k (froms gs) ≡ 0 → (j : ℕ) → j < length gs → count k (from (group_at gs j)) ≡ 0
none-at k [] h j l = absurd (omega arith)
none-at k (g ∷ gs) h zero l = let a = sum-append (λ x. one_if (eqb k x)) (from g) (froms gs) in omega arith
none-at k (g ∷ gs) h (suc j) l = none-at k gs (let a = sum-append (λ x. one_if (eqb k x)) (from g) (froms gs) in omega arith) j (omega arith)

-- how often a group has the place: once the one at `place_in`, and no other
pub place_at : (k : ℕ) (gs : List Group) → count k (froms gs) ≡ 1 → (j : ℕ) → j < length gs
    → count k (from (group_at gs j)) ≡ one_if (eqb (place_in gs k) j)
place_at k [] h j l = absurd (omega arith)
place_at k (g ∷ gs) h j l = go (λ a. place_at k gs a) j l (ltb 0 (count k (from g))) refl
  where
    both : count k (from g ++ froms gs) ≡ count k (from g) + count k (froms gs)
    both = sum-append (λ x. one_if (eqb k x)) (from g) (froms gs)

    go : (count k (froms gs) ≡ 1 → (j : ℕ) → j < length gs → count k (from (group_at gs j)) ≡ one_if (eqb (place_in gs k) j)) → (j : ℕ)
        → j < length (g ∷ gs) →
        (b : Bool) → ltb 0 (count k (from g)) ≡ b → count k (from (group_at (g ∷ gs) j)) ≡ one_if (eqb (cond b 0 (suc (place_in gs k))) j)
    go ih zero l true e = let a = ltb-true 0 (count k (from g)) e in let c = both in omega arith
    go ih (suc j) l true e = none-at k gs (let a = ltb-true 0 (count k (from g)) e in let c = both in omega arith) j (omega arith)
        ∙ sym (ap one_if (eqb-zero-suc j))
    go ih zero l false e = let a = ltb-false 0 (count k (from g)) e in let c : one_if (eqb (suc (place_in gs k)) 0) ≡ 0 =
        ap one_if (eqb-suc-zero (place_in gs k)) in omega arith
    go ih (suc j) l false e = ih (let a = ltb-false 0 (count k (from g)) e in let c = both in omega arith) j (omega arith)
        ∙ sym (ap one_if (eqb-suc-suc (place_in gs k) j))

-- it is a place of the next table
pub place-in : (k : ℕ) (gs : List Group) → count k (froms gs) ≡ 1 → place_in gs k < length gs
place-in k [] h = absurd (omega arith)
place-in k (g ∷ gs) h = go (λ a. place-in k gs a) (ltb 0 (count k (from g))) refl
  where
    go : (count k (froms gs) ≡ 1 → place_in gs k < length gs) → (b : Bool) → ltb 0 (count k (from g)) ≡ b
        → cond b 0 (suc (place_in gs k)) < suc (length gs)
    go ih true e = omega arith
    go ih false e =
        let a = ltb-false 0 (count k (from g)) e in
        let c = sum-append (λ x. one_if (eqb k x)) (from g) (froms gs) in
        let i = ih (omega arith) in
        omega arith

-- so its group has it
pub place-has : (k : ℕ) (gs : List Group) → count k (froms gs) ≡ 1 → count k (from (group_at gs (place_in gs k))) ≡ 1
place-has k gs h = place_at k gs h (place_in gs k) (place-in k gs h) ∙ ap one_if (eqb_same (place_in gs k))

-- the only member of a copy is its place
pub copy_is : (k m : ℕ) → 0 < count k (m ∷ []) → k ≡ m
copy_is k m c = ⊎_elim (λ h. h.0) (λ h. absurd (let b = h.1 in omega arith)) (hit k m)

-- each member of a group that fits is a place of the table
pub member-in : (n least z : ℕ) (near : ℕ → List ℕ) (T T' : Table) (g : Group) → FitsZoom n least z near T T' g → (k : ℕ)
    → 0 < count k (from g) → k < length T
member-in n least z near T T' (copied m e) w k c = let a = w.place in let b = copy_is k m c in omega arith
member-in n least z near T T' (joined_group i ks e) w k c = w.member k c
