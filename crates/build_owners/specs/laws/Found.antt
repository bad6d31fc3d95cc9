-- The place of an id in a table: where one place has the id, and no other place of the table has it, this is the one found. Assumes
-- nothing.
use Rattle.std.specs.Prelude.{◌≡◌, Bool, true, false, [], ◌∷◌, ℕ, zero, suc, ◌<◌, length}
use Rattle.std.proofs.Common.{sym, ap, ◌∙◌, arith, eq-eqb, ne_eqb}
use Rattle.build_tables.specs.Entries.{Table, entry}
use Rattle.build_owners.specs.OwnerColumn.{place_of}

-- the place q has the id, and whichever place has it is q
pub found : (id : ℕ) (t : Table) (q : ℕ) → q < length t → (entry t q).id ≡ id → ((i : ℕ) → i < length t → (entry t i).id ≡ id → i ≡ q)
    → place_of id t ≡ q
unfolding place_of
found id [] q h e u = absurd (omega arith)
found id (x ∷ t) zero h e u =
    ap (λ (b : Bool). elim b as (λ v. ℕ) [ true ↦ 0 | false ↦ suc (place_of id t) ]) (eq-eqb x.id id e)
found id (x ∷ t) (suc q) h e u =
    ap (λ (b : Bool). elim b as (λ v. ℕ) [ true ↦ 0 | false ↦ suc (place_of id t) ])
    (ne_eqb x.id id (λ d. let c = u 0 (omega arith) d in omega arith))
    ∙ ap suc (found id t q (omega arith) e (λ i k d. let c = u (suc i) (omega arith) d in omega arith))

-- so of a table whose entries have different ids
pub found-apart : (id : ℕ) (t : Table) (q : ℕ) → q < length t → (entry t q).id ≡ id
    → ((i j : ℕ) → i < length t → j < length t → (entry t i).id ≡ (entry t j).id → i ≡ j) → place_of id t ≡ q
found-apart id t q h e u = found id t q h e (λ i k d. u i q k h (d ∙ sym e))
