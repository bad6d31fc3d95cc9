-- What the energies of tables do not change: the other columns, the indexes, where the tables stand, and each lamp's owner. Assumes
-- nothing.
use Rattle.std.specs.Prelude.{◌≡◌, refl, true, false, List, [], ◌∷◌, ◌++◌, map, ℕ, zero, suc, ◌+◌, ◌-◌, eqb, length, get_or, set, Float}
use Rattle.std.proofs.Common.{sym, ap, ap₂, ◌∙◌}
use Rattle.std.proofs.lemmas.List.{length-map}
use Rattle.std.proofs.Math.ListN.{get_or-map}
use Rattle.kdsort.specs.Cols.{IndexCols}
use Rattle.kdbush.specs.Reply.{index_of}
use Rattle.build_tables.specs.declared.Entry.{Entry}
use Rattle.build_tables.specs.Entries.{Table, entry, none}
use Rattle.build_one_zoom.specs.laws.Bare.{bare, bares}
use Rattle.build_all_zooms.specs.Zooms.{index_of_table, joined, joined_ids, joined_co, starts, lens}
use Rattle.supercluster.specs.laws.Over.{map-append}
use Rattle.law_groups.specs.Sums.{range}
use Rattle.law_builds.specs.Energies.{field-bare}
use Rattle.law_lamps.specs.Owner.{owner_up, gather}
use Rattle.build_owners.specs.OwnerColumn.{place_of, owner_in, owners_in, owner_column}

-- ---- columns

joined-bare : (ts : List Table) → joined (map bares ts) ≡ bares (joined ts)
unfolding joined
joined-bare [] = refl
joined-bare (t ∷ ts) = ap (λ (q : Table). bares t ++ q) (joined-bare ts) ∙ sym (map-append bare t (joined ts))

-- a field that is not the energy
pub column-bare : {A : Type 0} (f : Entry → A) → ((e : Entry) → f (bare e) ≡ f e) → (ts : List Table)
    → map f (joined (map bares ts)) ≡ map f (joined ts)
column-bare f g ts = ap (map f) (joined-bare ts) ∙ field-bare f g (joined ts)

-- ---- indexes

index-bare : (size : ℕ) (t : Table) → index_of_table size (bares t) ≡ index_of_table size t
unfolding index_of_table
index-bare size t = ap₂ (index_of size) (field-bare (λ e. e.x) (λ e. refl) t) (field-bare (λ e. e.y) (λ e. refl) t)

pub ids-bare : (size : ℕ) (ts : List Table) → joined_ids size (map bares ts) ≡ joined_ids size ts
unfolding joined_ids
ids-bare size [] = refl
ids-bare size (t ∷ ts) = ap₂ (λ (k : IndexCols) (l : List ℕ). k.ids ++ l) (index-bare size t) (ids-bare size ts)

pub co-bare : (size : ℕ) (ts : List Table) → joined_co size (map bares ts) ≡ joined_co size ts
unfolding joined_co
co-bare size [] = refl
co-bare size (t ∷ ts) = ap₂ (λ (k : IndexCols) (l : List Float). k.co ++ l) (index-bare size t) (co-bare size ts)

-- ---- where the tables stand

pub starts-bare : (z at : ℕ) (ts : List Table) (l : List ℕ) → starts z at (map bares ts) l ≡ starts z at ts l
unfolding starts
starts-bare z at [] l = refl
starts-bare z at (t ∷ ts) l =
    ap (λ (n : ℕ). starts (z - 1) (at + n) (map bares ts) (set l z at)) (length-map t bare)
    ∙ starts-bare (z - 1) (at + length t) ts (set l z at)

pub lens-bare : (z : ℕ) (ts : List Table) (l : List ℕ) → lens z (map bares ts) l ≡ lens z ts l
unfolding lens
lens-bare z [] l = refl
lens-bare z (t ∷ ts) l =
    ap (λ (n : ℕ). lens (z - 1) (map bares ts) (set l z n)) (length-map t bare) ∙ lens-bare (z - 1) ts (set l z (length t))

-- ---- owners

place-bare : (id : ℕ) (t : Table) → place_of id (bares t) ≡ place_of id t
unfolding place_of
place-bare id [] = refl
place-bare id (e ∷ t) = ap (λ (k : ℕ). elim (eqb e.id id) [ true ↦ 0 | false ↦ suc k ]) (place-bare id t)

up-bare : (t : Table) (p : ℕ) → owner_up (entry (bares t) p) ≡ owner_up (entry t p)
up-bare t p = ap owner_up (get_or-map bare t p none)

pub owner-bare : (ts : List Table) (i l : ℕ) → owner_in (map bares ts) i l ≡ owner_in ts i l
unfolding owner_in
owner-bare ts zero l = refl
owner-bare ts (suc i) l =
    ap₂ (λ (t u : Table). place_of (owner_up (entry t (owner_in (map bares ts) i l))) u) (get_or-map bares ts i [])
    (get_or-map bares ts (suc i) [])
    ∙ ap (λ (p : ℕ). place_of (owner_up (entry (bares (get_or ts i [])) p)) (bares (get_or ts (suc i) []))) (owner-bare ts i l)
    ∙ place-bare (owner_up (entry (bares (get_or ts i [])) (owner_in ts i l))) (get_or ts (suc i) [])
    ∙ ap (λ (id : ℕ). place_of id (get_or ts (suc i) [])) (up-bare (get_or ts i []) (owner_in ts i l))

pub owners-bare : (n : ℕ) (ts : List Table) → owner_column n (map bares ts) ≡ owner_column n ts
unfolding owner_column
owners-bare n ts =
    (λ i. gather (λ k. map (λ l. owner-bare ts k l i) (range 0 n)) (range 0 (length (map bares ts))))
    ∙ ap (λ (m : ℕ). gather (owners_in n ts) (range 0 m)) (length-map ts bares)
