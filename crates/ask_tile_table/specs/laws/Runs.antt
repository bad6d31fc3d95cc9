-- What listing leaves: the reply beside the three columns, an item at a time. It is the items before the first that cannot be listed,
-- stored one after the other, and whether there is none such. Assumes nothing.
use Rattle.std.specs.Prelude.{◌≡◌, refl, Bool, true, false, List, [], ◌∷◌, ◌++◌, map, ℕ, suc, ◌+◌, ◌≤◌, length, set, ℤ, Result, Ok, Err}
use Rattle.std.proofs.Common.{ap, ◌∙◌, arith, add-zero, add-one}
use Rattle.std.proofs.lemmas.List.Edits.{sets}
use Rattle.refusals.specs.declared.Refusal.{Refusal}
use Rattle.refusals.specs.declared.Refusal.TheVariants.{Spoiled}
use Rattle.build_tables.specs.Entries.{Table}
use Rattle.ask_tile_table.specs.Tile.{Visit, listable, tile_listed, whole_tile, item_at, tile_items}

-- a reply beside what the columns hold
pub data Left : Type 0 where
  left_runs : Result ℕ Refusal → List ℕ → List ℤ → List ℤ → Left

-- each column, by a contract that says what is left in all three
module _ {r : Result ℕ Refusal} {o : List ℕ} {a b : List ℤ} {l : Left} where
  abbrev pub out_left : left_runs r o a b ≡ l → List ℕ
  out_left e = o

  abbrev pub px_left : left_runs r o a b ≡ l → List ℤ
  px_left e = a

  abbrev pub py_left : left_runs r o a b ≡ l → List ℤ
  py_left e = b

-- the visits one after the other, k listed before: the item of each goes to its position, if a column reaches so far. The first that
-- cannot be listed ends it.
unfoldable pub run_tile : Table → ℕ → List Visit → List ℕ → List ℤ → List ℤ → Left
run_tile t k [] out xs ys = left_runs (Ok k) out xs ys
run_tile t k (v ∷ vs) out xs ys =
    elim (listable t v.place) [
      | true ↦ run_tile t (k + 1) vs (set out k (item_at t v).place) (set xs k (item_at t v).x) (set ys k (item_at t v).y)
      | false ↦ left_runs (Err Spoiled) out xs ys
    ]

-- what follows, where nothing was spoiled
abbrev pub next_run : Result ℕ Refusal → List ℕ → List ℤ → List ℤ → (ℕ → List ℕ → List ℤ → List ℤ → Left) → Left
next_run (Ok k) out xs ys f = f k out xs ys
next_run (Err e) out xs ys f = left_runs (Err e) out xs ys

abbrev pub then_runs : Left → (ℕ → List ℕ → List ℤ → List ℤ → Left) → Left
then_runs (left_runs r out xs ys) f = next_run r out xs ys f

pub run-append : (t : Table) (k : ℕ) (vs ws : List Visit) (out : List ℕ) (xs ys : List ℤ)
    → run_tile t k (vs ++ ws) out xs ys ≡ then_runs (run_tile t k vs out xs ys) (λ j o a b. run_tile t j ws o a b)
unfolding run_tile
run-append t k [] ws out xs ys = refl
run-append t k (v ∷ vs) ws out xs ys =
    go (listable t v.place) refl
    (run-append t (k + 1) vs ws (set out k (item_at t v).place) (set xs k (item_at t v).x) (set ys k (item_at t v).y))
  where
    go : (b : Bool) → listable t v.place ≡ b
        → run_tile t (k + 1) (vs ++ ws) (set out k (item_at t v).place) (set xs k (item_at t v).x) (set ys k (item_at t v).y)
        ≡ then_runs (run_tile t (k + 1) vs (set out k (item_at t v).place) (set xs k (item_at t v).x) (set ys k (item_at t v).y))
        (λ j o a b. run_tile t j ws o a b)
        → run_tile t k ((v ∷ vs) ++ ws) out xs ys ≡ then_runs (run_tile t k (v ∷ vs) out xs ys) (λ j o a b. run_tile t j ws o a b)
    go true e h = rw (e, run_tile) h
    go false e h = rw (e, run_tile)

-- the first part ends well, and the rest follows; or it does not, and that is the end
pub run_more : (t : Table) (k j : ℕ) (vs ws : List Visit) (out o : List ℕ) (xs ys a b : List ℤ)
    → left_runs (Ok j) o a b ≡ run_tile t k vs out xs ys
    → run_tile t k (vs ++ ws) out xs ys ≡ run_tile t j ws o a b
run_more t k j vs ws out o xs ys a b e = rw (run-append, ← e)

pub run_ends : (t : Table) (k : ℕ) (vs ws : List Visit) (out o : List ℕ) (xs ys a b : List ℤ) (f : Refusal)
    → left_runs (Err f) o a b ≡ run_tile t k vs out xs ys
    → left_runs (Err f) o a b ≡ run_tile t k (vs ++ ws) out xs ys
run_ends t k vs ws out o xs ys a b f e = rw (run-append, ← e)

-- ---- the same, without the run

-- the reply: how many there are, or that one is spoiled
abbrev pub ran_of : Bool → ℕ → Result ℕ Refusal
ran_of true k = Ok k
ran_of false k = Err Spoiled

-- the items of visits, stored from k on
abbrev stored : Table → Result ℕ Refusal → ℕ → List Visit → List ℕ → List ℤ → List ℤ → Left
stored t r k vs out xs ys = left_runs r (sets out k (map (λ i. i.place) (tile_items t vs))) (sets xs k (map (λ i. i.x) (tile_items t vs)))
    (sets ys k (map (λ i. i.y) (tile_items t vs)))

run-sets : (t : Table) (k : ℕ) (vs : List Visit) (out : List ℕ) (xs ys : List ℤ)
    → run_tile t k vs out xs ys ≡ stored t (ran_of (whole_tile t vs) (k + length (tile_listed t vs))) k (tile_listed t vs) out xs ys
unfolding run_tile tile_listed whole_tile
run-sets t k [] out xs ys = rw add-zero
run-sets t k (v ∷ vs) out xs ys =
    go (listable t v.place) refl
    (run-sets t (k + 1) vs (set out k (item_at t v).place) (set xs k (item_at t v).x) (set ys k (item_at t v).y))
  where
    go : (b : Bool) → listable t v.place ≡ b
        → run_tile t (k + 1) vs (set out k (item_at t v).place) (set xs k (item_at t v).x) (set ys k (item_at t v).y)
        ≡ stored t (ran_of (whole_tile t vs) (k + 1 + length (tile_listed t vs))) (k + 1) (tile_listed t vs) (set out k (item_at t v).place)
        (set xs k (item_at t v).x) (set ys k (item_at t v).y)
        → run_tile t k (v ∷ vs) out xs ys ≡ stored t (ran_of (whole_tile t (v ∷ vs)) (k + length (tile_listed t (v ∷ vs)))) k
        (tile_listed t (v ∷ vs)) out xs ys
    go true e h =
        let n : k + 1 + length (tile_listed t vs) ≡ k + suc (length (tile_listed t vs)) = omega arith in
        rw (e, run_tile, whole_tile, tile_listed) (h
        ∙ ap (λ (j : ℕ). stored t (ran_of (whole_tile t vs) j) (k + 1) (tile_listed t vs) (set out k (item_at t v).place)
        (set xs k (item_at t v).x) (set ys k (item_at t v).y)) n
        ∙ ap (λ (j : ℕ). stored t (ran_of (whole_tile t vs) (k + suc (length (tile_listed t vs)))) j (tile_listed t vs)
        (set out k (item_at t v).place) (set xs k (item_at t v).x) (set ys k (item_at t v).y)) (add-one k))
    go false e h = rw (e, run_tile, whole_tile, tile_listed)

pub run_is : (t : Table) (vs : List Visit) (out : List ℕ) (xs ys : List ℤ) (r : Result ℕ Refusal) (o : List ℕ) (a b : List ℤ)
    → left_runs r o a b ≡ run_tile t 0 vs out xs ys
    → (r ≡ ran_of (whole_tile t vs) (length (tile_listed t vs))) × (o ≡ sets out 0 (map (λ i. i.place) (tile_items t (tile_listed t vs))))
    × (a ≡ sets xs 0 (map (λ i. i.x) (tile_items t (tile_listed t vs)))) × (b ≡ sets ys 0 (map (λ i. i.y) (tile_items t (tile_listed t vs))))
run_is t vs out xs ys r o a b e =
    let f = e ∙ run-sets t 0 vs out xs ys in
    let z : 0 + length (tile_listed t vs) ≡ length (tile_listed t vs) = omega arith in
    let g : r ≡ ran_of (whole_tile t vs) (0 + length (tile_listed t vs)) = cc in
    (g ∙ ap (ran_of (whole_tile t vs)) z, cc, cc, cc)

-- how many there are, of a run that ends well
pub listed-length : (t : Table) (vs : List Visit) → length (tile_listed t vs) ≤ length vs
unfolding tile_listed
listed-length t [] = omega arith
listed-length t (v ∷ vs) = go (listable t v.place) refl (listed-length t vs)
  where
    go : (b : Bool) → listable t v.place ≡ b → length (tile_listed t vs) ≤ length vs → length (tile_listed t (v ∷ vs)) ≤ suc (length vs)
    go true e h = rw (e, tile_listed) (omega arith)
    go false e h = rw (e, tile_listed) (omega arith)

abbrev count_of : Result ℕ Refusal → ℕ
count_of (Ok k) = k
count_of (Err e) = 0

count-of : (b : Bool) (k : ℕ) → count_of (ran_of b k) ≤ k
count-of true k = omega arith
count-of false k = omega arith

pub run-count : (t : Table) (k j : ℕ) (vs : List Visit) (out o : List ℕ) (xs ys a b : List ℤ)
    → left_runs (Ok j) o a b ≡ run_tile t k vs out xs ys → j ≤ k + length vs
run-count t k j vs out o xs ys a b e =
    let f : left_runs (Ok j) o a b ≡ _ = e ∙ run-sets t k vs out xs ys in
    let g : Ok j ≡ ran_of (whole_tile t vs) (k + length (tile_listed t vs)) = cc in
    omega (arith, ap count_of g, count-of (whole_tile t vs) (k + length (tile_listed t vs)), listed-length t vs)
