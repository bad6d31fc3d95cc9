-- How a tile ends: the three columns, lent as far as the shortest of them reaches, hold the first items afterwards, and then what they
-- held; and the answer is SCOPE's, by how far the listing came. Assumes nothing.
use Rattle.std.specs.Prelude.{◌≡◌, refl, Bool, true, false, cond, Result, Ok, Err, List, [], ◌∷◌, ◌++◌, map, ℕ, zero, suc, min, ◌≤◌, length, set, take, drop, ℤ}
use Rattle.std.proofs.Common.{sym, ap, ap₂, ◌∙◌, arith}
use Rattle.std.proofs.lemmas.List.{length-map}
use Rattle.std.proofs.lemmas.List.Edits.{sets}
use Rattle.kdbush.specs.Run.{filled}
use Rattle.build_tables.specs.declared.State.{State}
use Rattle.build_tables.specs.Sound.{state_ok}
use Rattle.build_tables.specs.Entries.{Table}
use Rattle.refusals.specs.declared.Refusal.{Refusal}
use Rattle.refusals.specs.declared.Refusal.TheVariants.{Tile, Spoiled}
use Rattle.ask_base.specs.Answers.{Answer}
use Rattle.ask_base.specs.Asked.{refused, told}
use Rattle.ask_base.specs.laws.Filled.{filled_none}
use Rattle.build_tables.specs.Room.{Columns, room_of}
use Rattle.ask_tile_table.specs.declared.Item.{Item}
use Rattle.ask_tile_table.specs.declared.Running.{Running}
use Rattle.ask_tile_table.specs.declared.asked.AskedTile.{AskedTile}
use Rattle.ask_tile_table.specs.laws.Asked.{table_of, asked_visits}
use Rattle.ask_tile_table.specs.laws.Added.{asked_tally}
use Rattle.ask_tile_table.specs.Tile.{Visit, is_tile, tile_listed, whole_tile, tile_items, item_at}
use Rattle.ask_tile_table.specs.laws.Runs.{left_runs, run_tile, ran_of, run_is}
use Rattle.ask_tile_table.specs.Tally.{weight_in}
use Rattle.ask_tile_table.specs.laws.Counting.{running_of}
use Rattle.ask_tile.specs.Tallied.{tally_sum, tallied}
use Rattle.ask_tile.specs.laws.Used.{Asks}
use Rattle.ask_tile.specs.Asked.{table_for, visits_for, TileAsked, tile_asked, some_of, tile_answer_of, shortest, tile_outcome, outcome_of}
use Rattle.ask_tile.specs.Asked.{tiled}

-- ---- a column

module _ {A : Type 0} where
  sets-cons : (a : A) (l : List A) (i : ℕ) (vs : List A) → sets (a ∷ l) (suc i) vs ≡ a ∷ sets l i vs
  sets-cons a l i [] = refl
  sets-cons a l i (v ∷ vs) = sets-cons a (set l i v) (suc i) vs

  sets-nil : (i : ℕ) (vs : List A) → sets [] i vs ≡ []
  sets-nil i [] = refl
  sets-nil i (v ∷ vs) = sets-nil (suc i) vs

  back : (room : ℕ) (out : List A) → take room out ++ drop room out ≡ out
  back zero out = refl
  back (suc r) [] = refl
  back (suc r) (a ∷ out) = ap (λ (l : List A). a ∷ l) (back r out)

  -- what is stored one after the other in the part that is lent, and the rest
  pub first-items : (room : ℕ) (vs out : List A) → room ≤ length out
      → sets (take room out) 0 vs ++ drop room out ≡ filled (take room vs) out
  first-items zero vs out h = ap (λ (l : List A). l ++ out) (sets-nil 0 vs) ∙ sym (filled_none out)
  first-items (suc r) vs [] h = absurd (omega arith)
  first-items (suc r) [] (a ∷ out) h = ap (λ (l : List A). a ∷ l) (back r out)
  first-items (suc r) (v ∷ vs) (a ∷ out) h =
      ap (λ (l : List A). l ++ drop r out) (sets-cons v (take r out) 0 vs) ∙ ap (λ (l : List A). v ∷ l) (first-items r vs out (omega arith))

-- ---- the answer

-- by how far the listing came
abbrev pub finish : Result ℕ Refusal → ℕ → Answer
finish (Ok k) room = some_of k room
finish (Err e) room = Err e

finish-is : (b : Bool) (l : List Item) (k room : ℕ) → k ≡ length l → finish (ran_of b k) room ≡ tile_answer_of (told b l) room
finish-is true l k room e = ap (λ (n : ℕ). some_of n room) e
finish-is false l k room e = refl

pub room_fits : (a b c : ℕ) → (min a (min b c) ≤ a) × (min a (min b c) ≤ b) × (min a (min b c) ≤ c)
room_fits a b c = (omega arith, omega arith, omega arith)

-- ---- the three ends

pub asked_is : (s : State) (c : Columns) (z x y : ℕ) → state_ok s (room_of c) ≡ true → is_tile z x y ≡ true
    → tile_asked s c z x y ≡ told (whole_tile (table_for s c z) (visits_for s c z x y))
    (tile_items (table_for s c z) (tile_listed (table_for s c z) (visits_for s c z x y)))
unfolding tile_asked
asked_is s c z x y e f = rw (e, f)

module _ (s : State) (c : Columns) (z x y : ℕ) (places : List ℕ) (xs ys : List ℤ) where
  pub ends-refused : (e : Refusal) → tile_asked s c z x y ≡ refused e → tile_outcome (Err e) places xs ys ≡ tiled s c z x y places xs ys
  ends-refused e h = ap (λ (k : TileAsked). outcome_of k places xs ys) (sym h)

  pub ends-listed : state_ok s (room_of c) ≡ true → is_tile z x y ≡ true → (room : ℕ) → room ≡ shortest places xs ys
      → (r : Result ℕ Refusal) (o : List ℕ) (a b : List ℤ)
      → left_runs r o a b ≡ run_tile (table_for s c z) 0 (visits_for s c z x y) (take room places) (take room xs) (take room ys)
      → tile_outcome (finish r room) (o ++ drop room places) (a ++ drop room xs) (b ++ drop room ys) ≡ tiled s c z x y places xs ys
  ends-listed e f room q r o a b h =
      let t = table_for s c z in
      let vs = visits_for s c z x y in
      let l = tile_items t (tile_listed t vs) in
      let w = run_is t vs (take room places) (take room xs) (take room ys) r o a b h in
      let m = room_fits (length places) (length xs) (length ys) in
      let A : finish r room ≡ tile_answer_of (told (whole_tile t vs) l) room =
      ap (λ (k : Result ℕ Refusal). finish k room) w.0
      ∙ finish-is (whole_tile t vs) l (length (tile_listed t vs)) room (sym (length-map (tile_listed t vs) (item_at t))) in
      let P : o ++ drop room places ≡ filled (take room (map (λ i. i.place) l)) places =
      ap (λ (k : List ℕ). k ++ drop room places) w.1 ∙ first-items room (map (λ i. i.place) l) places (omega (arith, m)) in
      let X : a ++ drop room xs ≡ filled (take room (map (λ i. i.x) l)) xs =
      ap (λ (k : List ℤ). k ++ drop room xs) w.2 ∙ first-items room (map (λ i. i.x) l) xs (omega (arith, m)) in
      let Y : b ++ drop room ys ≡ filled (take room (map (λ i. i.y) l)) ys =
      ap (λ (k : List ℤ). k ++ drop room ys) w.3 ∙ first-items room (map (λ i. i.y) l) ys (omega (arith, m)) in
      rw (A, P, X, Y, q) (ap (λ (k : TileAsked). outcome_of k places xs ys) (sym (asked_is s c z x y e f)))

  -- of the tile that is asked for
  pub ends-asked : (t : AskedTile) → Asks s c z x y t → (room : ℕ) → room ≡ shortest places xs ys
      → (r : Result ℕ Refusal) (o : List ℕ) (a b : List ℤ)
      → left_runs r o a b ≡ run_tile (table_of t) 0 (asked_visits t) (take room places) (take room xs) (take room ys)
      → tile_outcome (finish r room) (o ++ drop room places) (a ++ drop room xs) (b ++ drop room ys) ≡ tiled s c z x y places xs ys
  ends-asked t k room q r o a b h =
      ends-listed k.sound k.tile room q r o a b (h
      ∙ ap (λ (vs : List Visit). run_tile (table_of t) 0 vs (take room places) (take room xs) (take room ys)) k.visits
      ∙ ap (λ (w : Table). run_tile w 0 (visits_for s c z x y) (take room places) (take room xs) (take room ys)) k.table)

-- ---- the ends of a tally

module _ (s : State) (c : Columns) (z x y : ℕ) where
  -- refused by the state, and where there is no such tile
  pub refused-spoiled : state_ok s (room_of c) ≡ false → (tile_asked s c z x y ≡ refused Spoiled) × (tallied s c z x y ≡ Err Spoiled)
  unfolding tile_asked tallied
  refused-spoiled e = rw e (refl, refl)

  pub refused-no-tile : state_ok s (room_of c) ≡ true → is_tile z x y ≡ false
      → (tile_asked s c z x y ≡ refused Tile) × (tallied s c z x y ≡ Err Tile)
  unfolding tile_asked tallied
  refused-no-tile e f = rw (e, f) (refl, refl)

  -- the sum of a tally that went to its end
  abbrev pub sum_of : Result Running Running → Result ℕ Refusal
  sum_of (Ok r) = Ok r.sum
  sum_of (Err r) = Err Spoiled

  sum-is : (b : Bool) (k u : ℕ)
      → sum_of (cond b (Ok (record { count = k; sum = u })) (Err (record { count = k; sum = u }))) ≡ tally_sum b u
  sum-is true k u = refl
  sum-is false k u = refl

  pub tally-summed : state_ok s (room_of c) ≡ true → is_tile z x y ≡ true
      → sum_of (running_of (weight_in z x y) (table_for s c z) (visits_for s c z x y)) ≡ tallied s c z x y
  unfolding tallied
  tally-summed e f = rw (e, f) (sum-is (whole_tile (table_for s c z) (visits_for s c z x y)) _ _)

  pub tally-asked : (t : AskedTile) → Asks s c z x y t → sum_of (asked_tally t) ≡ tallied s c z x y
  tally-asked t k =
      ap₂ (λ (w : Table) (vs : List Visit). sum_of (running_of (weight_in t.z t.x t.y) w vs)) k.table k.visits
      ∙ rw (k.same-z, k.same-x, k.same-y) (tally-summed k.sound k.tile)
