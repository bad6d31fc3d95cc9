-- Columns that are written place by place: one table's owners from those of the finer table, and one table after the other until the
-- column is `owner_column`. Assumes nothing.
use Rattle.std.specs.Prelude.{◌≡◌, refl, ◌⊎◌, ℕ, zero, suc, ◌+◌, ◌-◌, ◌*◌, ◌<◌, ◌≤◌, get_or, set, take, replicate}
use Rattle.std.proofs.Math.Path.{sym, ap}
use Rattle.std.proofs.Common.{ap₂, ◌∙◌, subst, inl, inr, ⊎_elim, suc-mul, mul-le-mul, le_refl, add-one, length-set, take-append-drop, get_or-set_same, get_or-set_other, get_or-take, get_or-append-add, drop-drop, length-take-le}
use mathlib.Core.List.{List, ◌++◌, map, append_assoc}
use Rattle.std.proofs.Math.Nat.{zero-mul}
use native.Mathlib.Omega.{arith}
use Rattle.std.proofs.Math.ListN.{length, drop, length-drop, length-append, get_or-append}
use Rattle.std.proofs.lemmas.List.{length-map, get_or-replicate, length-replicate}
use Rattle.std.proofs.Math.Seq.{get_or-drop, ext_get_or}
use Rattle.build_tables.specs.Entries.{Table, entry, unset}
use Rattle.build_all_zooms.specs.Zooms.{laid_over}
use Rattle.law_groups.specs.Sums.{range}
use Rattle.law_groups.specs.laws.Sums.{below}
use Rattle.law_lamps.specs.Owner.{gather}
use Rattle.law_lamps.specs.laws.Gather.{range_length}
use Rattle.build_owners.specs.OwnerColumn.{owner_in, owners_in, owner_column}
use Rattle.build_owners.specs.laws.Climbs.{lead_of, Chain, seat_of}

-- ---- n places from `at` on, written with the values of f

pub record Wrote (at n : ℕ) (f : ℕ → ℕ) (a b : List ℕ) : Type 0 where
  pub long : length b ≡ length a
  pub each : (l : ℕ) → l < n → get_or b (at + l) 0 ≡ f l
  pub kept : (j : ℕ) → (j < at) ⊎ (at + n ≤ j) → get_or b j 0 ≡ get_or a j 0

pub wrote_none : (at : ℕ) (f : ℕ → ℕ) (a : List ℕ) → Wrote at 0 f a a
wrote_none at f a = record { long = refl; each = λ l h. absurd (omega arith); kept = λ j h. refl }

pub wrote-more : (at i v : ℕ) (f : ℕ → ℕ) (a b : List ℕ) → Wrote at i f a b → at + i < length b → v ≡ f i
    → Wrote at (suc i) f a (set b (at + i) v)
wrote-more at i v f a b w h e =
    record {
      long = length-set b (at + i) v ∙ w.long;
      each = λ l k. ⊎_elim (λ q. get_or-set_other b (at + i) (at + l) v 0 (λ d. omega arith) ∙ w.each l q) (λ q. here l k q) (below l i);
      kept = λ j k. get_or-set_other b (at + i) j v 0 (λ d. ⊎_elim (λ q. omega arith) (λ q. omega arith) k)
          ∙ w.kept j (⊎_elim (λ q. inl q) (λ q. inr (omega arith)) k);
    }
  where
    here : (l : ℕ) → l < suc i → i ≤ l → get_or (set b (at + i) v) (at + l) 0 ≡ f l
    here l k q =
        let s : i ≡ l = omega arith in
        subst (λ (m : ℕ). get_or (set b (at + i) v) (at + m) 0 ≡ f m) s (get_or-set_same b (at + i) v 0 h ∙ e)

-- from the front on, a loop's next place
pub wrote-next : (i v : ℕ) (f : ℕ → ℕ) (a b : List ℕ) → Wrote 0 i f a b → i < length b → v ≡ f i → Wrote 0 (i + 1) f a (set b i v)
wrote-next i v f a b w h e =
    let z : 0 + i ≡ i = omega arith in
    subst (λ (k : ℕ). Wrote 0 k f a (set b i v)) (sym (add-one i))
    (subst (λ (k : ℕ). Wrote 0 (suc i) f a (set b k v)) z (wrote-more 0 i v f a b w (omega arith) e))

-- the same values
pub wrote_as : (at n : ℕ) (f g : ℕ → ℕ) (a b : List ℕ) → Wrote at n f a b → ((l : ℕ) → l < n → f l ≡ g l) → Wrote at n g a b
wrote_as at n f g a b w h = record { long = w.long; each = λ l k. w.each l k ∙ h l k; kept = w.kept }

-- a column of n places, all of them zeros
pub wrote-zeros : (n : ℕ) (a b : List ℕ) → length a ≡ n → Wrote 0 n (λ l. 0) a b → b ≡ replicate n 0
wrote-zeros n a b h w =
    ext_get_or 0 b (replicate n 0) (w.long ∙ h ∙ sym (length-replicate {A = ℕ} n 0))
    (λ i k. let m : i < n = omega (arith, k, w.long, h) in at_front i m ∙ sym (get_or-replicate n i 0 0 m))
  where
    at_front : (i : ℕ) → i < n → get_or b i 0 ≡ 0
    at_front i m = let z : 0 + i ≡ i = omega arith in ap (λ (j : ℕ). get_or b j 0) (sym z) ∙ w.each i m

-- ---- where the places of the finer table go

-- the entry at d of the table at `start`, of len entries, began with a lamp; own is each lamp's owner in the finer table
abbrev pub lead_from : ℕ → List ℕ → Table → ℕ → ℕ → ℕ
lead_from n ss R start d = lead_of n ss R 32 (entry R (start + d)).id

pub record Sends (n : ℕ) (ss : List ℕ) (R : Table) (start len : ℕ) (own : List ℕ) (m : ℕ) : Type 0 where
  pub few : len ≤ 1048576
  pub inside : start + len ≤ length R
  pub small : start ≤ 67108864
  pub chained : (d : ℕ) → d < len → Chain n ss R 32 (entry R (start + d)).id
  pub led : (d : ℕ) → d < len → lead_from n ss R start d < length own
  pub room : (d : ℕ) → d < len → get_or own (lead_from n ss R start d) 0 < m
  pub once : (d e : ℕ) → d < len → e < len → get_or own (lead_from n ss R start d) 0 ≡ get_or own (lead_from n ss R start e) 0 → d ≡ e

-- the first i entries are found where the owners of their lamps stand
abbrev pub Sent : (ℕ → ℕ) → ℕ → List ℕ → Type 0
Sent at i to = (d : ℕ) → d < i → get_or to (at d) 0 ≡ d

pub sent-more : (at : ℕ → ℕ) (i : ℕ) (to : List ℕ) → Sent at i to → at i < length to → ((d : ℕ) → d < i → at d ≡ at i → ⊥)
    → Sent at (suc i) (set to (at i) i)
sent-more at i to s h o d k = ⊎_elim (λ q. get_or-set_other to (at i) (at d) i 0 (λ e. o d q e) ∙ s d q) (λ q. here q) (below d i)
  where
    here : i ≤ d → get_or (set to (at i) i) (at d) 0 ≡ d
    here q =
        let e : i ≡ d = omega arith in
        subst (λ (m : ℕ). get_or (set to (at i) i) (at m) 0 ≡ m) e (get_or-set_same to (at i) i 0 h)

-- ---- each lamp's next owner

-- lamp l's owner stands at `at` + l of own, and is an entry of the table at `start`; to says where places go
abbrev pub next_owner : ℕ → Table → ℕ → List ℕ → List ℕ → ℕ → ℕ → ℕ
next_owner n R start to own at l =
    let k = get_or own (at + l) 0 in
    get_or to (seat_of n (entry R (start + k)) k) 0

pub record Sits (n : ℕ) (R : Table) (start m : ℕ) (own : List ℕ) (at : ℕ) : Type 0 where
  pub few : n ≤ 1048576
  pub small : start ≤ 67108864
  pub long : at + n + n ≤ length own
  pub inside : (l : ℕ) → l < n → start + get_or own (at + l) 0 < length R
  pub parent-set : (l : ℕ) → l < n → let e = entry R (start + get_or own (at + l) 0) in (e.parent ≡ unset) ⊎ (n ≤ e.parent)
  pub room : (l : ℕ) → l < n → let k = get_or own (at + l) 0 in seat_of n (entry R (start + k)) k < m

-- ---- table after table

-- the owners in the first tables, to table i, are written
pub record Filled (n : ℕ) (ts : List Table) (i : ℕ) (a b : List ℕ) : Type 0 where
  pub long : length b ≡ length a
  pub each : (k l : ℕ) → k ≤ i → l < n → get_or b (k * n + l) 0 ≡ owner_in ts k l
  pub kept : (j : ℕ) → i * n + n ≤ j → get_or b j 0 ≡ get_or a j 0

pub filled-first : (n : ℕ) (ts : List Table) (a b : List ℕ) → Wrote 0 n (λ l. l) a b → Filled n ts 0 b b
unfolding owner_in
filled-first n ts a b w = record { long = refl; each = λ k l h m. one k l (omega arith) m; kept = λ j h. refl }
  where
    one : (k l : ℕ) → k ≡ 0 → l < n → get_or b (k * n + l) 0 ≡ owner_in ts k l
    one zero l e m = ap (λ (j : ℕ). get_or b (j + l) 0) (zero-mul n) ∙ w.each l m
    one (suc k) l e m = absurd (omega arith)

-- and what stood before the first was written
pub filled-since : (n : ℕ) (ts : List Table) (i : ℕ) (f : ℕ → ℕ) (a b c : List ℕ) → Wrote 0 n f a b → Filled n ts i b c → Filled n ts i a c
filled-since n ts i f a b c w g =
    record { long = g.long ∙ w.long; each = g.each; kept = λ j h. g.kept j h ∙ w.kept j (inr (omega arith)) }

pub filled_more : (n : ℕ) (ts : List Table) (i at : ℕ) (a b c : List ℕ) → at ≡ i * n → Filled n ts i a b
    → Wrote (at + n) n (λ l. owner_in ts (suc i) l) b c
    → Filled n ts (suc i) a c
filled_more n ts i at a b c q f w =
    let s = suc-mul i n in
    record {
      long = w.long ∙ f.long;
      each = λ k l h m. ⊎_elim (λ u. before k l u m) (λ u. here k l h u m) (below k (suc i));
      kept = λ j h. w.kept j (inr (omega arith)) ∙ f.kept j (omega arith);
    }
  where
    before : (k l : ℕ) → k < suc i → l < n → get_or c (k * n + l) 0 ≡ owner_in ts k l
    before k l u m =
        let o : k * n ≤ i * n = mul-le-mul (omega arith) (le_refl n) in
        w.kept (k * n + l) (inl (omega arith)) ∙ f.each k l (omega arith) m

    here : (k l : ℕ) → k ≤ suc i → suc i ≤ k → l < n → get_or c (k * n + l) 0 ≡ owner_in ts k l
    here k l h u m =
        let e : suc i ≡ k = omega arith in
        let p : at + n + l ≡ suc i * n + l = let s = suc-mul i n in omega arith in
        subst (λ (v : ℕ). get_or c (v * n + l) 0 ≡ owner_in ts v l) e (ap (λ (v : ℕ). get_or c v 0) (sym p) ∙ w.each l m)

-- ---- the whole column

owners-long : (n : ℕ) (ts : List Table) (k : ℕ) → length (owners_in n ts k) ≡ n
owners-long n ts k = length-map (range 0 n) (owner_in ts k) ∙ range_length 0 n

-- lamp l's owner among those of a table
pub owners-at : (n : ℕ) (ts : List Table) (k l d : ℕ) → l < n → get_or (owners_in n ts k) l d ≡ owner_in ts k l
owners-at n ts k l d h = let e : 0 + l ≡ l = omega arith in go 0 n l h ∙ ap (owner_in ts k) e
  where
    go : (lo n l : ℕ) → l < n → get_or (map (owner_in ts k) (range lo n)) l d ≡ owner_in ts k (lo + l)
    go lo zero l h = absurd (omega arith)
    go lo (suc n) zero h = let e : lo ≡ lo + 0 = omega arith in ap (owner_in ts k) e
    go lo (suc n) (suc l) h = let e : suc lo + l ≡ lo + suc l = omega arith in go (suc lo) n l (omega arith) ∙ ap (owner_in ts k) e

module _ (n : ℕ) (ts : List Table) (i : ℕ) (a b : List ℕ) (f : Filled n ts i a b) (r : i * n + n ≤ length a) where
  -- the part of table k
  one-part : (k : ℕ) → k ≤ i → take n (drop (k * n) b) ≡ owners_in n ts k
  one-part k h =
      let o : k * n ≤ i * n = mul-le-mul h (le_refl n) in
      let q = length-drop (k * n) b in
      let l = f.long in
      let e : length (take n (drop (k * n) b)) ≡ n = length-take-le n (drop (k * n) b) (omega arith) in
      ext_get_or 0 (take n (drop (k * n) b)) (owners_in n ts k) (e ∙ sym (owners-long n ts k))
      (λ l m. let v : l < n = omega arith in get_or-take n (drop (k * n) b) l 0 v ∙ get_or-drop (k * n) b l 0 ∙ f.each k l h v
      ∙ sym (owners-at n ts k l 0 v))

  -- what stands from table lo on
  rest_from : (lo c : ℕ) → lo + c ≡ suc i → drop (lo * n) b ≡ gather (owners_in n ts) (range lo c) ++ drop (i * n + n) b
  rest_from lo zero e =
      let s = suc-mul i n in
      let d : lo ≡ suc i = omega arith in
      ap (λ (k : ℕ). drop (k * n) b) d ∙ ap (λ (k : ℕ). drop k b) s
  rest_from lo (suc c) e =
      let s : suc lo * n ≡ lo * n + n = suc-mul lo n in
      sym (take-append-drop n (drop (lo * n) b))
      ∙ ap₂ (λ (p q : List ℕ). p ++ q) (one-part lo (omega arith)) (drop-drop n (lo * n) b ∙ ap (λ (k : ℕ). drop k b) (sym s)
      ∙ rest_from (suc lo) c (omega arith))
      ∙ sym (append_assoc (owners_in n ts lo) (gather (owners_in n ts) (range (suc lo) c)) (drop (i * n + n) b))

  pub filled-all : suc i ≡ length ts → b ≡ laid_over (owner_column n ts) a
  unfolding owner_column
  filled-all e =
      let z = zero-mul n in
      let w : b ≡ owner_column n ts ++ drop (i * n + n) b =
      ap (λ (k : ℕ). drop k b) (sym z) ∙ rest_from 0 (suc i) (omega arith)
      ∙ ap (λ (k : ℕ). gather (owners_in n ts) (range 0 k) ++ drop (i * n + n) b) e in
      let p = length-append (owner_column n ts) (drop (i * n + n) b) in
      let q = length-drop (i * n + n) b in
      let u = ap length w in
      let l = f.long in
      let g : length (owner_column n ts) ≡ i * n + n = omega arith in
      w ∙ ap (λ (r : List ℕ). owner_column n ts ++ r) (behind ∙ ap (λ (k : ℕ). drop k a) (sym g))
    where
      behind : drop (i * n + n) b ≡ drop (i * n + n) a
      behind =
          ext_get_or 0 (drop (i * n + n) b) (drop (i * n + n) a)
          (length-drop (i * n + n) b ∙ ap (λ (k : ℕ). k - (i * n + n)) f.long ∙ sym (length-drop (i * n + n) a))
          (λ j h. get_or-drop (i * n + n) b j 0 ∙ f.kept (i * n + n + j) (omega arith) ∙ sym (get_or-drop (i * n + n) a j 0))

-- ---- what stands in the column

-- behind the parts before it, of n places each
part_in : (n : ℕ) (f : ℕ → List ℕ) → ((k : ℕ) → length (f k) ≡ n) → (lo c k l : ℕ) (rest : List ℕ) → k < c → l < n
    → get_or (gather f (range lo c) ++ rest) (k * n + l) 0 ≡ get_or (f (lo + k)) l 0
part_in n f w lo zero k l rest h m = absurd (omega arith)
part_in n f w lo (suc c) zero l rest h m =
    let z = zero-mul n in
    let e : lo ≡ lo + 0 = omega arith in
    let p : 0 * n + l ≡ l = omega arith in
    let q = w lo in
    ap₂ (λ (r : List ℕ) (j : ℕ). get_or r j 0) (append_assoc (f lo) (gather f (range (suc lo) c)) rest) p
    ∙ get_or-append (f lo) (gather f (range (suc lo) c) ++ rest) 0 l (omega arith) ∙ ap (λ (j : ℕ). get_or (f j) l 0) e
part_in n f w lo (suc c) (suc k) l rest h m =
    let s = suc-mul k n in
    let q = w lo in
    let p : suc k * n + l ≡ length (f lo) + (k * n + l) = omega arith in
    let e : suc lo + k ≡ lo + suc k = omega arith in
    ap₂ (λ (r : List ℕ) (j : ℕ). get_or r j 0) (append_assoc (f lo) (gather f (range (suc lo) c)) rest) p
    ∙ get_or-append-add (f lo) (gather f (range (suc lo) c) ++ rest) (k * n + l) 0
    ∙ part_in n f w (suc lo) c k l rest (omega arith) m ∙ ap (λ (j : ℕ). get_or (f j) l 0) e

-- lamp l's owner in the table k
pub column-at : (n : ℕ) (ts : List Table) (k l : ℕ) (a : List ℕ) → k < length ts → l < n
    → get_or (laid_over (owner_column n ts) a) (k * n + l) 0 ≡ owner_in ts k l
unfolding owner_column
column-at n ts k l a h m =
    let z : 0 + k ≡ k = omega arith in
    part_in n (owners_in n ts) (owners-long n ts) 0 (length ts) k l _ h m
    ∙ ap (λ (j : ℕ). get_or (owners_in n ts j) l 0) z ∙ owners-at n ts k l 0 m

-- as long as what it was laid over, where that has room
pub column-long : (n : ℕ) (ts : List Table) → length (owner_column n ts) ≡ length ts * n
unfolding owner_column
column-long n ts = go (owners_in n ts) (owners-long n ts) 0 (length ts)
  where
    go : (f : ℕ → List ℕ) → ((k : ℕ) → length (f k) ≡ n) → (lo c : ℕ) → length (gather f (range lo c)) ≡ c * n
    go f w lo zero = sym (zero-mul n)
    go f w lo (suc c) =
        let s = suc-mul c n in
        let q = w lo in
        let i = go f w (suc lo) c in
        let a = length-append (f lo) (gather f (range (suc lo) c)) in
        omega arith
