-- The finest table, entry by entry: how long it is, what each entry is, and that points within [0,1] make entries there, of one lamp
-- each. And zeros, one by one. Assumes nothing.
use Rattle.std.specs.Prelude.{◌≡◌, refl, Bool, true, false, ◌&&◌, ℕ, zero, suc, ◌+◌, ◌*◌, ◌<◌, ◌≤◌, leb, length, get_or, set, take, drop, replicate, Float}
use Rattle.std.proofs.Math.Path.{ap, sym}
use Rattle.std.proofs.Common.{◌∙◌, arith, add-zero, suc-mul, le-leb, leb-true, add-one, drop_of_length-le, take-suc, length-take-le, take_all}
use mathlib.Core.List.{List, [], ◌∷◌, ◌++◌, map, append-nil}
use Rattle.std.proofs.lemmas.Bool.{lt-leb}
use Rattle.std.proofs.lemmas.List.{length-replicate, replicate-append-replicate, set_at}
use Rattle.std.proofs.Math.Seq.{drop-cons, append_snoc}
use Rattle.std.specs.Float.Ieee.{nan}
use Rattle.floats.specs.Unit.{in01}
use Rattle.range.specs.declared.CoordinateSystem.{CoordinateSystem}
use Rattle.range.specs.declared.Point.{Point}
use Rattle.range.specs.Range.{converted}
use Rattle.std.specs.Prelude.{Some, None}
use Rattle.kdslots.specs.laws.All.{All}
use Rattle.kdbush.specs.Reply.{first_outside}
use Rattle.build_tables.specs.Entries.{Table, entry}
use Rattle.build_one_zoom.specs.laws.Lamps.{sum_of, lamp_total}
use Rattle.build_one_zoom.specs.Zoom.{energy_of}
use Rattle.build_one_zoom.specs.laws.Sound.{Next}
use Rattle.build_all_zooms.specs.Zooms.{laid_over}
use Rattle.kdbush.specs.laws.Indexed.{Inside}
use Rattle.supercluster.specs.Build.{converted_all, lamp, finest, most_energy, first_over}

-- the columns of points
abbrev pub pxs : List Point → List Float
pxs ps = map (λ p. p.x) ps

abbrev pub pys : List Point → List Float
pys ps = map (λ p. p.y) ps

pub finest-length : (ps : List Point) (ws : List ℕ) (i : ℕ) → length (finest ps ws i) ≡ length ps
unfolding finest
finest-length [] ws i = refl
finest-length (p ∷ ps) ws i = ap suc (finest-length ps ws (suc i))

-- the point k of the list
abbrev pub point_at : List Point → ℕ → Point
point_at ps k = record { x = get_or (pxs ps) k nan; y = get_or (pys ps) k nan }

finest-at : (ps : List Point) (ws : List ℕ) (i k : ℕ) → k < length ps
    → entry (finest ps ws i) k ≡ lamp (point_at ps k) (get_or ws (i + k) 0) (i + k)
unfolding finest
finest-at [] ws i k h = absurd (omega arith)
finest-at (p ∷ ps) ws i zero h = rw (add-zero i)
finest-at (p ∷ ps) ws i (suc k) h =
    let q : suc i + k ≡ i + suc k = omega arith in
    finest-at ps ws (suc i) k (omega arith) ∙ ap (λ (j : ℕ). lamp (point_at ps k) (get_or ws j 0) j) q

pub converted-length : (c : CoordinateSystem) (xs ys : List Float) → length ys ≡ length xs → length (converted_all c xs ys) ≡ length xs
unfolding converted_all
converted-length c [] ys e = refl
converted-length c (x ∷ xs) [] e = absurd (omega arith)
converted-length c (x ∷ xs) (y ∷ ys) e = ap suc (converted-length c xs ys (omega arith))

pub converted-at : (c : CoordinateSystem) (xs ys : List Float) (k : ℕ) → length ys ≡ length xs → k < length xs
    → point_at (converted_all c xs ys) k ≡ converted c (record { x = get_or xs k nan; y = get_or ys k nan })
unfolding converted_all
converted-at c [] ys k e h = absurd (omega arith)
converted-at c (x ∷ xs) [] k e h = absurd (omega arith)
converted-at c (x ∷ xs) (y ∷ ys) zero e h = refl
converted-at c (x ∷ xs) (y ∷ ys) (suc k) e h = converted-at c xs ys k (omega arith) (omega arith)

-- the finest table of points that are converted
abbrev pub lamps : CoordinateSystem → List Float → List Float → List ℕ → Table
lamps c xs ys ws = finest (converted_all c xs ys) ws 0

module _ (c : CoordinateSystem) (xs ys : List Float) (ws : List ℕ) (e : length ys ≡ length xs) where
  pub lamps-length : length (lamps c xs ys ws) ≡ length xs
  lamps-length = finest-length (converted_all c xs ys) ws 0 ∙ converted-length c xs ys e

  pub lamps-at : (k : ℕ) → k < length xs → entry (lamps c xs ys ws) k ≡ lamp (converted c (record { x = get_or xs k nan; y = get_or ys k nan }))
      (get_or ws k 0) k
  lamps-at k h =
      let q : 0 + k ≡ k = omega arith in
      finest-at (converted_all c xs ys) ws 0 k (omega (arith, converted-length c xs ys e))
      ∙ ap (λ (p : Point). lamp p (get_or ws (0 + k) 0) (0 + k)) (converted-at c xs ys k e h)
      ∙ ap (λ (j : ℕ). lamp (converted c (record { x = get_or xs k nan; y = get_or ys k nan })) (get_or ws j 0) j) q

-- one more entry of F is written over R, which has t so far
pub fill_step : {A : Type 0} (d : A) (F R t t' : List A) (i : ℕ) (e : A) → t' ≡ set t i e → t ≡ take i F ++ drop i R
    → i < length F → i < length R → get_or F i d ≡ e → t' ≡ take (i + 1) F ++ drop (i + 1) R
fill_step {A} d F R t t' i e w h a b q =
    w ∙ rw h (ap (λ (l : List A). set (take i F ++ l) i e) (drop-cons R i d b)
    ∙ set_at (take i F) (get_or R i d) (drop (suc i) R) e i (length-take-le i F (omega arith))
    ∙ sym (append_snoc (take i F) e (drop (suc i) R))
    ∙ ap (λ (f : A). take i F ++ (f ∷ []) ++ drop (suc i) R) (sym q)
    ∙ ap (λ (l : List A). l ++ drop (suc i) R) (sym (take-suc F i d a))
    ∙ ap (λ (j : ℕ). take j F ++ drop j R) (sym (add-one i)))

pub fill_end : {A : Type 0} (F R t : List A) (i n : ℕ) → t ≡ take i F ++ drop i R → length F ≡ n → n ≤ i → i ≤ n → t ≡ laid_over F R
fill_end {A} F R t i n h e a b =
    let q : i ≡ length F = omega arith in
    h ∙ ap (λ (j : ℕ). take j F ++ drop j R) q ∙ ap (λ (l : List A). l ++ drop (length F) R) (take_all (length F) F (omega arith))

-- ---- points within [0,1]

pub finest-fine : (ps : List Point) (ws : List ℕ) (i z : ℕ) → z ≤ 255 → Inside (pxs ps) (pys ps) → All (Next z) (finest ps ws i)
unfolding finest All
finest-fine [] ws i z h f = tt
finest-fine (p ∷ ps) ws i z h f =
    let w = f 0 (omega arith) in
    (((w.0, w.1, omega arith), h), finest-fine ps ws (suc i) z h (λ k l. f (suc k) (omega (arith, l))))

pub finest-total : (ps : List Point) (ws : List ℕ) (i : ℕ) → lamp_total (finest ps ws i) ≡ length (finest ps ws i)
unfolding finest sum_of
finest-total [] ws i = refl
finest-total (p ∷ ps) ws i = let r = finest-total ps ws (suc i) in omega (arith, r)

-- energies of at most B each
pub finest-watts : (B : ℕ) (ps : List Point) (ws : List ℕ) (i : ℕ) → ((k : ℕ) → get_or ws k 0 ≤ B)
    → sum_of energy_of (finest ps ws i) ≤ length ps * B
unfolding finest sum_of
finest-watts B [] ws i f = omega arith
finest-watts B (p ∷ ps) ws i f = let r = finest-watts B ps ws (suc i) f in omega (arith, r, f i, suc-mul (length ps) B)

-- ---- the first energy that is too large, from i on

pub over-step : (ws : List ℕ) (i : ℕ) → i < length ws → get_or ws i 0 ≤ most_energy
    → first_over (drop i ws) i ≡ first_over (drop (i + 1) ws) (i + 1)
unfolding first_over
over-step ws i h l = rw (add-one i) (ap (λ (q : List ℕ). first_over q i) (drop-cons ws i 0 h)
    ∙ rw (le-leb (get_or ws i 0) most_energy l, first_over))

pub over-here : (ws : List ℕ) (i : ℕ) → i < length ws → most_energy < get_or ws i 0 → Some i ≡ first_over (drop i ws) i
unfolding first_over
over-here ws i h l = sym (ap (λ (q : List ℕ). first_over q i) (drop-cons ws i 0 h) ∙ rw (lt-leb (get_or ws i 0) most_energy l, first_over))

pub over-end : (ws : List ℕ) (i : ℕ) → length ws ≤ i → first_over (drop i ws) i ≡ None
unfolding first_over
over-end ws i h = ap (λ (q : List ℕ). first_over q i) (drop_of_length-le ws {i = i} h)

-- where there is none, every energy is small enough
none-by : (w : ℕ) (ws : List ℕ) (i : ℕ) → ((k j : ℕ) → first_over ws j ≡ None → get_or ws k 0 ≤ most_energy) → (b : Bool)
    → leb w most_energy ≡ b → first_over (w ∷ ws) i ≡ None → (k : ℕ) → get_or (w ∷ ws) k 0 ≤ most_energy
unfolding first_over
none-by w ws i r true q e zero = leb-true w most_energy q
none-by w ws i r true q e (suc k) = r k (suc i) (rw (q, first_over) at e)
none-by w ws i r false q e k = let z : Some i ≡ None = rw (q, first_over) at e in let y : ◌≡◌ {A = ℕ} 0 1 = cc in absurd (omega arith)

pub none_over : (ws : List ℕ) (i : ℕ) → first_over ws i ≡ None → (k : ℕ) → get_or ws k 0 ≤ most_energy
none_over [] i e k = omega arith
none_over (w ∷ ws) i e k = none-by w ws i (λ k j q. none_over ws j q k) _ refl e k

-- and where every energy is, there is none
pub all-light : (ws : List ℕ) (i : ℕ) → ((k : ℕ) → get_or ws k 0 ≤ most_energy) → first_over ws i ≡ None
unfolding first_over
all-light [] i h = refl
all-light (w ∷ ws) i h = rw (le-leb w most_energy (h 0), first_over) (all-light ws (suc i) (λ k. h (suc k)))

-- ---- the first point outside, from i on

module _ (c : CoordinateSystem) (xs ys : List Float) (i : ℕ) where
  abbrev left : List Point
  left = converted_all c (drop i xs) (drop i ys)

  left-cons : i < length xs → length ys ≡ length xs → left ≡ converted c (record { x = get_or xs i nan; y = get_or ys i nan }) ∷ converted_all c
      (drop (suc i) xs) (drop (suc i) ys)
  unfolding converted_all
  left-cons h e = rw (drop-cons xs i nan h, drop-cons ys i nan (omega arith))

  -- the point i is inside: the rest is looked at
  pub outside-step : i < length xs → length ys ≡ length xs
      → (in01 (converted c (record { x = get_or xs i nan; y = get_or ys i nan })).x
      && in01 (converted c (record { x = get_or xs i nan; y = get_or ys i nan })).y) ≡ true
      → first_outside (pxs (converted_all c (drop i xs) (drop i ys))) (pys (converted_all c (drop i xs) (drop i ys))) i
      ≡ first_outside (pxs (converted_all c (drop (i + 1) xs) (drop (i + 1) ys))) (pys (converted_all c (drop (i + 1) xs) (drop (i + 1) ys)))
      (i + 1)
  unfolding first_outside
  outside-step h e q = rw (add-one i) (ap (λ (l : List Point). first_outside (pxs l) (pys l) i) (left-cons h e) ∙ rw (q, first_outside))

  -- or it is the first outside
  pub outside-here : i < length xs → length ys ≡ length xs
      → (in01 (converted c (record { x = get_or xs i nan; y = get_or ys i nan })).x
      && in01 (converted c (record { x = get_or xs i nan; y = get_or ys i nan })).y) ≡ false
      → Some i ≡ first_outside (pxs (converted_all c (drop i xs) (drop i ys))) (pys (converted_all c (drop i xs) (drop i ys))) i
  unfolding first_outside
  outside-here h e q = sym (ap (λ (l : List Point). first_outside (pxs l) (pys l) i) (left-cons h e) ∙ rw (q, first_outside))

  -- or there is none left
  pub outside-end : length xs ≤ i
      → first_outside (pxs (converted_all c (drop i xs) (drop i ys))) (pys (converted_all c (drop i xs) (drop i ys))) i ≡ None
  unfolding first_outside converted_all
  outside-end h = ap (λ (l : List Float). first_outside (pxs (converted_all c l (drop i ys))) (pys (converted_all c l (drop i ys))) i)
      (drop_of_length-le xs {i = i} h)

-- ---- zeros

pub clear_step : (R a : List ℕ) (i : ℕ) → a ≡ replicate i 0 ++ drop i R → i < length R → set a i 0 ≡ replicate (i + 1) 0 ++ drop (i + 1) R
clear_step R a i h b =
    rw h (ap (λ (l : List ℕ). set (replicate i 0 ++ l) i 0) (drop-cons R i 0 b)
    ∙ set_at (replicate i 0) (get_or R i 0) (drop (suc i) R) 0 i (length-replicate {A = ℕ} i 0)
    ∙ sym (append_snoc (replicate i 0) 0 (drop (suc i) R))
    ∙ ap (λ (l : List ℕ). l ++ drop (suc i) R) (replicate-append-replicate {A = ℕ} i 1 0)
    ∙ ap (λ (j : ℕ). replicate (i + 1) 0 ++ drop j R) (sym (add-one i)))

pub clear-end : (R a : List ℕ) (i : ℕ) → a ≡ replicate i 0 ++ drop i R → i ≤ length R → length R ≤ i → a ≡ replicate (length R) 0
clear-end R a i h p q =
    let e : i ≡ length R = omega arith in
    h ∙ ap (λ (l : List ℕ). replicate i 0 ++ l) (drop_of_length-le R {i = i} q) ∙ append-nil (replicate i 0)
    ∙ ap (λ (j : ℕ). replicate j 0) e
