-- A batch of exchanges: where a scan stops, one stop after another, and that the stops of a scan up and those of a scan down, exchanged
-- in pairs, are the exchanges that the next passes make. Assumes nothing.
use Rattle.std.specs.Prelude.{◌≡◌, true, false, List, length, get_or, Float}
use Rattle.std.proofs.Math.Path.{refl, ap}
use Rattle.std.proofs.Common.{sym, ◌∙◌, subst, ⊎_elim, le_refl, eq-or-lt_of_le, add-one, arith}
use Prim.Native.Nat.{ℕ, zero, suc, ◌+◌, ◌-◌, ◌*◌, ◌<◌, ◌≤◌}
use Rattle.std.specs.Float.Ieee.{lt}
use Rattle.kdsort.specs.Cols.{IndexCols, swap_item, key}
use Rattle.kdsort.specs.Select.{Cut}
use Rattle.kdsort.specs.laws.Swaps.{tr-other, length-swap_co, key-swap}
use Rattle.kdsort.specs.laws.Scans.{Up, Down, up_none, up_more, down-none, down-more}
use Rattle.kdsort.specs.laws.Passes.{PassScanning, scanning-turn, scanning-on, scanning-stops}

-- an entry of a list of slots
abbrev pub batch_entry : List ℕ → ℕ → ℕ
batch_entry xs k = get_or xs k 0

-- where the scan that makes the stop k begins
unfoldable pub next_up : (ℕ → ℕ) → ℕ → ℕ → ℕ
next_up f from zero = from
next_up f from (suc k) = f k + 1

up_suc : (f : ℕ → ℕ) (from k : ℕ) → next_up f from (k + 1) ≡ f k + 1
unfolding next_up
up_suc f from k = rw (add-one k) refl

unfoldable pub next_down : (ℕ → ℕ) → ℕ → ℕ → ℕ
next_down f from zero = from
next_down f from (suc k) = f k - 1

down-suc : (f : ℕ → ℕ) (from k : ℕ) → next_down f from (k + 1) ≡ f k - 1
unfolding next_down
down-suc f from k = rw (add-one k) refl

-- the first n entries are the stops of the scans up, one after another, and the entry n the slot that the last scan has reached
pub record Ups (a : ℕ) (t : Float) (c : List Float) (from end : ℕ) (f : ℕ → ℕ) (n : ℕ) : Type 0 where
  pub scans : (k : ℕ) → k ≤ n → Up a t c (next_up f from k) (f k)
  pub stops : (k : ℕ) → k < n → lt (key a c (f k)) t ≡ false
  pub over : (k : ℕ) → k ≤ n → from ≤ f k
  pub under : (k : ℕ) → k < n → f k < end
  pub last : f n ≡ end
  pub few : n + from ≤ end

pub record Downs (a : ℕ) (t : Float) (c : List Float) (from end : ℕ) (f : ℕ → ℕ) (n : ℕ) : Type 0 where
  pub scans : (k : ℕ) → k ≤ n → Down a t c (next_down f from k) (f k)
  pub stops : (k : ℕ) → k < n → lt t (key a c (f k)) ≡ false
  pub under : (k : ℕ) → k ≤ n → f k ≤ from
  pub over : (k : ℕ) → k < n → end < f k
  pub last : f n ≡ end
  pub few : n + end ≤ from

-- ---- one slot more

-- a scan up has reached p after n stops, with the list f; with the list g it has reached the slot after p
module _ (a : ℕ) (t : Float) (c : List Float) (from p n : ℕ) (f g : ℕ → ℕ) (u : Ups a t c from p f n) where
  next-same : (m : ℕ) → ((k : ℕ) → k < m → g k ≡ f k) → (k : ℕ) → k ≤ m → next_up g from k ≡ next_up f from k
  unfolding next_up
  next-same m e zero l = refl
  next-same m e (suc k) l = ap (λ (q : ℕ). q + 1) (e k l)

  pub ups-past : ((k : ℕ) → k < n → g k ≡ f k) → g n ≡ p + 1 → lt (key a c p) t ≡ true → Ups a t c from (p + 1) g n
  ups-past e z h =
      let w : n + from ≤ p = u.few in
      record {
        scans = λ k l. ⊎_elim (λ q. rw q here) (λ m. rw (next-same n e k l, e k m) (u.scans k l)) (eq-or-lt_of_le l);
        stops = λ k l. rw (e k l) (u.stops k l);
        over = λ k l. ⊎_elim (λ q. rw q (rw z (omega arith))) (λ m. rw (e k m) (u.over k l)) (eq-or-lt_of_le l);
        under = λ k l. let v : f k < p = u.under k l in rw (e k l) (omega arith);
        last = z;
        few = omega arith;
      } where
        here : Up a t c (next_up g from n) (g n)
        here = rw (next-same n e n (le_refl n), z) (up_more a t c (next_up f from n) p (rw u.last at (u.scans n (le_refl n))) h)

  pub ups-stop : ((k : ℕ) → k ≤ n → g k ≡ f k) → g (n + 1) ≡ p + 1 → lt (key a c p) t ≡ false → Ups a t c from (p + 1) g (n + 1)
  ups-stop e z h =
      let w : n + from ≤ p = u.few in
      record {
        scans = λ k l. ⊎_elim (λ q. rw q here)
            (λ m. rw (next-same n (λ k m. e k (omega arith)) k (omega arith), e k (omega arith)) (u.scans k (omega arith)))
            (eq-or-lt_of_le l);
        stops = λ k l. ⊎_elim (λ q. rw q (rw at_n h)) (λ m. rw (e k (omega arith)) (u.stops k m)) (eq-or-lt_of_le (le-before k l));
        over = λ k l. ⊎_elim (λ q. rw q (rw z (omega arith))) (λ m. rw (e k (omega arith)) (u.over k (omega arith))) (eq-or-lt_of_le l);
        under = λ k l. ⊎_elim (λ q. rw q (rw at_n (omega arith)))
            (λ m. let v : f k < p = u.under k m in rw (e k (omega arith)) (omega arith)) (eq-or-lt_of_le (le-before k l));
        last = z;
        few = omega arith;
      } where
        at_n : g n ≡ p
        at_n = e n (le_refl n) ∙ u.last

        le-before : (k : ℕ) → k < n + 1 → k ≤ n
        le-before k l = omega arith

        next-is : next_up g from (n + 1) ≡ p + 1
        next-is = up_suc g from n ∙ ap (λ (q : ℕ). q + 1) at_n

        here : Up a t c (next_up g from (n + 1)) (g (n + 1))
        here = rw (next-is, z) (up_none a t c (p + 1))

-- the same for a scan down
module _ (a : ℕ) (t : Float) (c : List Float) (from p n : ℕ) (f g : ℕ → ℕ) (u : Downs a t c from p f n) (p1 : 0 < p) where
  down-same : (m : ℕ) → ((k : ℕ) → k < m → g k ≡ f k) → (k : ℕ) → k ≤ m → next_down g from k ≡ next_down f from k
  unfolding next_down
  down-same m e zero l = refl
  down-same m e (suc k) l = ap (λ (q : ℕ). q - 1) (e k l)

  pub downs-past : ((k : ℕ) → k < n → g k ≡ f k) → g n ≡ p - 1 → lt t (key a c p) ≡ true → Downs a t c from (p - 1) g n
  downs-past e z h =
      let w : n + p ≤ from = u.few in
      record {
        scans = λ k l. ⊎_elim (λ q. rw q here) (λ m. rw (down-same n e k l, e k m) (u.scans k l)) (eq-or-lt_of_le l);
        stops = λ k l. rw (e k l) (u.stops k l);
        under = λ k l. ⊎_elim (λ q. rw q (rw z (omega arith))) (λ m. rw (e k m) (u.under k l)) (eq-or-lt_of_le l);
        over = λ k l. let v : p < f k = u.over k l in rw (e k l) (omega arith);
        last = z;
        few = omega arith;
      } where
        here : Down a t c (next_down g from n) (g n)
        here = rw (down-same n e n (le_refl n), z) (down-more a t c (next_down f from n) p p1 (rw u.last at (u.scans n (le_refl n))) h)

  pub downs-stop : ((k : ℕ) → k ≤ n → g k ≡ f k) → g (n + 1) ≡ p - 1 → lt t (key a c p) ≡ false → Downs a t c from (p - 1) g (n + 1)
  downs-stop e z h =
      let w : n + p ≤ from = u.few in
      record {
        scans = λ k l. ⊎_elim (λ q. rw q here)
            (λ m. rw (down-same n (λ k m. e k (omega arith)) k (omega arith), e k (omega arith)) (u.scans k (omega arith)))
            (eq-or-lt_of_le l);
        stops = λ k l. ⊎_elim (λ q. rw q (rw at_n h)) (λ m. rw (e k (omega arith)) (u.stops k m)) (eq-or-lt_of_le (le-before k l));
        under = λ k l. ⊎_elim (λ q. rw q (rw z (omega arith))) (λ m. rw (e k (omega arith)) (u.under k (omega arith))) (eq-or-lt_of_le l);
        over = λ k l. ⊎_elim (λ q. rw q (rw at_n (omega arith)))
            (λ m. let v : p < f k = u.over k m in rw (e k (omega arith)) (omega arith)) (eq-or-lt_of_le (le-before k l));
        last = z;
        few = omega arith;
      } where
        at_n : g n ≡ p
        at_n = e n (le_refl n) ∙ u.last

        le-before : (k : ℕ) → k < n + 1 → k ≤ n
        le-before k l = omega arith

        next-is : next_down g from (n + 1) ≡ p - 1
        next-is = down-suc g from n ∙ ap (λ (q : ℕ). q - 1) at_n

        here : Down a t c (next_down g from (n + 1)) (g (n + 1))
        here = rw (next-is, z) (down-none a t c (p - 1))

-- ---- the exchanges

-- the first n entries of f and g are slots of the columns
pub record Slots (f g : ℕ → ℕ) (n ids co : ℕ) : Type 0 where
  pub f-ids : (k : ℕ) → k < n → f k < ids
  pub g-ids : (k : ℕ) → k < n → g k < ids
  pub f-co : (k : ℕ) → k < n → 2 * f k + 1 < co
  pub g-co : (k : ℕ) → k < n → 2 * g k + 1 < co

-- the slots of the first n entries exchanged, pair by pair
unfoldable pub exchanged : IndexCols → (ℕ → ℕ) → (ℕ → ℕ) → ℕ → IndexCols
exchanged s f g zero = s
exchanged s f g (suc k) = swap_item (exchanged s f g k) (f k) (g k)

pub exchanged-none : (s : IndexCols) (f g : ℕ → ℕ) → s ≡ exchanged s f g 0
unfolding exchanged
exchanged-none s f g = refl

pub exchanged-more : (s : IndexCols) (f g : ℕ → ℕ) (k : ℕ) (S S' : IndexCols) → S ≡ exchanged s f g k → S' ≡ swap_item S (f k) (g k)
    → S' ≡ exchanged s f g (k + 1)
unfolding exchanged
exchanged-more s f g k S S' e e' = rw (add-one k) (e' ∙ ap (λ (Z : IndexCols). swap_item Z (f k) (g k)) e)

-- what the passes from i and j come to in the columns s, they come to from i' and j' in s'
pub record Nearer (a : ℕ) (t : Float) (s s' : IndexCols) (i j i' j' : ℕ) : Type 0 where
  pub up : i ≤ i'
  pub down : j' ≤ j
  pub meet : i' ≤ j' + 1
  pub goes : (P : Cut) → PassScanning P a t s i j → PassScanning P a t s' i' j'

pub nearer-same : (a : ℕ) (t : Float) (s : IndexCols) (i j : ℕ) → i ≤ j + 1 → Nearer a t s s i j i j
nearer-same a t s i j l = record { up = le_refl i; down = le_refl j; meet = l; goes = λ P h. h }

-- ---- the exchanges of a batch

-- nothing from x to y has changed, and the passes go on from there
record After (P : Cut) (a : ℕ) (t : Float) (c : List Float) (s : IndexCols) (x y : ℕ) : Type 0 where
  long : length s.co ≡ length c
  same : (p : ℕ) → x ≤ p → p ≤ y → key a s.co p ≡ key a c p
  goes : PassScanning P a t s x y

after-scans : (P : Cut) (a : ℕ) (t : Float) (c : List Float) (s : IndexCols) (x y x' y' : ℕ) → After P a t c s x y → Up a t c x x'
    → Down a t c y y' → x' ≤ y' → After P a t c s x' y'
after-scans P a t c s x y x' y' h u d l =
    let lu : x ≤ x' = u.from in
    let ld : y' ≤ y = d.from in
    record {
      long = h.long;
      same = λ p l1 l2. h.same p (omega arith) (omega arith);
      goes = scanning-on P a t s x y x' y' h.goes
          (record { from = lu; past = λ p l1 l2. ap (λ (z : Float). lt z t) (h.same p l1 (omega arith)) ∙ u.past p l1 l2 })
          (record { from = ld; past = λ p l1 l2. ap (λ (z : Float). lt t z) (h.same p (omega arith) l2) ∙ d.past p l1 l2 });
    }

after_turn : (P : Cut) (a : ℕ) (t : Float) (c : List Float) (s : IndexCols) (x y : ℕ) → After P a t c s x y → x < y → a < 2
    → 2 * y + 1 < length c
    → lt (key a c x) t ≡ false → lt t (key a c y) ≡ false → After P a t c (swap_item s x y) (x + 1) (y - 1)
after_turn P a t c s x y h l a2 room sx sy =
    let e : length s.co ≡ length c = h.long in
    let ly : 2 * y + 1 < length s.co = omega arith in
    let lx : 2 * x + 1 < length s.co = omega arith in
    let sx' = ap (λ (z : Float). lt z t) (h.same x (le_refl x) (omega arith)) ∙ sx in
    let sy' = ap (λ (z : Float). lt t z) (h.same y (omega arith) (le_refl y)) ∙ sy in
    record {
      long = length-swap_co s.co x y ∙ e;
      same = λ p l1 l2. key-swap s.co x y p lx ly a a2 ∙ ap (key a s.co) (tr-other x y p (λ q. omega arith) (λ q. omega arith))
          ∙ h.same p (omega arith) (omega arith);
      goes = scanning-turn P a t s x y (scanning-stops P a t s x y h.goes (omega arith) sx' sy') l a2 ly sx' sy';
    }

-- the stops f of a scan up from i, as far as e, and the stops g of a scan down from j, as far as d
module _ (a : ℕ) (t : Float) (s : IndexCols) (i j e d m n : ℕ) (f g : ℕ → ℕ) (u : Ups a t s.co i e f m) (v : Downs a t s.co j d g n)
    (ed : e ≤ d) where
  f-to : (k : ℕ) → k ≤ m → f k ≤ e
  f-to k l = ⊎_elim (λ q. rw q (rw u.last (le_refl e))) (λ h. let w = u.under k h in omega (arith, w)) (eq-or-lt_of_le l)

  g-from : (k : ℕ) → k ≤ n → d ≤ g k
  g-from k l = ⊎_elim (λ q. rw q (rw v.last (le_refl d))) (λ h. let w = v.over k h in omega (arith, w)) (eq-or-lt_of_le l)

  f-g : (k : ℕ) → k ≤ m → k ≤ n → f k ≤ g k
  f-g k lm ln =
      let w = f-to k lm in
      let z = g-from k ln in
      omega (arith, w, z)

  -- the slots of the exchanges lie in the columns
  pub batch-slots : (k ids : ℕ) → k ≤ m → k ≤ n → j < ids → 2 * j + 1 < length s.co → Slots f g k ids (length s.co)
  batch-slots k ids lm ln lj room = record { f-ids = f-in; g-ids = g-in; f-co = f-co-in; g-co = g-co-in } where
    f-in : (q : ℕ) → q < k → f q < ids
    f-in q l = let w = f-g q (omega arith) (omega arith) in let z = v.under q (omega arith) in omega (arith, w, z)

    g-in : (q : ℕ) → q < k → g q < ids
    g-in q l = let z = v.under q (omega arith) in omega (arith, z)

    f-co-in : (q : ℕ) → q < k → 2 * f q + 1 < length s.co
    f-co-in q l = let w = f-g q (omega arith) (omega arith) in let z = v.under q (omega arith) in omega (arith, w, z)

    g-co-in : (q : ℕ) → q < k → 2 * g q + 1 < length s.co
    g-co-in q l = let z = v.under q (omega arith) in omega (arith, z)

  module _ (P : Cut) (a2 : a < 2) (room : 2 * j + 1 < length s.co) (h : PassScanning P a t s i j) where
    -- after k exchanges, where the scans go on, and where they stop next
    goes_on : (k : ℕ) → k ≤ m → k ≤ n → After P a t s.co (exchanged s f g k) (next_up f i k) (next_down g j k)
        → After P a t s.co (exchanged s f g k) (f k) (g k)
    goes_on k lm ln w = after-scans P a t s.co (exchanged s f g k) (next_up f i k) (next_down g j k) (f k) (g k) w (u.scans k lm)
        (v.scans k ln) (f-g k lm ln)

    after : (k : ℕ) → k ≤ m → k ≤ n → After P a t s.co (exchanged s f g k) (next_up f i k) (next_down g j k)
    unfolding exchanged next_up next_down
    after zero lm ln = record { long = refl; same = λ p l1 l2. refl; goes = h }
    after (suc k) lm ln =
        let w = u.under k lm in
        let z = v.over k ln in
        let o = v.under k (omega arith) in
        after_turn P a t s.co (exchanged s f g k) (f k) (g k)
        (goes_on k (omega arith) (omega arith) (after k (omega arith) (omega arith)))
        (omega (arith, w, z)) a2 (omega (arith, o)) (u.stops k lm) (v.stops k ln)

  -- the exchanges bring the scans nearer, and the passes from there come to the same
  pub batch-nearer : (k : ℕ) → k ≤ m → k ≤ n → a < 2 → 2 * j + 1 < length s.co → Nearer a t s (exchanged s f g k) i j (f k) (g k)
  batch-nearer k lm ln a2 room =
      let w = f-g k lm ln in
      record {
        up = u.over k lm;
        down = v.under k ln;
        meet = omega (arith, w);
        goes = λ P h. (goes_on P a2 room h k lm ln (after P a2 room h k lm ln)).goes;
      }

pub nearer-cols : (a : ℕ) (t : Float) (s S S' : IndexCols) (i j i' j' : ℕ) → S' ≡ S → Nearer a t s S i j i' j' → Nearer a t s S' i j i' j'
nearer-cols a t s S S' i j i' j' e h = subst (λ (x : IndexCols). Nearer a t s x i j i' j') (sym e) h
