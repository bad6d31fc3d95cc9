-- The passes of a partition, said as the turns of a loop: what is left of them comes to the same end from turn to turn, be it said of two
-- slots that are exchanged next or of two slots from which the scans go on. Assumes nothing.
use Rattle.std.specs.Prelude.{◌≡◌, refl, true, false, List, ℕ, zero, suc, ◌+◌, ◌-◌, ◌*◌, ◌<◌, ◌≤◌, ltb, length, Float}
use Rattle.std.proofs.Common.{sym, ap, ◌∙◌, subst, ⊎_elim, le_refl, le_trans, eq-or-lt_of_le, arith, lt-ltb, le-ltb}
use Rattle.std.specs.Float.Ieee.{lt}
use Rattle.floats.specs.laws.NotAbove.{below-not-above}
use Rattle.kdsort.specs.Cols.{IndexCols, swap_item, swap_co, key}
use Rattle.kdsort.specs.laws.Perms.{le-or-lt}
use Rattle.kdsort.specs.Select.{Cut, cut, scan_up, scan_down, passes}
use Rattle.kdsort.specs.laws.Scans.{Up, Down, up_none, down-none, up-stops, down-stops, swap-stops}

-- ---- at two slots that are exchanged next

-- with some fuel that is enough, the passes from here on come to P
pub Passing : Cut → ℕ → Float → IndexCols → ℕ → ℕ → Type 0
Passing P a t s i j = (f : ℕ) × (j - i ≤ f) × (passes f (ltb i j) a t s i j ≡ P)

pub passing-starts : (a : ℕ) (t : Float) (s : IndexCols) (i j : ℕ) → Passing (passes (j - i) (ltb i j) a t s i j) a t s i j
unfolding Passing
passing-starts a t s i j = (j - i, le_refl (j - i), refl)

passing-turn : (P : Cut) (a : ℕ) (t : Float) (s : IndexCols) (i j i' j' : ℕ) → Passing P a t s i j → i < j → i + 1 ≤ i' → j' ≤ j - 1
    → scan_up j a t (swap_co s.co i j) (i + 1) ≡ i' → scan_down j a t (swap_co s.co i j) (j - 1) ≡ j'
    → Passing P a t (swap_item s i j) i' j'
unfolding Passing passes
passing-turn P a t s i j i' j' h l li lj ui dj = go h.0 h.1 (rw (lt-ltb i j l) at h.2) where
  go : (f : ℕ) → j - i ≤ f → passes f true a t s i j ≡ P → (f : ℕ) × (j' - i' ≤ f) × (passes f (ltb i' j') a t (swap_item s i j) i' j' ≡ P)
  go zero fu e = absurd (omega arith)
  go (suc f) fu e = (f, omega arith, rw (← ui, ← dj) e)

pub passing-ends : (P : Cut) (a : ℕ) (t : Float) (s : IndexCols) (i j : ℕ) → Passing P a t s i j → j ≤ i → P ≡ cut s j
unfolding Passing passes
passing-ends P a t s i j h l = go h.0 (rw (le-ltb i j l) at h.2) where
  go : (f : ℕ) → passes f false a t s i j ≡ P → P ≡ cut s j
  go zero e = sym e
  go (suc f) e = sym e

-- ---- at two slots from which the scans go on

-- wherever the scan up from i and the scan down from j stop, the passes from there on come to P; what stands before i stops a scan down,
-- and what stands after j a scan up
pub record PassScanning (P : Cut) (a : ℕ) (t : Float) (s : IndexCols) (i j : ℕ) : Type 0 where
  pub goes : (i' j' : ℕ) → i' ≤ j + 1 → Up a t s.co i i' → lt (key a s.co i') t ≡ false → Down a t s.co j j'
      → lt t (key a s.co j') ≡ false → Passing P a t s i' j'
  pub i-stop : lt t (key a s.co (i - 1)) ≡ false
  pub j-stop : lt (key a s.co (j + 1)) t ≡ false

-- an exchange
pub scanning-turn : (P : Cut) (a : ℕ) (t : Float) (s : IndexCols) (i j : ℕ) → Passing P a t s i j → i < j → a < 2
    → 2 * j + 1 < length s.co
    → lt (key a s.co i) t ≡ false → lt t (key a s.co j) ≡ false → PassScanning P a t (swap_item s i j) (i + 1) (j - 1)
scanning-turn P a t s i j h l a2 lj si sj =
    let w = swap-stops a t s.co i j a2 (omega arith) lj si sj in
    let ei : i + 1 - 1 ≡ i = omega arith in
    let ej : j - 1 + 1 ≡ j = omega arith in
    record {
      goes = λ i' j' le u ui d dj.
          let li : i + 1 ≤ i' = u.from in
          passing-turn P a t s i j i' j' h l li d.from (up-stops j a t (swap_co s.co i j) (i + 1) i' u (omega arith) ui)
          (down-stops j a t (swap_co s.co i j) (j - 1) j' d (omega arith) dj);
      i-stop = ap (λ (q : ℕ). lt t (key a (swap_co s.co i j) q)) ei ∙ w.1;
      j-stop = ap (λ (q : ℕ). lt (key a (swap_co s.co i j) q) t) ej ∙ w.0;
    }

up-trans : (a : ℕ) (t : Float) (c : List Float) (i j k : ℕ) → Up a t c i j → Up a t c j k → Up a t c i k
up-trans a t c i j k u v =
    record { from = le_trans u.from v.from; past = λ p l h. ⊎_elim (λ g. v.past p g h) (λ g. u.past p l g) (le-or-lt j p) }

down-trans : (a : ℕ) (t : Float) (c : List Float) (i j k : ℕ) → Down a t c i j → Down a t c j k → Down a t c i k
down-trans a t c i j k u v =
    record { from = le_trans v.from u.from; past = λ p l h. ⊎_elim (λ g. v.past p l g) (λ g. u.past p g h) (le-or-lt p j) }

-- what stands before the slot that a scan up has reached, and after the one that a scan down has
up-before : (a : ℕ) (t : Float) (c : List Float) (i i' : ℕ) → Up a t c i i' → lt t (key a c (i - 1)) ≡ false
    → lt t (key a c (i' - 1)) ≡ false
up-before a t c i i' u h =
    ⊎_elim (λ e. subst (λ (q : ℕ). lt t (key a c (q - 1)) ≡ false) e h)
    (λ l. below-not-above (key a c (i' - 1)) t (u.past (i' - 1) (omega arith) (omega arith)))
    (eq-or-lt_of_le u.from)

down-after : (a : ℕ) (t : Float) (c : List Float) (j j' : ℕ) → Down a t c j j' → lt (key a c (j + 1)) t ≡ false
    → lt (key a c (j' + 1)) t ≡ false
down-after a t c j j' d h =
    ⊎_elim (λ e. subst (λ (q : ℕ). lt (key a c (q + 1)) t ≡ false) (sym e) h)
    (λ l. below-not-above t (key a c (j' + 1)) (d.past (j' + 1) (omega arith) (omega arith)))
    (eq-or-lt_of_le d.from)

-- the scans, part of their way
pub scanning-on : (P : Cut) (a : ℕ) (t : Float) (s : IndexCols) (i j i' j' : ℕ) → PassScanning P a t s i j → Up a t s.co i i'
    → Down a t s.co j j' → PassScanning P a t s i' j'
scanning-on P a t s i j i' j' h u d =
    let lj : j' ≤ j = d.from in
    record {
      goes = λ i'' j'' le v si e sj. h.goes i'' j'' (omega arith) (up-trans a t s.co i i' i'' u v) si
          (down-trans a t s.co j j' j'' d e) sj;
      i-stop = up-before a t s.co i i' u h.i-stop;
      j-stop = down-after a t s.co j j' d h.j-stop;
    }

-- the scans, where they stand already at their stops
pub scanning-stops : (P : Cut) (a : ℕ) (t : Float) (s : IndexCols) (i j : ℕ) → PassScanning P a t s i j → i ≤ j + 1
    → lt (key a s.co i) t ≡ false → lt t (key a s.co j) ≡ false → Passing P a t s i j
scanning-stops P a t s i j h le si sj = h.goes i j le (up_none a t s.co i) si (down-none a t s.co j) sj

pub scanning-cols : (P : Cut) (a : ℕ) (t : Float) (s s' : IndexCols) (i j : ℕ) → s ≡ s' → PassScanning P a t s' i j
    → PassScanning P a t s i j
scanning-cols P a t s s' i j e h = subst (λ (x : IndexCols). PassScanning P a t x i j) (sym e) h
