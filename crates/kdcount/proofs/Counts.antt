-- How a count of answered slots goes on: slot by slot, and from the median to the right part and the left. Assumes nothing.
use mathlib.Core.Bool.{Bool, true, false}
use mathlib.Core.Path.{◌≡◌, refl, sym, ap, ◌∙◌}
use mathlib.Core.List.{List, [], ◌∷◌, ◌++◌}
use Prim.Native.Nat.{ℕ, ◌+◌, ◌-◌, ◌≤◌, ◌<◌}
use native.Mathlib.Nat.{le_refl}
use native.Mathlib.Omega.{arith}
use mir.Val.{bool_byte}
use lib.ListN.{length, length-append}
use Rattle.kdsort.specs.Shape.{shape, mid}
use Rattle.kdsort.specs.laws.Shape.{spans}
use Rattle.kdslots.specs.Slots.{Search, when, scanned, slots}
use Rattle.kdslots.specs.laws.Intervals.{scanned-suc, slots-leaf, slots-node, when-length, slots_length}

-- one slot counts one or nothing
one : (b : Bool) (i : ℕ) → length (when b (i ∷ [])) ≡ bool_byte b
one true i = refl
one false i = refl

pub byte-most : (b : Bool) → bool_byte b ≤ 1
byte-most true = omega arith
byte-most false = omega arith

-- ---- slot by slot

-- the slot i, by its test's answer, and those after it
pub count-more : (s : Search) (i hi : ℕ) (b : Bool) → i < hi → b ≡ s.test i
    → length (scanned s i (hi - i)) ≡ bool_byte b + length (scanned s (i + 1) (hi - (i + 1)))
count-more s i hi b h e =
    ap length (scanned-suc s i hi h)
    ∙ length-append (when (s.test i) (i ∷ [])) (scanned s (i + 1) (hi - (i + 1)))
    ∙ ap (λ (k : ℕ). k + length (scanned s (i + 1) (hi - (i + 1)))) (one (s.test i) i ∙ ap (λ (b : Bool). bool_byte b) (sym e))

pub count-done : (s : Search) (i hi : ℕ) → hi ≤ i → length (scanned s i (hi - i)) ≡ 0
unfolding scanned
count-done s i hi h = go (hi - i) (omega arith)
  where
    go : (a : ℕ) → a ≡ 0 → length (scanned s i a) ≡ 0
    go a e = rw e

-- ---- how many there are at most

pub count-few : (s : Search) (b : Bool) (ax most lo hi : ℕ) → length (when b (slots s ax (shape most lo hi))) ≤ hi - lo
count-few s b ax most lo hi = omega
    (arith, when-length b (slots s ax (shape most lo hi)), slots_length s ax lo hi (shape most lo hi) (spans most lo hi))

pub scanned-few : (s : Search) (lo hi : ℕ) → length (scanned s lo (hi - lo)) ≤ hi - lo
scanned-few s lo hi =
    let e : length (slots s 0 (shape (hi - lo) lo hi)) ≡ length (scanned s lo (hi - lo)) =
    ap length (slots-leaf s 0 (hi - lo) lo hi (le_refl (hi - lo))) in
    omega (arith, e, slots_length s 0 lo hi (shape (hi - lo) lo hi) (spans (hi - lo) lo hi))

-- ---- an interval

pub part-searched : (b : Bool) (l : List ℕ) → b ≡ true → length l ≡ length (when b l)
part-searched b l e = rw e

pub part-skipped : (b : Bool) (l : List ℕ) → b ≡ false → 0 ≡ length (when b l)
part-skipped b l e = rw e

pub count-leaf : (s : Search) (ax most lo hi : ℕ) → hi - lo ≤ most
    → length (scanned s lo (hi - lo)) ≡ length (slots s ax (shape most lo hi))
count-leaf s ax most lo hi h = sym (ap length (slots-leaf s ax most lo hi h))

-- the median, then the right part, then the left
pub count-node : (s : Search) (ax most lo hi : ℕ) → most < hi - lo
    → bool_byte (s.test (mid lo hi)) + length (when (s.right ax (mid lo hi)) (slots s (1 - ax) (shape most (mid lo hi + 1) hi)))
    + length (when (s.left ax (mid lo hi)) (slots s (1 - ax) (shape most lo (mid lo hi))))
    ≡ length (slots s ax (shape most lo hi))
count-node s ax most lo hi h =
    let m = mid lo hi in
    let R = when (s.right ax m) (slots s (1 - ax) (shape most (m + 1) hi)) in
    let L = when (s.left ax m) (slots s (1 - ax) (shape most lo m)) in
    let o = one (s.test m) m in
    let n : length (slots s ax (shape most lo hi)) ≡ length (when (s.test m) (m ∷ []) ++ (R ++ L)) =
    ap length (slots-node s ax most lo hi h) in
    omega (arith, n, o, length-append (when (s.test m) (m ∷ [])) (R ++ L), length-append R L)
