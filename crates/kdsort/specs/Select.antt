-- The selection as the Rust's `select` makes it, without the block for more than 600 slots: the two scans, the passes of a partition, and
-- the partition again on the side of k. A step that repeats has a fuel and the test that says whether it goes on: the fuel is never used
-- up (Cuts, Selects). Definitions only.
use Rattle.std.specs.Prelude.{Bool, true, false, cond, List, ℕ, zero, suc, ◌+◌, ◌-◌, ltb, leb, Float}
use Rattle.std.specs.Float.Ieee.{lt, eq}
use Rattle.kdsort.specs.Cols.{IndexCols, key, swap_co, swap_ids, swap_item}

-- up from i, past the coordinates below t: b says whether the one at i is below
unfoldable pub up : ℕ → Bool → ℕ → Float → List Float → ℕ → ℕ
up zero b a t c i = i
up (suc f) false a t c i = i
up (suc f) true a t c i = up f (lt (key a c (i + 1)) t) a t c (i + 1)

-- down from j, past the coordinates above t
unfoldable pub down : ℕ → Bool → ℕ → Float → List Float → ℕ → ℕ
down zero b a t c j = j
down (suc f) false a t c j = j
down (suc f) true a t c j = down f (lt t (key a c (j - 1))) a t c (j - 1)

-- the scans, with the first test made
abbrev pub scan_up : ℕ → ℕ → Float → List Float → ℕ → ℕ
scan_up f a t c i = up f (lt (key a c i) t) a t c i

abbrev pub scan_down : ℕ → ℕ → Float → List Float → ℕ → ℕ
scan_down f a t c j = down f (lt t (key a c j)) a t c j

-- columns, and a slot of them
pub record Cut : Type 0 where
  pub at : IndexCols
  pub slot : ℕ

abbrev pub cut : IndexCols → ℕ → Cut
cut s j = record { at = s; slot = j }

-- one pass after another: the slots i and j are exchanged, then each scan goes on, while i is left of j
unfoldable pub passes : ℕ → Bool → ℕ → Float → IndexCols → ℕ → ℕ → Cut
unfolding up down swap_co swap_ids
passes zero b a t s i j = cut s j
passes (suc f) false a t s i j = cut s j
passes (suc f) true a t s i j =
    let s' = swap_item s i j in
    let i' = scan_up j a t s'.co (i + 1) in
    let j' = scan_down j a t s'.co (j - 1) in
    passes f (ltb i' j') a t s' i' j'

-- what comes before the passes: the slot k, whose coordinate is the pivot t, goes left, and then right if what stands right is above t
abbrev pub placed : ℕ → Float → IndexCols → ℕ → ℕ → ℕ → IndexCols
placed a t s k l r = cond (lt t (key a (swap_item s l k).co r)) (swap_item (swap_item s l k) l r) (swap_item s l k)

-- and what comes after: the pivot goes between the two sides
abbrev pub settled : ℕ → Float → Cut → ℕ → ℕ → Cut
settled a t p l r =
    cond (eq (key a p.at.co l) t) (cut (swap_item p.at l p.slot) p.slot) (cut (swap_item p.at (p.slot + 1) r) (p.slot + 1))

-- the slots from l to r cut in two at the coordinate that slot k had
unfoldable pub parted : ℕ → ℕ → IndexCols → ℕ → ℕ → Cut
unfolding passes swap_co swap_ids
parted a k s l r = settled a (key a s.co k) (passes (r - l) (ltb l r) a (key a s.co k) (placed a (key a s.co k) s k l r) l r) l r

-- cut again on the side of k, while that side has more than one slot
unfoldable pub sel : ℕ → Bool → ℕ → ℕ → IndexCols → ℕ → ℕ → IndexCols
unfolding parted
sel zero b a k s l r = s
sel (suc f) false a k s l r = s
sel (suc f) true a k s l r =
    let p = parted a k s l r in
    let l' = cond (leb p.slot k) (p.slot + 1) l in
    let r' = cond (leb k p.slot) (p.slot - 1) r in
    sel f (ltb l' r') a k p.at l' r'

-- slot k selected from l to r
unfoldable pub selected : ℕ → ℕ → IndexCols → ℕ → ℕ → IndexCols
unfolding sel
selected a k s l r = sel (r - l) (ltb l r) a k s l r
