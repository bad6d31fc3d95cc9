-- How an answer is walked one slot at a time: the first slot of an interval, and the one after a slot. Assumes nothing.
use mathlib.Core.Path.{◌≡◌}
use mathlib.Core.Bool.{Bool, true, false}
use mathlib.Core.List.{List, ◌++◌}
use Prim.Native.Nat.{ℕ, ◌+◌, ◌-◌, ◌≤◌, ◌<◌}
use native.Mathlib.Omega.{arith}
use borrow.Author.Tests.{lt-ltb, le-ltb, eq-eqb, ne_eqb}
use Rattle.kdsort.specs.Shape.{shape, mid}
use Rattle.kdsort.specs.laws.Shape.{shape-leaf, shape-node}
use Rattle.std.specs.Prelude.{Option, Some, None}
use Rattle.kdslots.specs.Slots.{Search, when, scanned, slots}
use Rattle.kdslots.specs.laws.Intervals.{below}
use Rattle.kdwalk.specs.laws.Cursor.{head_of, head-append}
use Rattle.kdwalk.specs.Cursor.{rest}
use Rattle.kdslots.specs.laws.Intervals.{scanned-suc, slots-leaf, slots-node}

-- ---- slot after slot

pub here : (s : Search) (i hi : ℕ) → i < hi → s.test i ≡ true → Some i ≡ head_of (scanned s i (hi - i))
here s i hi h e = rw (scanned-suc s i hi h, e)

pub on : (s : Search) (i hi : ℕ) → i < hi → s.test i ≡ false → head_of (scanned s i (hi - i)) ≡ head_of (scanned s (i + 1) (hi - (i + 1)))
on s i hi h e = rw (scanned-suc s i hi h, e)

pub none : (s : Search) (i hi : ℕ) → hi ≤ i → None ≡ head_of (scanned s i (hi - i))
unfolding scanned
none s i hi h = go (hi - i) (omega arith)
  where
    go : (k : ℕ) → k ≡ 0 → None ≡ head_of (scanned s i k)
    go k e = rw e

-- ---- the first of an interval

pub first_leaf : (s : Search) (ax most lo hi : ℕ) (x : Option ℕ) → hi - lo ≤ most → x ≡ head_of (scanned s lo (hi - lo))
    → x ≡ head_of (slots s ax (shape most lo hi))
first_leaf s ax most lo hi x h e = rw (slots-leaf s ax most lo hi h) e

-- the answer of one list, or else of the next
pub picks : (a b : List ℕ) (i : ℕ) → Some i ≡ head_of a → Some i ≡ head_of (a ++ b)
picks a b i e = rw (head-append, ← e)

pub falls-to : (a b : List ℕ) (x : Option ℕ) → None ≡ head_of a → x ≡ head_of b → x ≡ head_of (a ++ b)
falls-to a b x e f = rw (head-append, ← e) f

-- a part that is gone into, and one that is not
pub went-in : (l : List ℕ) (b : Bool) (x : Option ℕ) → b ≡ true → x ≡ head_of l → x ≡ head_of (when b l)
went-in l b x e f = rw e f

pub not_in : (l : List ℕ) (b : Bool) → b ≡ false → None ≡ head_of (when b l)
not_in l b e = rw e

module _ (s : Search) (ax most lo hi : ℕ) (h : most < hi - lo) where
  pub first-median : s.test (mid lo hi) ≡ true → Some (mid lo hi) ≡ head_of (slots s ax (shape most lo hi))
  first-median e = rw (slots-node s ax most lo hi h, e)

  pub first-parts : (x : Option ℕ) → s.test (mid lo hi) ≡ false → x ≡ head_of (below s ax most lo hi)
      → x ≡ head_of (slots s ax (shape most lo hi))
  first-parts x e f = rw (slots-node s ax most lo hi h, e) f

  -- ---- what follows a slot

  pub rest-median : (c : ℕ) → c ≡ mid lo hi → rest s ax (shape most lo hi) c ≡ below s ax most lo hi
  unfolding rest
  rest-median c e = rw (shape-node most lo hi h, eq-eqb c (mid lo hi) e, rest)

  pub rest-right : (c : ℕ) → mid lo hi < c → rest s ax (shape most lo hi) c
      ≡ rest s (1 - ax) (shape most (mid lo hi + 1) hi) c ++ when (s.left ax (mid lo hi)) (slots s (1 - ax) (shape most lo (mid lo hi)))
  unfolding rest
  rest-right c l = rw (shape-node most lo hi h, ne_eqb c (mid lo hi) (λ e. omega arith), lt-ltb (mid lo hi) c l, rest)

  pub rest-left : (c : ℕ) → c < mid lo hi → rest s ax (shape most lo hi) c ≡ rest s (1 - ax) (shape most lo (mid lo hi)) c
  unfolding rest
  rest-left c l = rw (shape-node most lo hi h, ne_eqb c (mid lo hi) (λ e. omega arith), le-ltb (mid lo hi) c (omega arith), rest)

pub rest-leaf : (s : Search) (ax most lo hi c : ℕ) → hi - lo ≤ most → rest s ax (shape most lo hi) c ≡ scanned s (c + 1) (hi - (c + 1))
unfolding rest
rest-leaf s ax most lo hi c h = rw (shape-leaf most lo hi h)

-- what follows a slot of an interval, by the interval's bounds and its axis
pub same_rest : (s : Search) (most c : ℕ) {lo hi ax lo' hi' ax' : ℕ} → (lo ≡ lo') × (hi ≡ hi') × (ax ≡ ax')
    → rest s ax (shape most lo hi) c ≡ rest s ax' (shape most lo' hi') c
same_rest s most c e = rw (e.0, e.1, e.2)
