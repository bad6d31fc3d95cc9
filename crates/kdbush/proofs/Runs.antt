-- How a search's run goes on: slot by slot, and from the median to the right part and the left. Assumes nothing.
use mathlib.Core.Bool.{Bool, true, false}
use mathlib.Core.Path.{◌≡◌, refl, sym, ap, ◌∙◌}
use mathlib.Core.List.{List, [], ◌∷◌, ◌++◌, map-append}
use Prim.Native.Nat.{ℕ, suc, ◌+◌, ◌-◌, ◌≤◌, ◌<◌}
use native.Mathlib.Nat.{add-zero}
use native.Mathlib.Omega.{arith}
use lib.Dec.{ltb}
use lib.ListN.{length, get_or, set}
use lib.Seq.{set_out}
use borrow.Author.Tests.{le-ltb, lt-ltb}
use Rattle.std.specs.Prelude.{Option, Some, None}
use Rattle.kdsort.specs.Shape.{shape, mid}
use Rattle.kdsort.specs.laws.Shape.{spans}
use Rattle.kdslots.specs.Slots.{Search, when, scanned, slots}
use Rattle.kdslots.specs.laws.Intervals.{scanned-suc, slots-leaf, slots-node, when-length, slots_length}
use Rattle.kdbush.specs.laws.Run.{Ran, ran, run, run-append, places-length, reply, run-filled}
use Rattle.kdbush.specs.Run.{places, sound, filled}

-- ---- the same reply

pub same_ran : {x y : Option ℕ} {o p : List ℕ} → x ≡ y → o ≡ p → ran x o ≡ ran y p
same_ran e f = cc

-- ---- one slot

pub put-none : (n at : ℕ) (ids : List ℕ) (i : ℕ) (b : Bool) (out : List ℕ) → b ≡ false
    → ran (Some at) out ≡ run n at (places ids (when b (i ∷ []))) out
unfolding run places
put-none n at ids i b out e = rw e

pub put-spoiled : (n at : ℕ) (ids : List ℕ) (i : ℕ) (b : Bool) (out : List ℕ) → b ≡ true → n ≤ get_or ids i 0
    → ran None out ≡ run n at (places ids (when b (i ∷ []))) out
unfolding run places
put-spoiled n at ids i b out e h = rw (e, le-ltb (get_or ids i 0) n h, run)

pub put-fits : (n at : ℕ) (ids : List ℕ) (i : ℕ) (b : Bool) (out : List ℕ) → b ≡ true → get_or ids i 0 < n
    → ran (Some (at + 1)) (set out at (get_or ids i 0)) ≡ run n at (places ids (when b (i ∷ []))) out
unfolding run places
put-fits n at ids i b out e h = rw (e, lt-ltb (get_or ids i 0) n h, run)

pub put-past : (n at : ℕ) (ids : List ℕ) (i : ℕ) (b : Bool) (out : List ℕ) → b ≡ true → get_or ids i 0 < n → length out ≤ at
    → ran (Some (at + 1)) out ≡ run n at (places ids (when b (i ∷ []))) out
put-past n at ids i b out e h l = ap (ran (Some (at + 1))) (sym (set_out out at (get_or ids i 0) l)) ∙ put-fits n at ids i b out e h

-- ---- what follows

places-append : (ids ps qs : List ℕ) → places ids (ps ++ qs) ≡ places ids ps ++ places ids qs
unfolding places
places-append ids ps qs = map-append (λ i. get_or ids i 0) ps qs

-- a run over two lists goes on with the second where the first was whole
pub run_more : (n at k : ℕ) (ids ps qs out o : List ℕ) → ran (Some k) o ≡ run n at (places ids ps) out
    → run n at (places ids (ps ++ qs)) out ≡ run n k (places ids qs) o
run_more n at k ids ps qs out o e = rw (places-append, run-append, ← e)

pub run_ends : (n at : ℕ) (ids ps qs out o : List ℕ) → ran None o ≡ run n at (places ids ps) out
    → ran None o ≡ run n at (places ids (ps ++ qs)) out
run_ends n at ids ps qs out o e = rw (places-append, run-append, ← e)

-- the count of a whole run
all_of : Ran → ℕ → ℕ
all_of (ran (Some k) o) d = k
all_of (ran None o) d = d

count : (n at : ℕ) (ps out : List ℕ) (d : ℕ) → d ≡ at + length ps → all_of (run n at ps out) d ≡ at + length ps
unfolding run all_of
count n at [] out d e = sym (add-zero at)
count n at (p ∷ ps) out d e = go (ltb p n) refl (count n (at + 1) ps (set out at p) d (omega arith))
  where
    go : (b : Bool) → ltb p n ≡ b → all_of (run n (at + 1) ps (set out at p)) d ≡ at + 1 + length ps
        → all_of (run n at (p ∷ ps) out) d ≡ at + suc (length ps)
    go true f h = rw (f, run) (h ∙ omega arith)
    go false f h = rw (f, run) e

pub run-count : (n at k : ℕ) (ps out o : List ℕ) → ran (Some k) o ≡ run n at ps out → k ≡ at + length ps
unfolding all_of
run-count n at k ps out o e = ap (λ (r : Ran). all_of r (at + length ps)) e ∙ count n at ps out (at + length ps) refl

-- ---- slot by slot

pub scan-more : (s : Search) (ids : List ℕ) (n k j i hi : ℕ) (out o : List ℕ) → i < hi
    → ran (Some j) o ≡ run n k (places ids (when (s.test i) (i ∷ []))) out
    → run n k (places ids (scanned s i (hi - i))) out ≡ run n j (places ids (scanned s (i + 1) (hi - (i + 1)))) o
scan-more s ids n k j i hi out o h e = ap (λ (l : List ℕ). run n k (places ids l) out) (scanned-suc s i hi h)
    ∙ run_more n k j ids _ _ out o e

pub scan-ends : (s : Search) (ids : List ℕ) (n k i hi : ℕ) (out o : List ℕ) → i < hi
    → ran None o ≡ run n k (places ids (when (s.test i) (i ∷ []))) out
    → ran None o ≡ run n k (places ids (scanned s i (hi - i))) out
scan-ends s ids n k i hi out o h e = run_ends n k ids _ _ out o e
    ∙ sym (ap (λ (l : List ℕ). run n k (places ids l) out) (scanned-suc s i hi h))

pub scan-done : (s : Search) (ids : List ℕ) (n k i hi : ℕ) (out : List ℕ) → hi ≤ i
    → ran (Some k) out ≡ run n k (places ids (scanned s i (hi - i))) out
unfolding run scanned places
scan-done s ids n k i hi out h = go (hi - i) (omega arith)
  where
    go : (a : ℕ) → a ≡ 0 → ran (Some k) out ≡ run n k (places ids (scanned s i a)) out
    go a e = rw e

-- one slot adds one at most
pub put_count : (n k j : ℕ) (ids : List ℕ) (i : ℕ) (b : Bool) (out o : List ℕ) → ran (Some j) o ≡ run n k (places ids (when b (i ∷ []))) out
    → j ≤ k + 1
put_count n k j ids i true out o e = omega (arith, run-count n k j _ out o e, places-length ids (i ∷ []))
put_count n k j ids i false out o e = omega (arith, run-count n k j _ out o e, places-length ids [])

-- ---- how many slots an interval answers

-- a part adds at most as many as it has slots, whether it is gone into or not
pub part_count : (s : Search) (ax most lo hi n at k : ℕ) (ids : List ℕ) (go : Bool) (out o : List ℕ)
    → ran (Some k) o ≡ run n at (places ids (when go (slots s ax (shape most lo hi)))) out → k ≤ at + (hi - lo)
part_count s ax most lo hi n at k ids go out o e =
    omega (
      arith,
      run-count n at k (places ids (when go (slots s ax (shape most lo hi)))) out o e,
      places-length ids (when go (slots s ax (shape most lo hi))),
      when-length go (slots s ax (shape most lo hi)),
      slots_length s ax lo hi (shape most lo hi) (spans most lo hi),
    )

-- ---- an interval

pub part-leaf : (s : Search) (ids : List ℕ) (n most lo hi ax at : ℕ) (out : List ℕ) (x : Option ℕ) (o : List ℕ) → hi - lo ≤ most
    → ran x o ≡ run n at (places ids (scanned s lo (hi - lo))) out → ran x o ≡ run n at (places ids (slots s ax (shape most lo hi))) out
part-leaf s ids n most lo hi ax at out x o h e = rw (slots-leaf s ax most lo hi h) e

-- a part that is gone into, and one that is not
pub went : (n k : ℕ) (ids l : List ℕ) (b : Bool) (x : Option ℕ) (out o : List ℕ) → b ≡ true → ran x o ≡ run n k (places ids l) out
    → ran x o ≡ run n k (places ids (when b l)) out
went n k ids l b x out o e f = rw e f

pub skipped : (n k : ℕ) (ids l : List ℕ) (b : Bool) (out : List ℕ) → b ≡ false → ran (Some k) out ≡ run n k (places ids (when b l)) out
unfolding run places
skipped n k ids l b out e = rw e

-- what an interval answers, by its bounds and its axis
pub same_part : (s : Search) (ids : List ℕ) (n most k : ℕ) (x : Option ℕ) (out o : List ℕ) {lo lo' hi hi' ax ax' : ℕ} → lo ≡ lo' → hi ≡ hi'
    → ax ≡ ax' → ran x o ≡ run n k (places ids (slots s ax (shape most lo hi))) out
    → ran x o ≡ run n k (places ids (slots s ax' (shape most lo' hi'))) out
same_part s ids n most k x out o a b c e = rw (← a, ← b, ← c) e

-- a node, whose median is m
module _ (s : Search) (ids : List ℕ) (n most lo hi ax at m : ℕ) (out : List ℕ) (h : most < hi - lo) (median : m ≡ mid lo hi) where
  abbrev rights : List ℕ
  rights = when (s.right ax m) (slots s (1 - ax) (shape most (m + 1) hi))

  abbrev lefts : List ℕ
  lefts = when (s.left ax m) (slots s (1 - ax) (shape most lo m))

  whole : (x : Ran) → x ≡ run n at (places ids (when (s.test m) (m ∷ []) ++ (rights ++ lefts))) out
      → x ≡ run n at (places ids (slots s ax (shape most lo hi))) out
  whole x e = rw (slots-node s ax most lo hi h) (rw median at e)

  -- the median is spoiled
  pub node-put : (o : List ℕ) → ran None o ≡ run n at (places ids (when (s.test m) (m ∷ []))) out
      → ran None o ≡ run n at (places ids (slots s ax (shape most lo hi))) out
  node-put o e = whole _ (run_ends n at ids _ _ out o e)

  -- the right part is spoiled
  pub node-right : (k : ℕ) (o : List ℕ) → ran (Some k) o ≡ run n at (places ids (when (s.test m) (m ∷ []))) out
      → (p : List ℕ) → ran None p ≡ run n k (places ids rights) o
      → ran None p ≡ run n at (places ids (slots s ax (shape most lo hi))) out
  node-right k o e p f = whole _ (run_ends n k ids _ _ o p f ∙ sym (run_more n at k ids _ _ out o e))

  -- and the left part is the last
  pub node-left : (k : ℕ) (o : List ℕ) → ran (Some k) o ≡ run n at (places ids (when (s.test m) (m ∷ []))) out
      → (j : ℕ) (p : List ℕ) → ran (Some j) p ≡ run n k (places ids rights) o
      → (x : Option ℕ) (y : List ℕ) → ran x y ≡ run n j (places ids lefts) p
      → ran x y ≡ run n at (places ids (slots s ax (shape most lo hi))) out
  node-left k o e j p f x y d = whole _ (d ∙ sym (run_more n k j ids _ _ o p f) ∙ sym (run_more n at k ids _ _ out o e))

-- ---- a whole search

pub ends : (n : ℕ) (ps out : List ℕ) (r : Option ℕ) (o : List ℕ) → ran r o ≡ run n 0 ps out → (r ≡ reply n ps) × (o ≡ filled (sound n ps) out)
ends n ps out r o e =
    let f : ran r o ≡ ran (reply n ps) (filled (sound n ps) out) = e ∙ run-filled n ps out in
    (cc, cc)
