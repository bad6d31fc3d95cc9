-- Over any index: each slot that a search answers passes the test, lies in the index, and is answered once. Assumes nothing.
use Rattle.std.specs.Prelude.{Bool, true, false, ◌≡◌, refl, List, [], ◌∷◌, ◌++◌, ℕ, zero, suc, ◌+◌, ◌-◌, ◌≤◌, ◌<◌, Float}
use Rattle.std.proofs.Common.{subst, ⊎_elim, le_refl, arith}
use Rattle.kdsort.specs.Cols.{key}
use Rattle.kdsort.specs.Shape.{Shape, leaf, node, shape}
use Rattle.kdsort.specs.laws.Shape.{Spans, all, both, spans}
use Rattle.kdslots.specs.declared.Query.{Query}
use Rattle.kdslots.specs.Query.{passes_q}
use Rattle.kdslots.specs.Slots.{Search, when, scanned, slots, over, answers}
use Rattle.kdslots.specs.laws.Members.{In, Distinct, BetweenSlots, split, no-nil, when-all, sole, widen, between-append, between-when}
use Rattle.kdslots.specs.laws.Members.{between-one, between_in, apart-left, apart-right, notin-append, distinct-right, distinct-when}
use Rattle.kdslots.specs.laws.Members.{distinct-one}

-- ---- each answer passes the test, over any index

when_true : (b : Bool) (l pre : List ℕ) (c : ℕ) (post : List ℕ) → when b l ≡ pre ++ c ∷ post → b ≡ true
when_true true l pre c post e = refl
when_true false l pre c post e = absurd (no-nil pre c post e)

passes-one : (s : Search) (m : ℕ) (pre : List ℕ) (c : ℕ) (post : List ℕ) → when (s.test m) (m ∷ []) ≡ pre ++ c ∷ post → s.test c ≡ true
passes-one s m pre c post e = rw (sole m pre c post (when-all (s.test m) (m ∷ []) pre c post e)).0
    (when_true (s.test m) (m ∷ []) pre c post e)

scanned-sound : (s : Search) (i k : ℕ) (pre : List ℕ) (c : ℕ) (post : List ℕ) → scanned s i k ≡ pre ++ c ∷ post → s.test c ≡ true
unfolding scanned
scanned-sound s i zero pre c post e = absurd (no-nil pre c post e)
scanned-sound s i (suc k) pre c post e = ⊎_elim
    (λ w. passes-one s i pre c w.0 w.1)
    (λ w. scanned-sound s (i + 1) k w.0 c post w.1)
    (split (when (s.test i) (i ∷ [])) (scanned s (i + 1) k) pre c post e)

pub sound : (s : Search) (ax : ℕ) (t : Shape) (pre : List ℕ) (c : ℕ) (post : List ℕ) → slots s ax t ≡ pre ++ c ∷ post → s.test c ≡ true
unfolding slots
sound s ax (leaf lo hi) pre c post e = scanned-sound s lo (hi - lo) pre c post e
sound s ax (node m r l) pre c post e = ⊎_elim
    (λ w. passes-one s m pre c w.0 w.1)
    (λ w. ⊎_elim
    (λ v. sound s (1 - ax) r w.0 c v.0 (when-all (s.right ax m) (slots s (1 - ax) r) w.0 c v.0 v.1))
    (λ v. sound s (1 - ax) l v.0 c post (when-all (s.left ax m) (slots s (1 - ax) l) v.0 c post v.1))
    (split (when (s.right ax m) (slots s (1 - ax) r)) (when (s.left ax m) (slots s (1 - ax) l)) w.0 c post w.1))
    (split (when (s.test m) (m ∷ [])) (when (s.right ax m) (slots s (1 - ax) r) ++ when (s.left ax m) (slots s (1 - ax) l)) pre c post e)

-- ---- each answered slot lies in the interval, and is answered once

scanned-between : (s : Search) (i k : ℕ) → BetweenSlots i (i + k) (scanned s i k)
unfolding scanned BetweenSlots
scanned-between s i zero = tt
scanned-between s i (suc k) =
    between-append i (i + suc k) (when (s.test i) (i ∷ [])) (scanned s (i + 1) k)
    (between-when (s.test i) i (i + suc k) (i ∷ []) (widen i (i + 1) i (i + suc k) (i ∷ []) (le_refl i) (omega arith) (between-one i)))
    (widen (i + 1) (i + 1 + k) i (i + suc k) (scanned s (i + 1) k) (omega arith) (omega arith) (scanned-between s (i + 1) k))

scanned-distinct : (s : Search) (i k : ℕ) → Distinct (scanned s i k)
unfolding scanned
scanned-distinct s i zero = tt
scanned-distinct s i (suc k) =
    distinct-one (s.test i) i (scanned s (i + 1) k)
    (apart-left i (i + 1) (i + 1 + k) (scanned s (i + 1) k) (scanned-between s (i + 1) k) (omega arith)) (scanned-distinct s (i + 1) k)

pub slots-between : (s : Search) (ax : ℕ) (lo hi : ℕ) (t : Shape) → Spans lo hi t → lo ≤ hi → BetweenSlots lo hi (slots s ax t)
unfolding slots
slots-between s ax lo hi _ all h = widen lo (lo + (hi - lo)) lo hi (scanned s lo (hi - lo)) (le_refl lo) (omega arith)
    (scanned-between s lo (hi - lo))
slots-between s ax lo hi _ (both {m = m} {r = r} {l = l} a b p q) h =
    between-append lo hi (when (s.test m) (m ∷ [])) (when (s.right ax m) (slots s (1 - ax) r) ++ when (s.left ax m) (slots s (1 - ax) l))
    (between-when (s.test m) lo hi (m ∷ []) (widen m (m + 1) lo hi (m ∷ []) a (omega arith) (between-one m)))
    (between-append lo hi (when (s.right ax m) (slots s (1 - ax) r)) (when (s.left ax m) (slots s (1 - ax) l))
    (between-when (s.right ax m) lo hi (slots s (1 - ax) r)
    (widen (m + 1) hi lo hi (slots s (1 - ax) r) (omega arith) (le_refl hi) (slots-between s (1 - ax) (m + 1) hi r p (omega arith))))
    (between-when (s.left ax m) lo hi (slots s (1 - ax) l)
    (widen lo m lo hi (slots s (1 - ax) l) (le_refl lo) (omega arith) (slots-between s (1 - ax) lo m l q a))))

pub slots-distinct : (s : Search) (ax : ℕ) (lo hi : ℕ) (t : Shape) → Spans lo hi t → lo ≤ hi → Distinct (slots s ax t)
unfolding slots
slots-distinct s ax lo hi _ all h = scanned-distinct s lo (hi - lo)
slots-distinct s ax lo hi _ (both {m = m} {r = r} {l = l} a b p q) h =
    let B = when (s.right ax m) (slots s (1 - ax) r) in
    let C = when (s.left ax m) (slots s (1 - ax) l) in
    let x : BetweenSlots (m + 1) hi B = between-when (s.right ax m) (m + 1) hi (slots s (1 - ax) r)
    (slots-between s (1 - ax) (m + 1) hi r p (omega arith)) in
    let y : BetweenSlots lo m C = between-when (s.left ax m) lo m (slots s (1 - ax) l) (slots-between s (1 - ax) lo m l q a) in
    distinct-one (s.test m) m (B ++ C)
    (notin-append m B C (apart-left m (m + 1) hi B x (omega arith)) (apart-right m lo m C y (le_refl m)))
    (distinct-right (m + 1) lo hi B C x (widen lo m lo (m + 1) C (le_refl lo) (omega arith) y)
    (distinct-when (s.right ax m) (slots s (1 - ax) r) (slots-distinct s (1 - ax) (m + 1) hi r p (omega arith)))
    (distinct-when (s.left ax m) (slots s (1 - ax) l) (slots-distinct s (1 - ax) lo m l q a)))

-- ---- of a whole index

pub answers-between : (q : Query) (cs : List Float) (size n : ℕ) → BetweenSlots 0 n (answers q cs size n)
answers-between q cs size n = slots-between (over q cs) 0 0 n (shape (size + 1) 0 n) (spans (size + 1) 0 n) (omega arith)

pub answers-sound : (q : Query) (cs : List Float) (size n i : ℕ) → In i (answers q cs size n) → (i < n)
    × (passes_q q (key 0 cs i) (key 1 cs i) ≡ true)
answers-sound q cs size n i p = (
  (between_in 0 n p.0 i p.1 (subst (BetweenSlots 0 n) p.2 (answers-between q cs size n))).1,
  sound (over q cs) 0 (shape (size + 1) 0 n) p.0 i p.1 p.2,
)

pub answers-distinct : (q : Query) (cs : List Float) (size n : ℕ) → Distinct (answers q cs size n)
answers-distinct q cs size n = slots-distinct (over q cs) 0 0 n (shape (size + 1) 0 n) (spans (size + 1) 0 n) (omega arith)
