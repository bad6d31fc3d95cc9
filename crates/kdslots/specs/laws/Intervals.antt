-- What an interval answers, by its first slot or its median, and how many slots that are. Assumes nothing.
use Rattle.std.specs.Prelude.{◌≡◌, Bool, true, false, List, [], ◌∷◌, ◌++◌, ℕ, zero, suc, ◌+◌, ◌-◌, ◌≤◌, ◌<◌, Float, length}
use Rattle.std.proofs.Common.{arith, length-append}
use Rattle.kdsort.specs.Shape.{Shape, shape, mid}
use Rattle.kdsort.specs.laws.Shape.{Spans, all, both, spans, shape-leaf, shape-node}
use Rattle.kdslots.specs.declared.Query.{Query}
use Rattle.kdslots.specs.Slots.{Search, when, scanned, slots, over, answers}

-- what is answered below the median of the slots from lo up to hi
abbrev pub below : Search → ℕ → ℕ → ℕ → ℕ → List ℕ
below s ax most lo hi =
    when (s.right ax (mid lo hi)) (slots s (1 - ax) (shape most (mid lo hi + 1) hi))
    ++ when (s.left ax (mid lo hi)) (slots s (1 - ax) (shape most lo (mid lo hi)))

pub scanned-suc : (s : Search) (i hi : ℕ) → i < hi → scanned s i (hi - i) ≡ when (s.test i) (i ∷ []) ++ scanned s (i + 1) (hi - (i + 1))
unfolding scanned
scanned-suc s i hi h = go (hi - i) (hi - (i + 1)) (omega arith)
  where
    go : (a b : ℕ) → a ≡ suc b → scanned s i a ≡ when (s.test i) (i ∷ []) ++ scanned s (i + 1) b
    go a b e = rw e

-- an interval by its bounds and its axis
pub same_slots : (s : Search) (most : ℕ) {lo hi ax lo' hi' ax' : ℕ} → (lo ≡ lo') × (hi ≡ hi') × (ax ≡ ax')
    → slots s ax (shape most lo hi) ≡ slots s ax' (shape most lo' hi')
same_slots s most e = rw (e.0, e.1, e.2)

pub slots-leaf : (s : Search) (ax most lo hi : ℕ) → hi - lo ≤ most → slots s ax (shape most lo hi) ≡ scanned s lo (hi - lo)
unfolding slots
slots-leaf s ax most lo hi h = rw (shape-leaf most lo hi h)

pub slots-node : (s : Search) (ax most lo hi : ℕ) → most < hi - lo
    → slots s ax (shape most lo hi) ≡ when (s.test (mid lo hi)) (mid lo hi ∷ []) ++ below s ax most lo hi
unfolding slots
slots-node s ax most lo hi h = rw (shape-node most lo hi h)

-- ---- how many slots are answered

pub when-length : (b : Bool) (l : List ℕ) → length (when b l) ≤ length l
when-length true l = omega arith
when-length false l = omega arith

scanned-length : (s : Search) (i k : ℕ) → length (scanned s i k) ≤ k
unfolding scanned
scanned-length s i zero = omega arith
scanned-length s i (suc k) =
    omega (
      arith,
      length-append (when (s.test i) (i ∷ [])) (scanned s (i + 1) k),
      when-length (s.test i) (i ∷ []),
      scanned-length s (i + 1) k,
    )

pub slots_length : (s : Search) (ax : ℕ) (lo hi : ℕ) (t : Shape) → Spans lo hi t → length (slots s ax t) ≤ hi - lo
unfolding slots
slots_length s ax lo hi _ all = scanned-length s lo (hi - lo)
slots_length s ax lo hi _ (both {m = m} {r = r} {l = l} a b p q) =
    let A = when (s.test m) (m ∷ []) in
    let B = when (s.right ax m) (slots s (1 - ax) r) in
    let C = when (s.left ax m) (slots s (1 - ax) l) in
    omega (
      arith,
      length-append A (B ++ C),
      length-append B C,
      when-length (s.test m) (m ∷ []),
      when-length (s.right ax m) (slots s (1 - ax) r),
      when-length (s.left ax m) (slots s (1 - ax) l),
      slots_length s (1 - ax) (m + 1) hi r p,
      slots_length s (1 - ax) lo m l q,
    )

pub answers-length : (q : Query) (cs : List Float) (size n : ℕ) → length (answers q cs size n) ≤ n
answers-length q cs size n = omega (arith, slots_length (over q cs) 0 0 n (shape (size + 1) 0 n) (spans (size + 1) 0 n))
