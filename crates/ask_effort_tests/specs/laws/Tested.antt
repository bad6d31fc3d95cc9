-- What is answered is what passes of the slots that are tested (`answers-tested`), over any coordinates. Assumes nothing.
use Rattle.std.specs.Prelude.{Bool, true, false, ◌≡◌, refl, List, [], ◌∷◌, ◌++◌, ℕ, zero, suc, ◌+◌, ◌-◌, ◌≤◌, length, Float}
use Rattle.std.proofs.Common.{sym, ap, ap₂, ◌∙◌, arith}
use Rattle.kdsort.specs.Shape.{Shape, leaf, node, shape}
use Rattle.kdsort.specs.laws.Shape.{spans}
use Rattle.kdslots.specs.declared.Query.{Query}
use Rattle.kdslots.specs.Slots.{Search, when, scanned, slots, over, answers}
use Rattle.kdslots.specs.laws.Intervals.{slots_length}
use Rattle.kdslots.specs.Keep.{put, keep}
use Rattle.kdslots.specs.laws.Keep.{keep_append}
use Rattle.ask_effort_tests.specs.Tested.{testing, tests}

-- ---- what is answered is what passes of them

one-put : (b : Bool) (i : ℕ) (l : List ℕ) → when b (i ∷ []) ++ l ≡ put b i l
one-put true i l = refl
one-put false i l = refl

when-kept : (p : ℕ → Bool) (b : Bool) (mine l : List ℕ) → mine ≡ keep p l → when b mine ≡ keep p (when b l)
when-kept p true mine l e = e
when-kept p false mine l e = refl

scanned-tested : (s : Search) (i k : ℕ) → scanned s i k ≡ keep s.test (scanned (testing s) i k)
unfolding scanned
scanned-tested s i zero = refl
scanned-tested s i (suc k) =
    one-put (s.test i) i (scanned s (i + 1) k) ∙ ap (λ (l : List ℕ). put (s.test i) i l) (scanned-tested s (i + 1) k)

slots-tested : (s : Search) (ax : ℕ) (t : Shape) → slots s ax t ≡ keep s.test (slots (testing s) ax t)
unfolding slots
slots-tested s ax (leaf lo hi) = scanned-tested s lo (hi - lo)
slots-tested s ax (node m r l) =
    let R = when (s.right ax m) (slots (testing s) (1 - ax) r) in
    let L = when (s.left ax m) (slots (testing s) (1 - ax) l) in
    let x = when-kept s.test (s.right ax m) (slots s (1 - ax) r) (slots (testing s) (1 - ax) r) (slots-tested s (1 - ax) r) in
    let y = when-kept s.test (s.left ax m) (slots s (1 - ax) l) (slots (testing s) (1 - ax) l) (slots-tested s (1 - ax) l) in
    ap (λ (z : List ℕ). when (s.test m) (m ∷ []) ++ z) (ap₂ (λ (u v : List ℕ). u ++ v) x y ∙ sym (keep_append s.test R L))
    ∙ one-put (s.test m) m (keep s.test (R ++ L))

pub answers-tested : (q : Query) (cs : List Float) (size n : ℕ) → answers q cs size n ≡ keep (over q cs).test (tests q cs size n)
answers-tested q cs size n = slots-tested (over q cs) 0 (shape (size + 1) 0 n)

-- there are at most as many tests as slots
pub tests-length : (q : Query) (cs : List Float) (size n : ℕ) → length (tests q cs size n) ≤ n
tests-length q cs size n = omega (arith, slots_length (testing (over q cs)) 0 0 n (shape (size + 1) 0 n) (spans (size + 1) 0 n))
