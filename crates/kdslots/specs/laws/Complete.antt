-- Where no part that has a slot which passes is skipped, those that pass are answered, in the order of all slots; and what an index in the
-- order of the tree is, of which proofs/Complete says that this holds. Assumes nothing.
use Rattle.std.specs.Prelude.{Bool, true, false, ◌≡◌, refl, List, [], ◌∷◌, ◌++◌, ℕ, zero, suc, ◌+◌, ◌-◌, ◌≤◌, ◌<◌, Float}
use Rattle.std.proofs.Common.{true≢false, sym, ap, ap₂, ◌∙◌, arith}
use Rattle.kdsort.specs.Cols.{key}
use Rattle.kdsort.specs.Shape.{Shape, leaf, node, shape}
use Rattle.kdsort.specs.laws.Shape.{Spans, all, both}
use Rattle.kdsort.specs.Tree.{Kd}
use Rattle.kdslots.specs.declared.Query.{Query}
use Rattle.kdslots.specs.Query.{passes_q}
use Rattle.kdslots.specs.Slots.{Search, when, scanned, slots}
use Rattle.kdslots.specs.laws.Members.{BetweenSlots}
use Rattle.kdslots.specs.laws.Sound.{slots-between}
use Rattle.kdslots.specs.Keep.{put, keep}
use Rattle.kdslots.specs.laws.Keep.{keep_append, keep-none}
use Rattle.kdslots.specs.laws.Order.{everything}

unfoldable pub Fair : Search → ℕ → ℕ → ℕ → Shape → Type 0
Fair s ax lo hi (leaf a b) = Unit {0}
Fair s ax lo hi (node m r l) =
    ((i : ℕ) → m < i → i < hi → s.test i ≡ true → s.right ax m ≡ true)
    × ((i : ℕ) → lo ≤ i → i < m → s.test i ≡ true → s.left ax m ≡ true)
    × Fair s (1 - ax) (m + 1) hi r × Fair s (1 - ax) lo m l

one-put : (b : Bool) (i : ℕ) (l : List ℕ) → when b (i ∷ []) ++ l ≡ put b i l
one-put true i l = refl
one-put false i l = refl

scanned-kept : (s : Search) (i k : ℕ) → scanned s i k ≡ keep s.test (scanned everything i k)
unfolding scanned
scanned-kept s i zero = refl
scanned-kept s i (suc k) = one-put (s.test i) i (scanned s (i + 1) k) ∙ ap (λ (l : List ℕ). put (s.test i) i l) (scanned-kept s (i + 1) k)

-- a part that is gone into or has nothing that passes
part-kept : (p : ℕ → Bool) (b : Bool) (lo hi : ℕ) (mine l : List ℕ) → BetweenSlots lo hi l → mine ≡ keep p l
    → ((i : ℕ) → lo ≤ i → i < hi → p i ≡ true → b ≡ true) → when b mine ≡ keep p l
part-kept p true lo hi mine l w e f = e
part-kept p false lo hi mine l w e f = sym (keep-none p lo hi l w (λ i a b. not-true (p i) (λ q. true≢false (sym (f i a b q)))))
  where
    not-true : (b : Bool) → (b ≡ true → ⊥) → b ≡ false
    not-true true f = absurd (f refl)
    not-true false f = refl

pub filtered : (s : Search) (ax lo hi : ℕ) (t : Shape) → Spans lo hi t → lo ≤ hi → Fair s ax lo hi t
    → slots s ax t ≡ keep s.test (slots everything ax t)
unfolding slots Fair
filtered s ax lo hi _ all h f = scanned-kept s lo (hi - lo)
filtered s ax lo hi _ (both {m = m} {r = r} {l = l} a b p q) h f =
    let R = slots everything (1 - ax) r in
    let L = slots everything (1 - ax) l in
    let x = part-kept s.test (s.right ax m) (m + 1) hi (slots s (1 - ax) r) R
    (slots-between everything (1 - ax) (m + 1) hi r p (omega arith)) (filtered s (1 - ax) (m + 1) hi r p (omega arith) f.2)
    (λ i c d e. f.0 i (omega arith) d e) in
    let y = part-kept s.test (s.left ax m) lo m (slots s (1 - ax) l) L (slots-between everything (1 - ax) lo m l q a)
    (filtered s (1 - ax) lo m l q a f.3)
    (λ i c d e. f.1 i c d e) in
    ap (λ (z : List ℕ). when (s.test m) (m ∷ []) ++ z) (ap₂ (λ (u v : List ℕ). u ++ v) x y ∙ sym (keep_append s.test R L))
    ∙ one-put (s.test m) m (keep s.test (R ++ L))

-- ---- the order of the tree

-- an index of n slots is in the order of the tree
abbrev pub Ordered : List Float → ℕ → ℕ → Type 0
Ordered cs size n = Kd cs 0 0 n (shape (size + 1) 0 n)

-- whether a slot passes
abbrev pub passes_at : Query → List Float → ℕ → Bool
passes_at q cs i = passes_q q (key 0 cs i) (key 1 cs i)
