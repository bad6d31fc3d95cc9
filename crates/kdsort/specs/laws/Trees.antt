-- The sort: its slots are permuted, and they are in the order of the tree. By the shape's leaves and nodes. Assumes nothing.
use Rattle.std.specs.Prelude.{◌≡◌, refl, Bool, true, false, List, ℕ, zero, suc, ◌+◌, ◌-◌, ◌*◌, ◌<◌, ◌≤◌, T, leb, length, Float}
use Rattle.std.proofs.Math.Path.{sym}
use Rattle.std.proofs.Common.{ap, ◌∙◌, subst, le_refl, le_trans, arith, leb-true, leb-false}
use Rattle.std.specs.Float.Ieee.{le}
use Rattle.floats.specs.laws.NotAbove.{not-above→le}
use Rattle.kdsort.specs.Cols.{IndexCols, key}
use Rattle.kdsort.specs.Shape.{Shape, node, shape, mid}
use Rattle.kdsort.specs.laws.Shape.{shape-leaf, shape-node, Spans, all, both, spans}
use Rattle.kdsort.specs.Select.{selected}
use Rattle.kdsort.specs.Sort.{sorted}
use Rattle.kdsort.specs.Tree.{Permuted, Numbers, Around, Kd}
use Rattle.kdsort.specs.laws.Perms.{perm_same, perm-trans, perm-widen, numbers-kept}
use Rattle.kdsort.specs.laws.Selects.{selected-ok}

-- ---- the sort by the shape's cases
pub sorted-leaf : (a most lo hi : ℕ) (s : IndexCols) → hi - lo ≤ most → sorted a lo hi (shape most lo hi) s ≡ s
unfolding sorted
sorted-leaf a most lo hi s h = rw (shape-leaf most lo hi h)

pub sorted-node : (a most lo hi : ℕ) (s : IndexCols) → most < hi - lo
    → sorted a lo hi (shape most lo hi) s
    ≡ sorted (1 - a) (mid lo hi + 1) hi (shape most (mid lo hi + 1) hi)
    (sorted (1 - a) lo (mid lo hi) (shape most lo (mid lo hi)) (selected a (mid lo hi) s lo (hi - 1)))
unfolding sorted
sorted-node a most lo hi s h = rw (shape-node most lo hi h)

-- ---- around the median after a selection
selected-around : (a k : ℕ) (s : IndexCols) (lo hi : ℕ) → a < 2 → 1 ≤ k → lo ≤ k → k < hi → hi ≤ length s.ids → 2 * hi ≤ length s.co
    → Numbers lo (hi - 1) s
    → Permuted lo (hi - 1) s (selected a k s lo (hi - 1)) × Around a k lo hi (selected a k s lo (hi - 1)).co
unfolding Numbers
selected-around a k s lo hi a2 k1 lk kh n m N =
    let C = selected-ok a k s lo (hi - 1) a2 k1 lk (omega arith) (omega arith) (omega arith) N in
    let M = numbers-kept lo (hi - 1) s (selected a k s lo (hi - 1)) C.perm N in (
      C.perm,
      record {
        left = λ p h u. not-above→le _ _ (M a p a2 h (omega arith)) (M a k a2 lk (omega arith)) (C.left p h u);
        right = λ p u h. not-above→le _ _ (M a k a2 lk (omega arith)) (M a p a2 (omega arith) (omega arith)) (C.right p u (omega arith));
      },
    )

-- ---- the tree's order goes by the coordinates of its interval alone
abbrev Alike : ℕ → ℕ → List Float → List Float → Type 0
Alike lo hi c c' = (a p : ℕ) → a < 2 → lo ≤ p → p < hi → key a c p ≡ key a c' p

around-alike : (a m lo hi : ℕ) (c c' : List Float) → a < 2 → lo ≤ m → m < hi → Alike lo hi c c' → Around a m lo hi c → Around a m lo hi c'
around-alike a m lo hi c c' a2 lm mh E A =
    record {
      left = λ p h u. subst T (ap (λ (x : Float). le x (key a c m)) (E a p a2 h (omega arith)) ∙ ap (le (key a c' p)) (E a m a2 lm mh))
          (A.left p h u);
      right = λ p u h. subst T (ap (λ (x : Float). le x (key a c p)) (E a m a2 lm mh) ∙ ap (le (key a c' m)) (E a p a2 (omega arith) h))
          (A.right p u h);
    }

kd-alike : (a lo hi : ℕ) (t : Shape) (c c' : List Float) → a < 2 → Spans lo hi t → Alike lo hi c c' → Kd c a lo hi t → Kd c' a lo hi t
unfolding Kd
kd-alike a lo hi _ c c' a2 all E k = tt
kd-alike a lo hi _ c c' a2 (both {m = m} {r = r} {l = l} lm mh R L) E k = (
  around-alike a m lo hi c c' a2 lm mh E k.0,
  kd-alike (1 - a) lo m l c c' (omega arith) L (λ b p b2 h u. E b p b2 h (omega arith)) k.1,
  kd-alike (1 - a) (m + 1) hi r c c' (omega arith) R (λ b p b2 h u. E b p b2 (omega arith) u) k.2,
)

pub record Built (a most lo hi : ℕ) (s S : IndexCols) : Type 0 where
  pub perm : Permuted lo (hi - 1) s S
  pub tree : Kd S.co a lo hi (shape most lo hi)

-- ---- a selection, then a tree on each side
module _ (a most lo hi m : ℕ) (s s1 s2 s3 : IndexCols) (a2 : a < 2) (lm : lo < m) (mh : m + 1 < hi) (P : Permuted lo (hi - 1) s s1)
    (A : Around a m lo hi s1.co)
    (L : Built (1 - a) most lo m s1 s2) (R : Built (1 - a) most (m + 1) hi s2 s3) where
  -- right of the left side nothing has moved, and left of the right side neither
  kept2 : (b p : ℕ) → b < 2 → m ≤ p → key b s2.co p ≡ key b s1.co p
  kept2 b p b2 h = L.perm.key_of b p b2 ∙ ap (key b s1.co) (L.perm.after p (omega arith))

  kept3 : (b p : ℕ) → b < 2 → p ≤ m → key b s3.co p ≡ key b s2.co p
  kept3 b p b2 h = R.perm.key_of b p b2 ∙ ap (key b s2.co) (R.perm.before p (omega arith))

  at-m : key a s3.co m ≡ key a s1.co m
  at-m = kept3 a m a2 (le_refl m) ∙ kept2 a m a2 (le_refl m)

  around3 : Around a m lo hi s3.co
  around3 =
      record {
        left = λ p h u.
            let w = L.perm.inside p h (omega arith) in
            let e : key a s3.co p ≡ key a s1.co (L.perm.from p) = kept3 a p a2 (omega arith) ∙ L.perm.key_of a p a2 in
            subst T (sym (ap (λ (x : Float). le x (key a s3.co m)) e ∙ ap (le (key a s1.co (L.perm.from p))) at-m))
            (A.left (L.perm.from p) w.0 (omega arith));
        right = λ p u h.
            let w = R.perm.inside p (omega arith) (omega arith) in
            let e : key a s3.co p ≡ key a s1.co (R.perm.from p) = R.perm.key_of a p a2
            ∙ kept2 a (R.perm.from p) a2 (omega arith) in
            subst T (sym (ap (λ (x : Float). le x (key a s3.co p)) at-m ∙ ap (le (key a s1.co m)) e))
            (A.right (R.perm.from p) (omega arith) (omega arith));
      }

  joined-perm : Permuted lo (hi - 1) s s3
  joined-perm =
      perm-trans lo (hi - 1) s s1 s3 P (perm-trans lo (hi - 1) s1 s2 s3
      (perm-widen lo (hi - 1) lo (m - 1) s1 s2 (le_refl lo) (omega arith) L.perm)
      (perm-widen lo (hi - 1) (m + 1) (hi - 1) s2 s3 (omega arith) (le_refl (hi - 1)) R.perm))

  joined-tree : Kd s3.co a lo hi (node m (shape most (m + 1) hi) (shape most lo m))
  unfolding Kd
  joined-tree = (
    around3,
    kd-alike (1 - a) lo m (shape most lo m) s2.co s3.co (omega arith) (spans most lo m)
        (λ b p b2 h u. sym (kept3 b p b2 (omega arith))) L.tree,
    R.tree,
  )

part-numbers : (l r l' r' : ℕ) (s : IndexCols) → l ≤ l' → r' ≤ r → Numbers l r s → Numbers l' r' s
unfolding Numbers
part-numbers l r l' r' s hl hr N a p a2 h k = N a p a2 (le_trans hl h) (le_trans k hr)

leaf-built : (a most lo hi : ℕ) (s : IndexCols) → hi - lo ≤ most → Built a most lo hi s (sorted a lo hi (shape most lo hi) s)
unfolding Kd
leaf-built a most lo hi s h =
    subst (Built a most lo hi s) (sym (sorted-leaf a most lo hi s h))
    (record { perm = perm_same lo (hi - 1) s; tree = subst (Kd s.co a lo hi) (sym (shape-leaf most lo hi h)) tt })

-- the sort of every interval of at most f slots comes to its tree
Sorts : ℕ → ℕ → Type 0
Sorts f most = (a lo hi : ℕ) (s : IndexCols) → hi - lo ≤ f → a < 2 → hi ≤ length s.ids → 2 * hi ≤ length s.co → Numbers lo (hi - 1) s
    → Built a most lo hi s (sorted a lo hi (shape most lo hi) s)

node-built : (f most : ℕ) → 2 ≤ most → Sorts f most → (a lo hi : ℕ) (s : IndexCols) → hi - lo ≤ suc f → a < 2 → hi ≤ length s.ids
    → 2 * hi ≤ length s.co → Numbers lo (hi - 1) s
    → most < hi - lo → Built a most lo hi s (sorted a lo hi (shape most lo hi) s)
unfolding Sorts
node-built f most m2 sorts a lo hi s fu a2 n m N d =
    let s1 = selected a (mid lo hi) s lo (hi - 1) in
    let W = selected-around a (mid lo hi) s lo hi a2 (omega arith) (omega arith) (omega arith) n m N in
    let i1 = W.0.ids-long in
    let c1 = W.0.co-long in
    let N1 = numbers-kept lo (hi - 1) s s1 W.0 N in
    let s2 = sorted (1 - a) lo (mid lo hi) (shape most lo (mid lo hi)) s1 in
    let L : Built (1 - a) most lo (mid lo hi) s1 s2 = sorts (1 - a) lo (mid lo hi) s1 (omega arith) (omega arith) (omega arith)
    (omega arith) (part-numbers lo (hi - 1) lo (mid lo hi - 1) s1 (le_refl lo) (omega arith) N1) in
    let i2 = L.perm.ids-long in
    let c2 = L.perm.co-long in
    let N2 = numbers-kept lo (hi - 1) s1 s2 (perm-widen lo (hi - 1) lo (mid lo hi - 1) s1 s2 (le_refl lo) (omega arith) L.perm) N1 in
    let s3 = sorted (1 - a) (mid lo hi + 1) hi (shape most (mid lo hi + 1) hi) s2 in
    let R : Built (1 - a) most (mid lo hi + 1) hi s2 s3 = sorts (1 - a) (mid lo hi + 1) hi s2 (omega arith) (omega arith) (omega arith)
    (omega arith) (part-numbers lo (hi - 1) (mid lo hi + 1) (hi - 1) s2 (omega arith) (le_refl (hi - 1)) N2) in
    subst (Built a most lo hi s) (sym (sorted-node a most lo hi s d))
    (record {
      perm = joined-perm a most lo hi (mid lo hi) s s1 s2 s3 a2 (omega arith) (omega arith) W.0 W.1 L R;
      tree = subst (Kd s3.co a lo hi) (sym (shape-node most lo hi d))
          (joined-tree a most lo hi (mid lo hi) s s1 s2 s3 a2 (omega arith) (omega arith) W.0 W.1 L R);
    })

sorts : (f most : ℕ) → 2 ≤ most → Sorts f most
unfolding Sorts
sorts zero most m2 a lo hi s fu a2 n m N = leaf-built a most lo hi s (omega arith)
sorts (suc f) most m2 a lo hi s fu a2 n m N = go (leb (hi - lo) most) refl (node-built f most m2 (sorts f most m2) a lo hi s fu a2 n m N)
  where
    go : (b : Bool) → leb (hi - lo) most ≡ b → (most < hi - lo → Built a most lo hi s (sorted a lo hi (shape most lo hi) s))
        → Built a most lo hi s (sorted a lo hi (shape most lo hi) s)
    go true e k = leaf-built a most lo hi s (leb-true (hi - lo) most e)
    go false e k = k (leb-false (hi - lo) most e)

-- of columns with no NaN from lo up to hi, the sort
pub sorted-ok : (a most lo hi : ℕ) (s : IndexCols) → a < 2 → 2 ≤ most → hi ≤ length s.ids → 2 * hi ≤ length s.co
    → Numbers lo (hi - 1) s
    → Built a most lo hi s (sorted a lo hi (shape most lo hi) s)
unfolding Sorts
sorted-ok a most lo hi s a2 m2 n m N = sorts (hi - lo) most m2 a lo hi s (le_refl (hi - lo)) a2 n m N
