-- Over an index in the order of the tree every search answers just the slots that pass, each box and each ring: it is a filter of one
-- order of all slots, which no query changes. And where a median passes, both its sides are gone into. These laws rest on those of
-- specs/laws/Reaches, and stand here so that a wrong definition of what is skipped is refused at those. Assumes nothing.
use Rattle.std.specs.Prelude.{◌≡◌, true, List, ℕ, zero, suc, ◌+◌, ◌-◌, ◌<◌, not, T, Float}
use Rattle.std.proofs.Common.{sym, subst, arith}
use Rattle.std.specs.Float.{binary64}
use Rattle.std.specs.Float.Ieee.{is_nan, le, mul}
use Rattle.floats.specs.laws.Fraction.{yes_of}
use Rattle.floats.specs.laws.Order.{le-reflexive, le-right-number}
use Rattle.floats.specs.laws.Skip.{x-number, y-number}
use Rattle.kdsort.specs.Cols.{key}
use Rattle.kdsort.specs.Shape.{Shape, leaf, node, shape}
use Rattle.kdsort.specs.laws.Shape.{spans}
use Rattle.kdsort.specs.Tree.{Kd}
use Rattle.kdslots.specs.declared.Query.{Query}
use Rattle.kdslots.specs.declared.Query.TheVariants.{Range, Within}
use Rattle.kdslots.specs.Query.{passes_q, on_axis, goes_left, goes_right}
use Rattle.kdslots.specs.Slots.{over, answers}
use Rattle.kdslots.specs.Keep.{keep}
use Rattle.kdslots.specs.laws.Members.{In}
use Rattle.kdslots.specs.laws.Keep.{keep-passing}
use Rattle.kdslots.specs.laws.Order.{order, order-all}
use Rattle.kdslots.specs.laws.Reaches.{in-box, on-axis, reaches-left, reaches-right}
use Rattle.kdslots.specs.laws.Complete.{Fair, filtered, Ordered, passes_at}

-- ---- the median

passes-number : (x y : Float) (q : Query) (ax : ℕ) → ax < 2 → passes_q q x y ≡ true → T (not (is_nan (on_axis ax x y)))
passes-number x y (Range a b c d) zero h e = le-right-number a x (in-box a b c d x y e).west
passes-number x y (Range a b c d) (suc zero) h e = le-right-number b y (in-box a b c d x y e).low
passes-number x y (Range a b c d) (suc (suc k)) h e = absurd (omega arith)
passes-number x y (Within qx qy r) zero h e = x-number x y qx qy (mul binary64 r r) (yes_of e)
passes-number x y (Within qx qy r) (suc zero) h e = y-number x y qx qy (mul binary64 r r) (yes_of e)
passes-number x y (Within qx qy r) (suc (suc k)) h e = absurd (omega arith)

-- where a median passes, both its sides are gone into
pub median-reached : (x y : Float) (q : Query) (ax : ℕ) → ax < 2 → passes_q q x y ≡ true → (goes_right q ax (on_axis ax x y) ≡ true)
    × (goes_left q ax (on_axis ax x y) ≡ true)
median-reached x y q ax h e =
    let v = on_axis ax x y in
    let o = le-reflexive (on_axis ax x y) (passes-number x y q ax h e) in
    (reaches-right x y v q ax h o e, reaches-left x y v q ax h o e)

-- ---- the order of the tree

-- a search over an index in the order of the tree skips no slot that passes
pub kd-fair : (q : Query) (cs : List Float) (ax lo hi : ℕ) (t : Shape) → ax < 2 → Kd cs ax lo hi t → Fair (over q cs) ax lo hi t
unfolding Fair Kd
kd-fair q cs ax lo hi (leaf a b) h k = tt
kd-fair q cs ax lo hi (node m r l) h k = (
  (λ i a b p. reaches-right (key 0 cs i) (key 1 cs i) (key ax cs m) q ax h
      (subst (λ (z : Float). T (le (key ax cs m) z)) (sym (on-axis cs i ax h)) (k.0.right i a b)) p),
  (λ i a b p. reaches-left (key 0 cs i) (key 1 cs i) (key ax cs m) q ax h
      (subst (λ (z : Float). T (le z (key ax cs m))) (sym (on-axis cs i ax h)) (k.0.left i a b)) p),
  kd-fair q cs (1 - ax) (m + 1) hi r (omega arith) k.2,
  kd-fair q cs (1 - ax) lo m l (omega arith) k.1,
)

-- the one law of both searches: those slots of the tree's order that pass, and in that order
pub answers-kept : (q : Query) (cs : List Float) (size n : ℕ) → Ordered cs size n
    → answers q cs size n ≡ keep (passes_at q cs) (order size n)
answers-kept q cs size n k = filtered (over q cs) 0 0 n (shape (size + 1) 0 n) (spans (size + 1) 0 n) (omega arith)
    (kd-fair q cs 0 0 n (shape (size + 1) 0 n) (omega arith) k)

-- each slot that passes is answered
pub answers-complete : (q : Query) (cs : List Float) (size n : ℕ) → Ordered cs size n → (i : ℕ) → i < n → passes_at q cs i ≡ true
    → In i (answers q cs size n)
answers-complete q cs size n k i h p =
    subst (In i) (sym (answers-kept q cs size n k)) (keep-passing (passes_at q cs) i (order size n) (order-all size n i h) p)
