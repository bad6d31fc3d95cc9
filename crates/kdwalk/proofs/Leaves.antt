-- The leaf that a slot stands in: where it ends, by where the slot stands, and that what the rest of it answers is what is answered after
-- the slot. Assumes nothing.
use mathlib.Core.Path.{◌≡◌, refl, sym, ◌∙◌}
use mathlib.Core.Bool.{Bool, true, false}
use Prim.Native.Nat.{ℕ, ◌+◌, ◌-◌, ◌≤◌, ◌<◌}
use native.Mathlib.Omega.{arith}
use borrow.Author.Tests.{lt-ltb, le-ltb, eq-eqb, ne_eqb, ltb-false, eqb-false}
use lib.Dec.{ltb, eqb}
use Rattle.kdsort.specs.Shape.{Shape, leaf, node, shape, mid}
use Rattle.kdsort.specs.laws.Shape.{Spans, all, both, shape-leaf, shape-node}
use Rattle.std.specs.Prelude.{Some, None}
use Rattle.kdslots.specs.Slots.{Search, when, scanned, slots}
use Rattle.kdwalk.specs.laws.Cursor.{head_of, leaf_end}
use Rattle.kdwalk.specs.Cursor.{rest}
use Rattle.kdwalk.proofs.Firsts.{picks, none}

-- ---- where it ends

module _ (most lo hi : ℕ) (h : most < hi - lo) where
  pub end-median : (c : ℕ) → c ≡ mid lo hi → leaf_end (shape most lo hi) c ≡ c + 1
  unfolding leaf_end
  end-median c e = rw (shape-node most lo hi h, eq-eqb c (mid lo hi) e, leaf_end)

  pub end-right : (c : ℕ) → mid lo hi < c → leaf_end (shape most lo hi) c ≡ leaf_end (shape most (mid lo hi + 1) hi) c
  unfolding leaf_end
  end-right c l = rw (shape-node most lo hi h, ne_eqb c (mid lo hi) (λ e. omega arith), lt-ltb (mid lo hi) c l, leaf_end)

  pub end-left : (c : ℕ) → c < mid lo hi → leaf_end (shape most lo hi) c ≡ leaf_end (shape most lo (mid lo hi)) c
  unfolding leaf_end
  end-left c l = rw (shape-node most lo hi h, ne_eqb c (mid lo hi) (λ e. omega arith), le-ltb (mid lo hi) c (omega arith), leaf_end)

pub end-leaf : (most lo hi c : ℕ) → hi - lo ≤ most → leaf_end (shape most lo hi) c ≡ hi
unfolding leaf_end
end-leaf most lo hi c h = rw (shape-leaf most lo hi h)

-- ---- what is answered there

-- the rest of the leaf comes first of what is answered after the slot
pub leaf_first : (s : Search) (ax : ℕ) (t : Shape) (c i : ℕ) → Some i ≡ head_of (scanned s (c + 1) (leaf_end t c - (c + 1)))
    → Some i ≡ head_of (rest s ax t c)
unfolding leaf_end rest
leaf_first s ax (leaf lo hi) c i e = e
leaf_first s ax (node m r l) c i e = go (eqb c m) (ltb m c) refl refl (leaf_first s (1 - ax) r c i) (leaf_first s (1 - ax) l c i)
  where
    go : (b d : Bool) → eqb c m ≡ b → ltb m c ≡ d
        → (Some i ≡ head_of (scanned s (c + 1) (leaf_end r c - (c + 1))) → Some i ≡ head_of (rest s (1 - ax) r c))
        → (Some i ≡ head_of (scanned s (c + 1) (leaf_end l c - (c + 1))) → Some i ≡ head_of (rest s (1 - ax) l c))
        → Some i ≡ head_of (rest s ax (node m r l) c)
    go true d p q right left =
        let f : Some i ≡ head_of (scanned s (c + 1) (c + 1 - (c + 1))) = rw (p, leaf_end) at e in
        let g : None ≡ Some i = none s (c + 1) (c + 1) (omega arith) ∙ sym f in
        absurd (let z : ◌≡◌ {A = ℕ} 0 1 = cc in omega arith)
    go false true p q right left = rw (p, q, rest)
        (picks (rest s (1 - ax) r c) (when (s.left ax m) (slots s (1 - ax) l)) i (right (rw (p, q, leaf_end) at e)))
    go false false p q right left = rw (p, q, rest) (left (rw (p, q, leaf_end) at e))

-- ---- it ends within the slots that the shape covers
pub end-within : (lo hi : ℕ) (t : Shape) → Spans lo hi t → (c : ℕ) → c < hi → leaf_end t c ≤ hi
unfolding leaf_end
end-within lo hi _ all c h = omega arith
end-within lo hi _ (both {m = m} {r = r} {l = l} a b R L) c h = go (eqb c m) (ltb m c) refl refl (end-within (m + 1) hi r R c h)
    (λ k. end-within lo m l L c k)
  where
    go : (x y : Bool) → eqb c m ≡ x → ltb m c ≡ y → leaf_end r c ≤ hi → (c < m → leaf_end l c ≤ m) → leaf_end (node m r l) c ≤ hi
    go true y p q right left = rw (p, leaf_end) (omega arith)
    go false true p q right left = rw (p, q, leaf_end) right
    go false false p q right left =
        let ne = eqb-false c m p in
        let le = ltb-false m c q in
        let k = left (omega (arith, ne, le)) in
        rw (p, q, leaf_end) (omega (arith, k))
