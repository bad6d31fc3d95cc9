-- An interval of at most `most` slots is a leaf and a longer one a node; a shape covers the slots of its interval, each once (`Spans`).
-- Assumes nothing.
use Rattle.std.specs.Prelude.{Bool, true, false, ◌≡◌, refl, ℕ, zero, suc, ◌+◌, ◌-◌, ◌≤◌, ◌<◌, leb}
use Rattle.std.proofs.Common.{arith, le-leb, leb-false}
use Rattle.std.proofs.lemmas.Bool.{lt-leb}
use Rattle.kdsort.specs.Shape.{Shape, leaf, node, mid, split, shape}

-- a depth of hi - lo or more is enough
enough : (most f g lo hi : ℕ) → hi - lo ≤ f → hi - lo ≤ g → split most f lo hi ≡ split most g lo hi
unfolding split
enough most zero zero lo hi p q = refl
enough most zero (suc g) lo hi p q = rw (le-leb (hi - lo) most (omega arith), split)
enough most (suc f) zero lo hi p q = rw (le-leb (hi - lo) most (omega arith), split)
enough most (suc f) (suc g) lo hi p q = go (leb (hi - lo) most) refl
    (λ h. enough most f g (mid lo hi + 1) hi (omega arith) (omega arith))
    (λ h. enough most f g lo (mid lo hi) (omega arith) (omega arith))
  where
    go : (b : Bool) → leb (hi - lo) most ≡ b → (most < hi - lo → split most f (mid lo hi + 1) hi ≡ split most g (mid lo hi + 1) hi)
        → (most < hi - lo → split most f lo (mid lo hi) ≡ split most g lo (mid lo hi))
        → split most (suc f) lo hi ≡ split most (suc g) lo hi
    go true e r l = rw (e, split)
    go false e r l = rw (e, split, r (leb-false (hi - lo) most e), l (leb-false (hi - lo) most e))

pub shape-leaf : (most lo hi : ℕ) → hi - lo ≤ most → shape most lo hi ≡ leaf lo hi
unfolding shape split
shape-leaf most lo hi h = go (hi - lo) refl
  where
    go : (f : ℕ) → hi - lo ≡ f → split most f lo hi ≡ leaf lo hi
    go zero e = refl
    go (suc f) e = rw (le-leb (hi - lo) most h, split)

pub shape-node : (most lo hi : ℕ) → most < hi - lo
    → shape most lo hi ≡ node (mid lo hi) (shape most (mid lo hi + 1) hi) (shape most lo (mid lo hi))
unfolding shape split
shape-node most lo hi h = go (hi - lo) refl
  where
    go : (f : ℕ) → hi - lo ≡ f → split most f lo hi ≡ node (mid lo hi) (shape most (mid lo hi + 1) hi) (shape most lo (mid lo hi))
    go zero e = absurd (omega arith)
    go (suc f) e = rw (
      lt-leb (hi - lo) most h,
      split,
      enough most f (hi - (mid lo hi + 1)) (mid lo hi + 1) hi (omega arith) (omega arith),
      enough most f (mid lo hi - lo) lo (mid lo hi) (omega arith) (omega arith),
    )

-- a shape that covers the slots from lo up to hi, each once: what the later proofs go by
pub data Spans : ℕ → ℕ → Shape → Type 0 where
  all : {lo hi : ℕ} → Spans lo hi (leaf lo hi)
  both : {lo hi m : ℕ} {r l : Shape} → lo ≤ m → m < hi → Spans (m + 1) hi r → Spans lo m l → Spans lo hi (node m r l)

split-spans : (most f lo hi : ℕ) → Spans lo hi (split most f lo hi)
unfolding split
split-spans most zero lo hi = all
split-spans most (suc f) lo hi = go (leb (hi - lo) most) refl (split-spans most f (mid lo hi + 1) hi) (split-spans most f lo (mid lo hi))
  where
    go : (b : Bool) → leb (hi - lo) most ≡ b → Spans (mid lo hi + 1) hi (split most f (mid lo hi + 1) hi)
        → Spans lo (mid lo hi) (split most f lo (mid lo hi))
        → Spans lo hi (split most (suc f) lo hi)
    go true e r l = rw (e, split) all
    go false e r l =
        let h : most < hi - lo = leb-false (hi - lo) most e in
        rw (e, split) (both {lo = lo} {hi = hi} {m = mid lo hi} (omega arith) (omega arith) r l)

pub spans : (most lo hi : ℕ) → Spans lo hi (shape most lo hi)
unfolding shape
spans most lo hi = split-spans most (hi - lo) lo hi
