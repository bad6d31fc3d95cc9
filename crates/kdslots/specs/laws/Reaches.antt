-- No search skips a part that has a slot which passes, where the part is in order around its median. For every query, whatever its numbers
-- are. Assumes nothing.
use Rattle.std.specs.Prelude.{◌≡◌, refl, Bool, true, false, ◌&&◌, not, List, ℕ, zero, suc, ◌<◌, T, Float}
use Rattle.std.proofs.Common.{arith}
use Rattle.std.specs.Float.{binary64}
use Rattle.std.specs.Float.Ieee.{le, lt, mul}
use Rattle.floats.specs.laws.Fraction.{yes_of, is_true}
use Rattle.floats.specs.laws.Order.{le-le-trans}
use Rattle.kdsort.specs.Cols.{key}
use Rattle.kdslots.specs.declared.Query.{Query}
use Rattle.kdslots.specs.declared.Query.TheVariants.{Range, Within}
use Rattle.kdslots.specs.Query.{passes_q, on_axis, too_far, goes_left, goes_right}
use Rattle.kdslots.specs.laws.Bounds.{and_both}
use Rattle.floats.specs.laws.Skip.{left-x-fails, left-y-fails, right-x-fails, right-y-fails}

-- a point in a box, edge by edge
pub record InBox (a b c d x y : Float) : Type 0 where
  pub west : T (le a x)
  pub east : T (le x c)
  pub low : T (le b y)
  pub high : T (le y d)

pub in-box : (a b c d x y : Float) → passes_q (Range a b c d) x y ≡ true → InBox a b c d x y
in-box a b c d x y e =
    let w = and_both (le a x && le x c && le b y) (le y d) e in
    let v = and_both (le a x && le x c) (le b y) w.0 in
    let u = and_both (le a x) (le x c) v.0 in
    record { west = yes_of u.0; east = yes_of u.1; low = yes_of v.1; high = yes_of w.1 }

-- of the two coordinates of a slot, the one on the axis
pub on-axis : (cs : List Float) (i ax : ℕ) → ax < 2 → on_axis ax (key 0 cs i) (key 1 cs i) ≡ key ax cs i
on-axis cs i zero h = refl
on-axis cs i (suc zero) h = refl
on-axis cs i (suc (suc k)) h = absurd (omega arith)

goes : (a b : Bool) → (T a → T b → ⊥) → not (a && b) ≡ true
goes true true f = absurd (f tt tt)
goes true false f = refl
goes false b f = refl

module _ (x y v : Float) where
  -- a point left of the split coordinate, or on it
  pub reaches-left : (q : Query) (ax : ℕ) → ax < 2 → T (le (on_axis ax x y) v) → passes_q q x y ≡ true → goes_left q ax v ≡ true
  reaches-left (Range a b c d) zero h l e = is_true _ (le-le-trans a x v (in-box a b c d x y e).west l)
  reaches-left (Range a b c d) (suc zero) h l e = is_true _ (le-le-trans b y v (in-box a b c d x y e).low l)
  reaches-left (Range a b c d) (suc (suc k)) h l e = absurd (omega arith)
  reaches-left (Within qx qy r) zero h l e =
      goes (lt v qx) (too_far v qx r) (λ k j. left-x-fails x y v qx qy (mul binary64 r r) l k j (yes_of e))
  reaches-left (Within qx qy r) (suc zero) h l e =
      goes (lt v qy) (too_far v qy r) (λ k j. left-y-fails x y v qx qy (mul binary64 r r) l k j (yes_of e))
  reaches-left (Within qx qy r) (suc (suc k)) h l e = absurd (omega arith)

  -- a point right of it, or on it
  pub reaches-right : (q : Query) (ax : ℕ) → ax < 2 → T (le v (on_axis ax x y)) → passes_q q x y ≡ true → goes_right q ax v ≡ true
  reaches-right (Range a b c d) zero h l e = is_true _ (le-le-trans v x c l (in-box a b c d x y e).east)
  reaches-right (Range a b c d) (suc zero) h l e = is_true _ (le-le-trans v y d l (in-box a b c d x y e).high)
  reaches-right (Range a b c d) (suc (suc k)) h l e = absurd (omega arith)
  reaches-right (Within qx qy r) zero h l e =
      goes (lt qx v) (too_far v qx r) (λ k j. right-x-fails x y v qx qy (mul binary64 r r) l k j (yes_of e))
  reaches-right (Within qx qy r) (suc zero) h l e =
      goes (lt qy v) (too_far v qy r) (λ k j. right-y-fails x y v qx qy (mul binary64 r r) l k j (yes_of e))
  reaches-right (Within qx qy r) (suc (suc k)) h l e = absurd (omega arith)
