-- The common part of two boxes: a point passes its test, with the corners normalised, just where it passes the tests of both; and no point
-- passes the test of a box that is empty after normalising. The corners are picked before they are normalised, so that this rests on
-- (v - offset) / scale never falling as v grows. It asks of the range a finite offset and a scale above 0, which SCOPE's bounds give.
-- Assumes nothing.
use Rattle.std.specs.Prelude.{Bool, true, false, ◌&&◌, not, cond, ◌≡◌, refl, zero, suc, T, Float}
use Rattle.std.proofs.Common.{sym, ap, ◌∙◌, inl, inr, arith, lt-ltb}
use Rattle.std.specs.Float.{nan, inf, fin, binary64}
use Rattle.std.specs.Float.Ieee.{is_nan, le, lt, sub, div}
use Rattle.std.specs.Float.Ieee.Scale.{finite}
use Rattle.std.specs.Float.Ieee.Positive.{positive}
use Rattle.floats.specs.Numbers.{zero as fzero}
use Rattle.floats.specs.laws.Fraction.{yes_of, no_of, is_true, lt→cross}
use Rattle.floats.specs.laws.Order.{le-le-trans, le-reflexive, lt→le, lt_not_le, not-lt→le, finite-not-nan}
use Rattle.floats.specs.laws.Monotone.{sub-mono, div_mono}
use Rattle.range.specs.declared.DataRange.{DataRange}
use Rattle.range.specs.Range.{smaller_of, larger_of, normalized, offset_of, scale_of, in_bounds}
use Rattle.kdslots.specs.declared.Query.{Query}
use Rattle.kdslots.specs.declared.Query.TheVariants.{Range}
use Rattle.kdslots.specs.laws.Bounds.{and_both}
use Rattle.kdslots.specs.Query.{passes_q}
use Rattle.law_overlap.specs.BoxesInsideBoxes.{Box, common, FairCorners, Taken, Empty}

-- the search of a box: its corners, normalised
abbrev pub boxed : DataRange → Box → Query
boxed d a = Range (normalized d a.west) (normalized d a.least) (normalized d a.east) (normalized d a.greatest)

-- ---- tests

and_second : (p q : Bool) → (q ≡ true → p ≡ true) → q ≡ (p && q)
and_second p true f = rw (f refl)
and_second true false f = refl
and_second false false f = refl

and_first : (p q : Bool) → (p ≡ true → q ≡ true) → p ≡ (p && q)
and_first true q f = sym (f refl)
and_first false q f = refl

and-turn : (p q r s : Bool) → ((p && q) && (r && s)) ≡ ((p && r) && (q && s))
and-turn true true r s = refl
and-turn true false true s = refl
and-turn true false false s = refl
and-turn false q true s = refl
and-turn false q false s = refl

-- ---- a range within SCOPE's bounds

above_zero : (x : Float) → T (finite x) → T (lt fzero x) → T (positive x)
above_zero nan f h = absurd f
above_zero (inf s) f h = absurd f
above_zero (fin true m e) f h = let c = lt→cross fzero (fin true m e) tt tt h in absurd (omega arith)
above_zero (fin false zero e) f h = let c = lt→cross fzero (fin false zero e) tt tt h in absurd (omega arith)
above_zero (fin false (suc m) e) f h = yes_of (lt-ltb 0 (suc m) (omega arith))

-- what is asked of a range
pub record Rising (d : DataRange) : Type 0 where
  pub offset : T (finite (offset_of d))
  pub scale : T (positive (scale_of d))

pub rising : (d : DataRange) → in_bounds d ≡ true → Rising d
unfolding in_bounds
rising d e =
    let four = (finite d.min_x && finite d.min_y) && (finite d.max_x && finite d.max_y) in
    let both = finite (offset_of d) && finite (scale_of d) in
    let w = and_both four (both && lt fzero (scale_of d)) e in
    let v = and_both both (lt fzero (scale_of d)) w.1 in
    let u = and_both (finite (offset_of d)) (finite (scale_of d)) v.0 in
    record { offset = yes_of u.0; scale = above_zero (scale_of d) (yes_of u.1) (yes_of v.1) }

-- a quotient is finite only of a finite number
quotient-of : (x y : Float) → T (finite (div binary64 x y)) → T (finite x)
quotient-of nan y h = absurd (unfold div in h)
quotient-of (inf s) nan h = absurd (unfold div in h)
quotient-of (inf s) (inf t) h = absurd (unfold div in h)
quotient-of (inf s) (fin t m e) h = absurd (unfold div in h)
quotient-of (fin s m e) y h = tt

-- the normalised number never falls as the number grows
pub normalized-mono : (d : DataRange) → Rising d → (u v : Float) → FairCorners d u → FairCorners d v → T (le u v)
    → T (le (normalized d u) (normalized d v))
unfolding normalized
normalized-mono d r u v k l h =
    let o = offset_of d in
    let a = sub binary64 u (offset_of d) in
    let b = sub binary64 v (offset_of d) in
    div_mono binary64 a b (scale_of d) (quotient-of a (scale_of d) k.1) (quotient-of b (scale_of d) l.1) r.scale
    (sub-mono binary64 u v o o k.0 l.0 r.offset r.offset h (le-reflexive o (finite-not-nan o r.offset)))

-- ---- the larger and the smaller of two numbers, where g does not change their order

module _ (g : Float → Float) (a b : Float) (na : T (not (is_nan a))) (nb : T (not (is_nan b)))
    (up : T (le a b) → T (le (g a) (g b))) (down : T (le b a) → T (le (g b) (g a))) (x : Float) where
  larger-le : le (g (larger_of a b)) x ≡ (le (g a) x && le (g b) x)
  larger-le = go (is_nan a) refl (lt a b) refl
    where
      go : (m : Bool) → is_nan a ≡ m → (l : Bool) → lt a b ≡ l → le (g (larger_of a b)) x ≡ (le (g a) x && le (g b) x)
      go true i l f = absurd (rw i at na)
      go false i true f =
          let k = up (lt→le a b (yes_of f)) in
          rw (i, f) (and_second (le (g a) x) (le (g b) x) (λ h. is_true _ (le-le-trans (g a) (g b) x k (yes_of h))))
      go false i false f =
          let k = down (not-lt→le a b na nb (no_of f)) in
          rw (i, f) (and_first (le (g a) x) (le (g b) x) (λ h. is_true _ (le-le-trans (g b) (g a) x k (yes_of h))))

  le-smaller : le x (g (smaller_of a b)) ≡ (le x (g a) && le x (g b))
  le-smaller = go (is_nan a) refl (lt b a) refl
    where
      go : (m : Bool) → is_nan a ≡ m → (l : Bool) → lt b a ≡ l → le x (g (smaller_of a b)) ≡ (le x (g a) && le x (g b))
      go true i l f = absurd (rw i at na)
      go false i true f =
          let k = down (lt→le b a (yes_of f)) in
          rw (i, f) (and_second (le x (g a)) (le x (g b)) (λ h. is_true _ (le-le-trans x (g b) (g a) (yes_of h) k)))
      go false i false f =
          let k = up (not-lt→le b a nb na (no_of f)) in
          rw (i, f) (and_first (le x (g a)) (le x (g b)) (λ h. is_true _ (le-le-trans x (g a) (g b) (yes_of h) k)))

-- ---- the common part

-- it is a box that is spoken of where both are: each of its numbers is one of theirs
pub common-taken : (d : DataRange) (a b : Box) → Taken d a → Taken d b → Taken d (common a b)
common-taken d a b p q =
    record {
      west = larger a.west b.west p.west q.west;
      least = larger a.least b.least p.least q.least;
      east = smaller a.east b.east p.east q.east;
      greatest = smaller a.greatest b.greatest p.greatest q.greatest;
    }
  where
    either : (t : Bool) (u v : Float) → FairCorners d u → FairCorners d v → FairCorners d (cond t u v)
    either true u v k l = k
    either false u v k l = l

    larger : (u v : Float) → FairCorners d u → FairCorners d v → FairCorners d (larger_of u v)
    larger u v k l = either (is_nan u) v (cond (lt u v) v u) l (either (lt u v) v u l k)

    smaller : (u v : Float) → FairCorners d u → FairCorners d v → FairCorners d (smaller_of u v)
    smaller u v k l = either (is_nan u) v (cond (lt v u) v u) l (either (lt v u) v u l k)

module _ (d : DataRange) (r : Rising d) (a b : Box) (p : Taken d a) (q : Taken d b) where
  abbrev g : Float → Float
  g = normalized d

  larger-is : (u v : Float) → FairCorners d u → FairCorners d v → (x : Float) → le (g (larger_of u v)) x ≡ (le (g u) x && le (g v) x)
  larger-is u v k l x =
      larger-le (normalized d) u v (finite-not-nan u k.0) (finite-not-nan v l.0)
      (normalized-mono d r u v k l) (normalized-mono d r v u l k) x

  smaller-is : (u v : Float) → FairCorners d u → FairCorners d v → (x : Float) → le x (g (smaller_of u v)) ≡ (le x (g u) && le x (g v))
  smaller-is u v k l x =
      le-smaller (normalized d) u v (finite-not-nan u k.0) (finite-not-nan v l.0)
      (normalized-mono d r u v k l) (normalized-mono d r v u l k) x

  -- a point passes the common part just where it passes both
  pub common-passes : (x y : Float) → passes_q (boxed d (common a b)) x y ≡ (passes_q (boxed d a) x y && passes_q (boxed d b) x y)
  common-passes x y =
      let A = le (g a.west) x in
      let B = le (g b.west) x in
      let C = le x (g a.east) in
      let D = le x (g b.east) in
      let E = le (g a.least) y in
      let F = le (g b.least) y in
      let G = le y (g a.greatest) in
      let H = le y (g b.greatest) in
      four (larger-is a.west b.west p.west q.west x) (smaller-is a.east b.east p.east q.east x)
      (larger-is a.least b.least p.least q.least y) (smaller-is a.greatest b.greatest p.greatest q.greatest y)
      ∙ ap (λ (z : Bool). z && (G && H)) (ap (λ (z : Bool). z && (E && F)) (and-turn A B C D) ∙ and-turn (A && C) (B && D) E F)
      ∙ and-turn (A && C && E) (B && D && F) G H
    where
      four : {i j k l i' j' k' l' : Bool} → i ≡ i' → j ≡ j' → k ≡ k' → l ≡ l' → (i && j && k && l) ≡ (i' && j' && k' && l')
      four e f g h = rw (e, f, g, h)

-- ---- a box that is empty after normalising

empty-x : (a b c d x y : Float) → T (lt c a) → passes_q (Range a b c d) x y ≡ false
empty-x a b c d x y h = go (le a x) refl (le x c) refl
  where
    go : (u : Bool) → le a x ≡ u → (v : Bool) → le x c ≡ v → passes_q (Range a b c d) x y ≡ false
    go true e true f = absurd (lt_not_le c a h (le-le-trans a x c (yes_of e) (yes_of f)))
    go true e false f = rw (e, f)
    go false e v f = rw e

empty-y : (a b c d x y : Float) → T (lt d b) → passes_q (Range a b c d) x y ≡ false
empty-y a b c d x y h = go (le a x && le x c) (le b y) refl (le y d) refl
  where
    go : (p : Bool) (u : Bool) → le b y ≡ u → (v : Bool) → le y d ≡ v → (p && u && v) ≡ false
    go p true e true f = absurd (lt_not_le d b h (le-le-trans b y d (yes_of e) (yes_of f)))
    go true true e false f = refl
    go false true e false f = refl
    go true false e v f = refl
    go false false e v f = refl

-- no point passes it
pub empty-passes : (d : DataRange) (a : Box) → Empty d a → (x y : Float) → passes_q (boxed d a) x y ≡ false
empty-passes d a (inl h) x y = empty-x _ _ _ _ x y h
empty-passes d a (inr h) x y = empty-y _ _ _ _ x y h
