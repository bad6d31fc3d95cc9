-- Where the rounded square of a rounded difference on one axis exceeds a bound, so does the rounded squared distance of what lies as far
-- or further on that axis, whatever the other axis is, for any query, infinities and NaN too. By this a search around a place skips a
-- part. Assumes nothing.
use Rattle.std.specs.Prelude.{◌≡◌, ℕ, ◌*◌, Bool, true, false, not, T, nat_lt, Float}
use Rattle.std.proofs.Math.Path.{refl}
use Rattle.std.proofs.Common.{sym, ap, ◌∙◌, subst, add_comm, mul_comm, arith, ltb-true, ltb-false}
use Rattle.std.specs.Float.{Format, nan, inf, fin}
use Rattle.std.specs.Float.Ieee.{binary64, le, lt, neg, sum, round, up, down, add, sub, mul, fits, is_nan}
use Rattle.std.specs.Float.Ieee.Fits.{mul-fits}
use Rattle.std.specs.Float.Ieee.Scale.{finite}
use Rattle.floats.specs.Numbers.{zero}
use Rattle.floats.specs.laws.Order.{le-le-trans, lt→le, lt_not_le, lt-le-trans, le_lt_trans, le-plus-inf, le-left-number}
use Rattle.floats.specs.laws.Order.{le-right-number, finite-not-nan, plus-inf-le}
use Rattle.floats.specs.laws.Rounding.{neg-le}
use Rattle.floats.specs.laws.Monotone.{mul-mono-both}
use Rattle.floats.specs.laws.Exact.{sub_self}
use Rattle.floats.specs.laws.Edges.{le-add}
use Rattle.floats.specs.laws.Infinities.{square_above, sub-not-nan, sub-mono-any}
use Rattle.floats.specs.Distance.{sq_dist}

-- ---- sums

apart-sum : (f : Format) (s t : Bool) (a b c : ℕ) → sum f s a t b c ≡ sum f t b s a c
unfolding sum
apart-sum f true true a b c = ap (λ (n : ℕ). round f true n c) (add_comm a b)
apart-sum f false false a b c = ap (λ (n : ℕ). round f false n c) (add_comm a b)
apart-sum f true false a b c = go (nat_lt a b) refl (nat_lt b a) refl
  where
    go : (u : Bool) → nat_lt a b ≡ u → (v : Bool) → nat_lt b a ≡ v → sum f true a false b c ≡ sum f false b true a c
    go true e true g = absurd (omega (arith, ltb-true a b e, ltb-true b a g))
    go true e false g = rw (e, g)
    go false e true g = rw (e, g)
    go false e false g = rw (e, g) (ap (λ (n : ℕ). round f false n c) (omega (arith, ltb-false a b e, ltb-false b a g)))
apart-sum f false true a b c = go (nat_lt a b) refl (nat_lt b a) refl
  where
    go : (u : Bool) → nat_lt a b ≡ u → (v : Bool) → nat_lt b a ≡ v → sum f false a true b c ≡ sum f true b false a c
    go true e true g = absurd (omega (arith, ltb-true a b e, ltb-true b a g))
    go true e false g = rw (e, g)
    go false e true g = rw (e, g)
    go false e false g = rw (e, g) (ap (λ (n : ℕ). round f false n c) (omega (arith, ltb-false a b e, ltb-false b a g)))

-- a + b is b + a
pub sum-turned : (f : Format) (x y : Float) → add f x y ≡ add f y x
unfolding add
sum-turned f nan nan = refl
sum-turned f nan (inf t) = refl
sum-turned f nan (fin t n d) = refl
sum-turned f (inf s) nan = refl
sum-turned f (inf true) (inf true) = refl
sum-turned f (inf true) (inf false) = refl
sum-turned f (inf false) (inf true) = refl
sum-turned f (inf false) (inf false) = refl
sum-turned f (inf s) (fin t n d) = refl
sum-turned f (fin s m e) nan = refl
sum-turned f (fin s m e) (inf t) = refl
sum-turned f (fin s m e) (fin t n d) = apart-sum f s t (m * up e * down d) (n * up d * down e) (down e * down d)
    ∙ ap (λ (c : ℕ). sum f t (n * up d * down e) s (m * up e * down d) c) (mul_comm (down e) (down d))

-- a <= a + b, infinities too
le-sum : (a b : Float) → T (fits binary64 a) → T (le zero a) → T (le zero b) → T (le a (add binary64 a b))
le-sum nan b t h k = absurd (unfold le in h)
le-sum (inf true) b t h k = absurd (unfold le in h)
le-sum (inf false) nan t h k = absurd (unfold le in k)
le-sum (inf false) (inf true) t h k = absurd (unfold le in k)
le-sum (inf false) (inf false) t h k = unfold add le in tt
le-sum (inf false) (fin s m e) t h k = unfold add le in tt
le-sum (fin s m e) nan t h k = absurd (unfold le in k)
le-sum (fin s m e) (inf true) t h k = absurd (unfold le in k)
le-sum (fin s m e) (inf false) t h k = unfold add le in tt
le-sum (fin s m e) (fin u n d) t h k = le-add binary64 (fin s m e) (fin u n d) t tt tt k

-- ---- squares

dist-turned : (x y qx qy b : Float) → T (le (sq_dist x y qx qy) b) → T (le (sq_dist y x qy qx) b)
dist-turned x y qx qy b d =
    subst (λ (z : Float). T (le z b))
    (sum-turned binary64 (mul binary64 (sub binary64 x qx) (sub binary64 x qx)) (mul binary64 (sub binary64 y qy) (sub binary64 y qy)))
    d

-- a square that is a number is not negative
square-number : (x : Float) → T (not (is_nan (mul binary64 x x))) → T (le zero (mul binary64 x x))
square-number nan h = absurd (unfold mul is_nan in h)
square-number (inf s) h = square_above binary64 (inf s) (unfold is_nan in tt)
square-number (fin s m e) h = square_above binary64 (fin s m e) (unfold is_nan in tt)

add-number : (a b : Float) → T (not (is_nan (add binary64 a b))) → T (not (is_nan b))
add-number nan nan h = absurd (unfold add is_nan in h)
add-number (inf s) nan h = absurd (unfold add is_nan in h)
add-number (fin s m e) nan h = absurd (unfold add is_nan in h)
add-number a (inf s) h = unfold is_nan in tt
add-number a (fin s m e) h = unfold is_nan in tt

-- whatever the other axis is
pub beside-fails : (dx dy b : Float) → T (lt b (mul binary64 dx dx)) → T (le (add binary64 (mul binary64 dx dx) (mul binary64 dy dy)) b) → ⊥
beside-fails dx dy b h k =
    let A = mul binary64 dx dx in
    let B = mul binary64 dy dy in
    let a : T (le zero A) = square-number dx (le-right-number b A (lt→le b A h)) in
    let c : T (le zero B) = square-number dy (add-number A B (le-left-number (add binary64 A B) b k)) in
    lt_not_le b A h (le-le-trans A (add binary64 A B) b (le-sum A B (mul-fits binary64 dx dx) a c) k)

square-neg : (x : Float) → mul binary64 (neg x) (neg x) ≡ mul binary64 x x
unfolding neg mul
square-neg nan = refl
square-neg (inf true) = refl
square-neg (inf false) = refl
square-neg (fin true m e) = refl
square-neg (fin false m e) = refl

-- away from 0 a square grows
square-grows : (a b : Float) → T (le zero a) → T (le a b) → T (le (mul binary64 a a) (mul binary64 b b))
square-grows nan b h k = absurd (unfold le in h)
square-grows (inf true) b h k = absurd (unfold le in h)
square-grows (inf false) b h k = subst (λ (z : Float). T (le (mul binary64 (inf false) (inf false)) (mul binary64 z z)))
    (sym (plus-inf-le b k)) (unfold mul le in tt)
square-grows (fin s m e) nan h k = absurd (unfold le in k)
square-grows (fin s m e) (inf true) h k = absurd (unfold le in k)
square-grows (fin s m e) (inf false) h k = unfold mul in
    le-plus-inf (mul binary64 (fin s m e) (fin s m e))
    (le-right-number zero (mul binary64 (fin s m e) (fin s m e)) (square_above binary64 (fin s m e) (unfold is_nan in tt)))
square-grows (fin s m e) (fin t n d) h k = mul-mono-both binary64 (fin s m e) (fin t n d) (fin s m e) (fin t n d) tt tt tt tt
    (le-le-trans zero (fin s m e) (fin t n d) h k) h k k

-- ---- the difference from a query

-- a difference from a finite number is a number
sub_number : (x q : Float) → T (not (is_nan x)) → T (finite q) → T (not (is_nan (sub binary64 x q)))
sub_number nan q h f = absurd (unfold is_nan in h)
sub_number (inf s) nan h f = absurd f
sub_number (inf s) (inf t) h f = absurd f
sub_number (inf s) (fin t m e) h f = unfold sub add neg is_nan in tt
sub_number (fin s m e) q h f = sub-not-nan binary64 (fin s m e) q tt f

-- from an infinity it is one, and so is its square
above-minus-inf : (x : Float) → T (lt (inf true) x) → mul binary64 (sub binary64 x (inf true)) (sub binary64 x (inf true)) ≡ inf false
above-minus-inf nan h = absurd (unfold lt in h)
above-minus-inf (inf true) h = absurd (unfold lt in h)
above-minus-inf (inf false) h = unfold sub neg add mul in refl
above-minus-inf (fin s m e) h = unfold sub neg add mul in refl

below-plus-inf : (x : Float) → T (lt x (inf false)) → mul binary64 (sub binary64 x (inf false)) (sub binary64 x (inf false)) ≡ inf false
below-plus-inf nan h = absurd (unfold lt in h)
below-plus-inf (inf false) h = absurd (unfold lt in h)
below-plus-inf (inf true) h = unfold sub neg add mul in refl
below-plus-inf (fin s m e) h = unfold sub neg add mul in refl

both-inf : (a b : Float) → a ≡ inf false → b ≡ inf false → T (le a b)
both-inf a b e f = subst (λ (z : Float). T (le z b)) (sym e) (subst (λ (z : Float). T (le (inf false) z)) (sym f) (unfold le in tt))

none_above : (x : Float) → T (lt (inf false) x) → ⊥
none_above nan h = unfold lt in h
none_above (inf true) h = unfold lt in h
none_above (inf false) h = unfold lt in h
none_above (fin s m e) h = unfold lt in h

none_below : (x : Float) → T (lt x (inf true)) → ⊥
none_below nan h = unfold lt in h
none_below (inf true) h = unfold lt in h
none_below (inf false) h = unfold lt in h
none_below (fin s m e) h = unfold lt in h

no_nan : (x : Float) → T (lt x nan) → ⊥
no_nan nan h = unfold lt in h
no_nan (inf s) h = unfold lt in h
no_nan (fin s m e) h = unfold lt in h

-- what lies right of s, where s lies right of the query: its square is as large or larger
right-grows : (x s q : Float) → T (le s x) → T (lt q s)
    → T (le (mul binary64 (sub binary64 s q) (sub binary64 s q)) (mul binary64 (sub binary64 x q) (sub binary64 x q)))
right-grows x s nan h k = absurd (unfold lt in k)
right-grows x s (inf true) h k = both-inf _ _ (above-minus-inf s k) (above-minus-inf x (lt-le-trans (inf true) s x k h))
right-grows x s (inf false) h k = absurd (none_above s k)
right-grows x s (fin u l g) h k =
    let q = fin u l g in
    let nx = sub_number x (fin u l g) (le-right-number s x h) tt in
    let ns = sub_number s (fin u l g) (le-left-number s x h) tt in
    let nq = sub_number (fin u l g) (fin u l g) (finite-not-nan (fin u l g) tt) tt in
    square-grows (sub binary64 s q) (sub binary64 x q)
    (subst (λ (z : Float). T (le z (sub binary64 s (fin u l g)))) (sub_self binary64 (fin u l g) tt)
    (sub-mono-any binary64 (fin u l g) s (fin u l g) (lt→le (fin u l g) s k) nq ns))
    (sub-mono-any binary64 s x (fin u l g) h ns nx)

-- what lies left of s, where s lies left of the query
left-grows : (x s q : Float) → T (le x s) → T (lt s q)
    → T (le (mul binary64 (sub binary64 s q) (sub binary64 s q)) (mul binary64 (sub binary64 x q) (sub binary64 x q)))
left-grows x s nan h k = absurd (no_nan s k)
left-grows x s (inf false) h k = both-inf _ _ (below-plus-inf s k) (below-plus-inf x (le_lt_trans x s (inf false) h k))
left-grows x s (inf true) h k = absurd (none_below s k)
left-grows x s (fin u l g) h k =
    let a = sub binary64 s (fin u l g) in
    let b = sub binary64 x (fin u l g) in
    let nx = sub_number x (fin u l g) (le-left-number x s h) tt in
    let ns = sub_number s (fin u l g) (le-right-number x s h) tt in
    let nq = sub_number (fin u l g) (fin u l g) (finite-not-nan (fin u l g) tt) tt in
    let low : T (le (sub binary64 s (fin u l g)) zero) =
    subst (λ (z : Float). T (le (sub binary64 s (fin u l g)) z)) (sub_self binary64 (fin u l g) tt)
    (sub-mono-any binary64 s (fin u l g) (fin u l g) (lt→le s (fin u l g) k) ns nq) in
    let down : T (le (sub binary64 x (fin u l g)) (sub binary64 s (fin u l g))) = sub-mono-any binary64 x s (fin u l g) h nx ns in
    turned a b low down
  where
    nonneg : (a : Float) → T (le a zero) → T (le zero (neg a))
    nonneg a h = le-le-trans zero (neg zero) (neg a) (unfold neg le in tt) (neg-le a zero h)

    turned : (a b : Float) → T (le a zero) → T (le b a) → T (le (mul binary64 a a) (mul binary64 b b))
    turned a b low down =
        subst (λ (z : Float). T (le z (mul binary64 b b))) (square-neg a)
        (subst (λ (z : Float). T (le (mul binary64 (neg a) (neg a)) z)) (square-neg b)
        (square-grows (neg a) (neg b) (nonneg a low) (neg-le b a down)))

-- ---- nothing that is skipped passes: by x, and by y

module _ (x y s qx qy b : Float) where
  pub left-x-fails : T (le x s) → T (lt s qx) → T (lt b (mul binary64 (sub binary64 s qx) (sub binary64 s qx)))
      → T (le (sq_dist x y qx qy) b) → ⊥
  left-x-fails h k l = beside-fails (sub binary64 x qx) (sub binary64 y qy) b (lt-le-trans b _ _ l (left-grows x s qx h k))

  pub right-x-fails : T (le s x) → T (lt qx s) → T (lt b (mul binary64 (sub binary64 s qx) (sub binary64 s qx)))
      → T (le (sq_dist x y qx qy) b) → ⊥
  right-x-fails h k l = beside-fails (sub binary64 x qx) (sub binary64 y qy) b (lt-le-trans b _ _ l (right-grows x s qx h k))

  pub left-y-fails : T (le y s) → T (lt s qy) → T (lt b (mul binary64 (sub binary64 s qy) (sub binary64 s qy)))
      → T (le (sq_dist x y qx qy) b) → ⊥
  left-y-fails h k l d = beside-fails (sub binary64 y qy) (sub binary64 x qx) b (lt-le-trans b _ _ l (left-grows y s qy h k))
      (dist-turned x y qx qy b d)

  pub right-y-fails : T (le s y) → T (lt qy s) → T (lt b (mul binary64 (sub binary64 s qy) (sub binary64 s qy)))
      → T (le (sq_dist x y qx qy) b) → ⊥
  right-y-fails h k l d = beside-fails (sub binary64 y qy) (sub binary64 x qx) b (lt-le-trans b _ _ l (right-grows y s qy h k))
      (dist-turned x y qx qy b d)

-- ---- what passes has numbers for coordinates

sub-left-number : (x q : Float) → T (not (is_nan (mul binary64 (sub binary64 x q) (sub binary64 x q)))) → T (not (is_nan x))
sub-left-number nan q h = absurd (unfold sub add mul is_nan in h)
sub-left-number (inf s) q h = unfold is_nan in tt
sub-left-number (fin s m e) q h = unfold is_nan in tt

pub y-number : (x y qx qy b : Float) → T (le (sq_dist x y qx qy) b) → T (not (is_nan y))
y-number x y qx qy b d = sub-left-number y qy
    (add-number (mul binary64 (sub binary64 x qx) (sub binary64 x qx)) (mul binary64 (sub binary64 y qy) (sub binary64 y qy))
    (le-left-number (sq_dist x y qx qy) b d))

pub x-number : (x y qx qy b : Float) → T (le (sq_dist x y qx qy) b) → T (not (is_nan x))
x-number x y qx qy b d = y-number y x qy qx b (dist-turned x y qx qy b d)
