-- The two halves of a box that is split: put through the rule again, neither is split again, so that two searches are all there is. A
-- longitude comes into
-- -180 to 180 by the rule, and both ends of that stay where they are as edges of a half. Assumes nothing.
use Rattle.std.specs.Prelude.{◌≡◌, refl, Bool, true, cond, [], ◌∷◌, ◌++◌, ℕ, ◌*◌, ◌%◌, ◌^◌, ◌<◌, ℤ, pos, Float}
use Rattle.std.proofs.Common.{sym, ◌∙◌, arith, mod-lt, mul-pos, mul-one, zero-lt-suc, zero-mul}
use Rattle.std.proofs.Math.Path.{ap, subst}
use Rattle.std.proofs.Math.Bool.{false}
use Rattle.std.proofs.Math.Nat.{zero-mod}
use Rattle.std.proofs.Math.Dec.{T}
use Rattle.std.specs.Float.{nan, inf, fin}
use Rattle.std.specs.Float.Ieee.{binary64, up, down, lt, le, eq, neg, round, sum, add, sub, rem, of_int}
use Rattle.std.specs.Float.Ieee.Fits.{down_pos}
use Rattle.std.specs.Float.Ieee.Order.{round_mono}
use Rattle.std.specs.Float.Ieee.Scale.{finite}
use Rattle.floats.specs.Numbers.{zero}
use Rattle.floats.specs.laws.Order.{le-le-trans, lt_not_le, between-finite}
use Rattle.floats.specs.laws.Rounding.{neg-le, neg-round, round-zero, zero-le-round, round-le-zero}
use Rattle.floats.specs.laws.Signs.{nonneg-mins}
use Rattle.floats.specs.laws.Monotone.{neg-finite, add-mono, sub-mono}
use Rattle.range.specs.declared.CoordinateSystem.TheVariants.{LatLng}
use Rattle.ask_box_plan.specs.Rule.{half_circle, wrapped, wrapped_east, whole_row, new_west, new_east, splits, ruled_box, plan_of}

-- ---- 180 and 360, as they stand in a float

abbrev d180 : Float
d180 = fin false 45 (pos 2)

abbrev d360 : Float
d360 = fin false 45 (pos 3)

abbrev d720 : Float
d720 = fin false 45 (pos 4)

is180 : half_circle ≡ d180
unfolding of_int round
is180 = refl

round-360 : round binary64 false 360 1 ≡ d360
unfolding round
round-360 = refl

-- ---- the rest by 360: from 0 to 360 of a number that is not negative, from -360 to 360 of any other

rest : ℕ → ℤ → ℕ
rest m e = m * up e * 1 % (45 * 2 ^ 3 * down e)

rest_le : (m : ℕ) (e : ℤ) → T (le (round binary64 false (rest m e) (down e * 1)) d360)
unfolding rest
rest_le m e =
    let h : m * up e * 1 % (45 * 2 ^ 3 * down e) < 360 * down e = mod-lt (m * up e * 1) (mul-pos (zero-lt-suc 359) (down_pos e)) in
    let one : down e * 1 ≡ down e = mul-one (down e) in
    subst (λ (x : Float). T (le (round binary64 false (m * up e * 1 % (45 * 2 ^ 3 * down e)) (down e * 1)) x)) round-360
    (round_mono binary64 (m * up e * 1 % (45 * 2 ^ 3 * down e)) (down e * 1) 360 1 (omega (arith, down_pos e)) (zero-lt-suc 0)
    (omega arith))

down1 : (e : ℤ) → 0 < down e * 1
down1 e = omega (arith, down_pos e, mul-one (down e))

rem_is : (s : Bool) (m : ℕ) (e : ℤ) → rem binary64 (fin s m e) d360 ≡ round binary64 s (rest m e) (down e * 1)
unfolding rem rest
rem_is s m e = refl

rem-most : (x : Float) → T (finite x) → T (le (rem binary64 x d360) d360)
rem-most nan p = elim p [ ]
rem-most (inf _) p = elim p [ ]
rem-most (fin false m e) p = rw (rem_is false m e) (rest_le m e)
rem-most (fin true m e) p = rw (rem_is true m e)
    (le-le-trans _ (fin true 0 (pos 0)) d360 (round-le-zero binary64 (rest m e) (down e * 1) (down1 e)) (unfold le in tt))

rem-least : (x : Float) → T (finite x) → T (le (neg d360) (rem binary64 x d360))
rem-least nan p = elim p [ ]
rem-least (inf _) p = elim p [ ]
rem-least (fin false m e) p = rw (rem_is false m e)
    (le-le-trans (neg d360) zero _ (unfold le neg in tt) (zero-le-round binary64 (rest m e) (down e * 1) (down1 e)))
rem-least (fin true m e) p =
    rw (rem_is true m e) (subst (λ (x : Float). T (le (neg d360) x)) (neg-round binary64 false (rest m e) (down e * 1))
    (neg-le (round binary64 false (rest m e) (down e * 1)) d360 (rest_le m e)))

rem-nonneg : (x : Float) → T (finite x) → T (le zero x) → T (le zero (rem binary64 x d360))
rem-nonneg nan p h = elim p [ ]
rem-nonneg (inf _) p h = elim p [ ]
rem-nonneg (fin false m e) p h = rw (rem_is false m e) (zero-le-round binary64 (rest m e) (down e * 1) (down1 e))
rem-nonneg (fin true m e) p h = rw (rem_is true m e)
    (let z : m * up e ≡ 0 = nonneg-mins (fin true m e) tt h in
    let r : rest m e ≡ 0 = none m e z in
    rw (r, round-zero binary64 true (down e * 1) (down1 e)) (unfold le in tt))
  where
    none : (m : ℕ) (e : ℤ) → m * up e ≡ 0 → rest m e ≡ 0
    none m e z = unfold rest in rw (z, zero-mul) (zero-mod (45 * 2 ^ 3 * down e))

-- ---- the rule brings a longitude into -180 to 180

-- the new edge, from the sum v + 180
abbrev wrap-of : Float → Float
wrap-of a = sub binary64 (rem binary64 (add binary64 (rem binary64 a d360) d360) d360) d180

sum-none : add binary64 (neg d360) d360 ≡ zero
unfolding add neg sum round
sum-none = refl

sum-all : add binary64 d360 d360 ≡ d720
unfolding add sum round
sum-all = refl

less_none : sub binary64 zero d180 ≡ neg d180
unfolding sub neg add sum round
less_none = refl

less-all : sub binary64 d360 d180 ≡ d180
unfolding sub neg add sum round
less-all = refl

bounds : (a : Float) → T (finite a) → T (le (neg d180) (wrap-of a)) × T (le (wrap-of a) d180)
bounds a p =
    let r = rem binary64 a d360 in
    let fr : T (finite r) = between-finite (neg d360) r d360 (neg-finite d360 tt) tt (rem-least a p) (rem-most a p) in
    let m = add binary64 r d360 in
    let low : T (le zero m) = subst (λ (x : Float). T (le x m)) sum-none
    (add-mono binary64 (neg d360) r d360 d360 (neg-finite d360 tt) fr tt tt (rem-least a p) (unfold le in tt)) in
    let high : T (le m d720) = subst (λ (x : Float). T (le m x)) sum-all
    (add-mono binary64 r d360 d360 d360 fr tt tt tt (rem-most a p) (unfold le in tt)) in
    let fm : T (finite m) = between-finite zero m d720 tt tt low high in
    let q = rem binary64 m d360 in
    let fq : T (finite q) = between-finite (neg d360) q d360 (neg-finite d360 tt) tt (rem-least m fm) (rem-most m fm) in (
      subst (λ (x : Float). T (le x (sub binary64 q d180))) less_none
          (sub-mono binary64 zero q d180 d180 tt fq tt tt (rem-nonneg m fm low) (unfold le in tt)),
      subst (λ (x : Float). T (le (sub binary64 q d180) x)) less-all
          (sub-mono binary64 q d360 d180 d180 fq tt tt tt (rem-most m fm) (unfold le in tt)),
    )

wrapped-is : (v : Float) → wrapped v ≡ wrap-of (add binary64 v d180)
unfolding wrapped of_int round
wrapped-is v = refl

pub wrapped-between : (v : Float) → T (finite (add binary64 v half_circle)) → T (le (neg half_circle) (wrapped v))
    × T (le (wrapped v) half_circle)
wrapped-between v p = rw (wrapped-is v, is180) (bounds (add binary64 v d180) (rw is180 at p))

-- ---- what is not finite becomes no number, which exceeds nothing

not-lt : (x y : Float) → T (le y x) → lt x y ≡ false
not-lt x y h = go (lt x y) refl
  where
    go : (b : Bool) → lt x y ≡ b → lt x y ≡ false
    go true e = absurd (lt_not_le x y (subst T (sym e) tt) h)
    go false e = e

nan-wrap : wrap-of nan ≡ nan
unfolding rem add sub
nan-wrap = refl

inf-wrap : (s : Bool) → wrap-of (inf s) ≡ nan
unfolding rem add sub
inf-wrap s = refl

above : (a : Float) → lt d180 (wrap-of a) ≡ false
above nan = rw nan-wrap (unfold lt in refl)
above (inf s) = rw (inf-wrap s) (unfold lt in refl)
above (fin s m e) = not-lt d180 (wrap-of (fin s m e)) (bounds (fin s m e) tt).1

beneath : (a : Float) → lt (wrap-of a) (neg d180) ≡ false
beneath nan = rw nan-wrap (unfold lt in refl)
beneath (inf s) = rw (inf-wrap s) (unfold lt in refl)
beneath (fin s m e) = not-lt (wrap-of (fin s m e)) (neg d180) (bounds (fin s m e) tt).0

-- ---- the halves

east-stays : wrapped_east half_circle ≡ d180
unfolding of_int round eq
east-stays = refl

west-stays : wrapped (neg half_circle) ≡ neg d180
unfolding wrapped of_int neg add sub sum rem round
west-stays = refl

-- a whole row is not split
whole-once : lt half_circle (neg half_circle) ≡ false
whole-once = ap (λ (x : Float). lt x (neg x)) is180 ∙ (unfold lt neg in refl)

by_row : (b : Bool) (west east : Float) → lt east west ≡ false → lt (cond b half_circle east) (cond b (neg half_circle) west) ≡ false
by_row true west east e = whole-once
by_row false west east e = e

-- the box (w, 180) is not split
pub east-once : (west : Float) → splits west half_circle ≡ false
unfolding new_west new_east
east-once west =
    by_row (whole_row west half_circle) (wrapped west) (wrapped_east half_circle)
    (ap (λ (x : Float). lt x (wrapped west)) east-stays ∙ ap (lt d180) (wrapped-is west) ∙ above (add binary64 west d180))

-- nor is the box (-180, e)
pub west-once : (east : Float) → splits (neg half_circle) east ≡ false
unfolding new_west new_east
west-once east =
    by_row (whole_row (neg half_circle) east) (wrapped (neg half_circle)) (wrapped_east east)
    (ap (λ (x : Float). lt (wrapped_east east) x) west-stays ∙ go (eq east half_circle))
  where
    go : (b : Bool) → lt (cond b half_circle (wrapped east)) (neg d180) ≡ false
    go true = ap (λ (x : Float). lt x (neg d180)) is180 ∙ (unfold lt neg in refl)
    go false = ap (λ (x : Float). lt x (neg d180)) (wrapped-is east) ∙ beneath (add binary64 east d180)

-- so each half is searched as the box (w, 180), and the box (-180, e), are when they are asked for
first-half : (west least greatest : Float) → plan_of LatLng west least half_circle greatest ≡ ruled_box west least half_circle greatest ∷ []
unfolding plan_of
first-half west least greatest = rw (east-once west)

second-half : (east least greatest : Float)
    → plan_of LatLng (neg half_circle) least east greatest ≡ ruled_box (neg half_circle) least east greatest ∷ []
unfolding plan_of
second-half east least greatest = rw (west-once east)

-- and a box that splits is searched as these two are, one after the other
pub split-plan : (west least east greatest : Float) → splits west east ≡ true
    → plan_of LatLng west least east greatest
    ≡ plan_of LatLng (new_west west east) least half_circle greatest ++ plan_of LatLng (neg half_circle) least (new_east west east) greatest
split-plan west least east greatest e =
    rw (first-half (new_west west east) least greatest, second-half (new_east west east) least greatest) (unfold plan_of in rw e)
