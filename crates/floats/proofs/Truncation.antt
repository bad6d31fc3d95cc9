-- How `round_away` finds the nearest whole number: x less its truncation is exact, and the rule turns on whether that rest is a half or
-- more. Assumes nothing.
use Rattle.std.proofs.Common.{◌≡◌, ℕ, zero, suc, ◌+◌, ◌-◌, ◌*◌, ◌/◌, ◌%◌, ◌^◌, ◌<◌, ◌≤◌, min, Bool, true, false, cond, not, T, ltb, ℤ, pos, negsuc, neg_ℤ, sym, refl, ap, ◌∙◌, subst, true≢false, le_trans, le_of_eq, lt_of_le_of_lt, mod-lt, zero-lt-suc, mul_assoc, mul_comm, add-mul, mul-pos, one-mul, lt_of_not-le, div-add-mod', zero-mul, mul-one, mul_right_comm, not-le_of_lt, mul_left_comm, arith, lit≤, ltb→lt, T_not}
use native.Mathlib.Nat.{mod-le, mod-one, zero-mod}
use native.Mathlib.Nat.{div-eq_of_lt}
use lib.Arith.{digits_div}
use lib.Ieee.{Float, nan, inf, fin, Format, binary64, prec, up, down, le, lt, round, neg, sum, add, sub, of_int, to_unsigned, fits}
use lib.Ieee.Fits.{down_pos}
use lib.Ieee.Exact.{HasValue}
use lib.Ieee.Order.{transfer, le_of_values}
use lib.Ieee.Nearest.{div_mono}
use lib.Ieee.Scale.{finite, round_same}
use Rattle.floats.specs.laws.Fraction.{le→cross, cross→le}
use Rattle.floats.specs.laws.Order.{lt_not_le, between-finite}
use Rattle.floats.specs.laws.Rounding.{round-zero}
use Rattle.floats.specs.laws.Signs.{nonneg-mins}
use Rattle.floats.specs.Numbers.{zero as fzero, half, pow48}
use Rattle.floats.specs.Away.{away_n, away}
use Rattle.floats.specs.laws.Whole.{of_int-value}
use Rattle.floats.specs.laws.Exact.{held, unit-exact}

-- ---- on numbers: with q * d + r for the size, the rule turns on twice the remainder
up-case : (q r d : ℕ) → r < d → d ≤ r * 2 → (2 * (q * d + r) + d) / (2 * d) ≡ q + 1
up-case q r d h k = ap (λ (x : ℕ). x / (2 * d)) whole ∙ digits_div (q + 1) small
  where
    whole : 2 * (q * d + r) + d ≡ (q + 1) * (2 * d) + (2 * r - d)
    whole = let e : (q + 1) * (2 * d) ≡ 2 * (q * d) + 2 * d = simp (add-mul, one-mul, mul_left_comm) in omega arith

    small : 2 * r - d < 2 * d
    small = omega arith

down-case : (q r d : ℕ) → r < d → r * 2 < d → (2 * (q * d + r) + d) / (2 * d) ≡ q
down-case q r d h k = ap (λ (x : ℕ). x / (2 * d)) whole ∙ digits_div q small
  where
    whole : 2 * (q * d + r) + d ≡ q * (2 * d) + (2 * r + d)
    whole = let e : q * (2 * d) ≡ 2 * (q * d) = mul_left_comm q 2 d in omega arith

    small : 2 * r + d < 2 * d
    small = omega arith

-- ---- order of values that are not negative, both ways
pub values-le : (x y : Float) (a c b d : ℕ) → HasValue x false a c → HasValue y false b d → T (le x y) → a * d ≤ b * c
values-le nan y a c b d h k l = absurd h
values-le (inf s) y a c b d h k l = absurd h
values-le (fin true m e) y a c b d h k l = absurd (true≢false h.0)
values-le (fin false m e) nan a c b d h k l = absurd k
values-le (fin false m e) (inf t) a c b d h k l = absurd k
values-le (fin false m e) (fin true n g) a c b d h k l = absurd (true≢false k.0)
values-le (fin false m e) (fin false n g) a c b d h k l =
    transfer a b c d (m * up e) (n * up g) (down e) (down g) (down_pos e) (down_pos g) (sym h.1) (sym k.1)
    (drop (m * up e * down g) (n * up g * down e) (down e) (down g) (le→cross (fin false m e) (fin false n g) tt tt l))
  where
    drop : (a b u v : ℕ) → a + 0 * u ≤ b + 0 * v → a ≤ b
    drop a b u v h = omega arith

-- ---- x less its whole part q is r / den, exactly
rest-cross : (N D q r Y g : ℕ) → N ≡ q * D + r → Y * 1 ≡ q * g → (N * g - Y * D) * D ≡ r * (D * g)
rest-cross N D q r Y g h k =
    let a : N * g ≡ q * g * D + r * g = ap (λ (z : ℕ). z * g) h ∙ add-mul (q * D) r g ∙ ap (λ (z : ℕ). z + r * g) (mul_right_comm q D g) in
    let b : Y * D ≡ q * g * D = ap (λ (z : ℕ). z * D) (sym (mul-one Y) ∙ k) in
    let c : N * g - Y * D ≡ r * g = omega arith in
    ap (λ (z : ℕ). z * D) c ∙ mul_assoc r g D ∙ ap (λ (z : ℕ). r * z) (mul_comm g D)

below-it : (N D q r Y g : ℕ) → N ≡ q * D + r → Y * 1 ≡ q * g → Y * D ≤ N * g
below-it N D q r Y g h k =
    let a : N * g ≡ q * g * D + r * g = ap (λ (z : ℕ). z * g) h ∙ add-mul (q * D) r g ∙ ap (λ (z : ℕ). z + r * g) (mul_right_comm q D g) in
    let b : Y * D ≡ q * g * D = ap (λ (z : ℕ). z * D) (sym (mul-one Y) ∙ k) in
    omega arith

pick : (f : Format) (a b c : ℕ) → b ≤ a → sum f false a true b c ≡ round f false (a - b) c
unfolding sum
pick f a b c h = go (ltb a b) (ltb→lt a b)
  where
    go : (t : Bool) → (T t → a < b) → cond t (round f true (b - a) c) (round f false (a - b) c) ≡ round f false (a - b) c
    go true k = absurd (not-le_of_lt (k tt) h)
    go false k = refl

rest-is : (f : Format) (m : ℕ) (e : ℤ) (y : Float) (q r : ℕ) → m * up e ≡ q * down e + r → HasValue y false q 1
    → sub f (fin false m e) y ≡ round f false r (down e)
unfolding sub
rest-is f m e nan q r h k = absurd k
rest-is f m e (inf t) q r h k = absurd k
rest-is f m e (fin true n g) q r h k = absurd (true≢false k.0)
rest-is f m e (fin false n g) q r h k =
    pick f (m * up e * down g) (n * up g * down e) (down e * down g) (below-it (m * up e) (down e) q r (n * up g) (down g) h k.1)
    ∙ round_same f false (m * up e * down g - n * up g * down e) (down e * down g) r (down e) (mul-pos (down_pos e) (down_pos g))
    (down_pos e) (rest-cross (m * up e) (down e) q r (n * up g) (down g) h k.1)

-- the remainder is a value of the format
none-exact : (f : Format) (r d : ℕ) → 0 < d → r ≡ 0 → HasValue (round f false r d) false r d
none-exact f r d D e =
    subst (λ (z : ℕ). HasValue (round f false z d) false z d) (sym e)
    (subst (λ (z : Float). HasValue z false 0 d) (sym (round-zero f false d D)) (refl, zero-mul d))

rest-exact : (f : Format) (m : ℕ) (e : ℤ) → T (fits f (fin false m e))
    → HasValue (round f false (m * up e % down e) (down e)) false (m * up e % down e) (down e)
rest-exact f zero e t = none-exact f (zero * up e % down e) (down e) (down_pos e) (ap (λ (z : ℕ). z % down e) (zero-mul (up e))
    ∙ zero-mod (down e))
rest-exact f (suc m) (pos k) t = none-exact f (suc m * 2 ^ k % 1) 1 (zero-lt-suc 0) (mod-one (suc m * 2 ^ k))
rest-exact f (suc m) (negsuc k) t =
    let h = held f false m (negsuc k) t in
    let r : ℕ = suc m * 1 % 2 ^ suc k in
    let l : r ≤ suc m * 1 = mod-le (suc m * 1) (2 ^ suc k) in
    subst (λ (z : ℕ). HasValue (round f false z (2 ^ suc k)) false z (2 ^ suc k)) (mul-one r)
    (unit-exact f false r (negsuc k) (lt_of_le_of_lt l (subst (λ (z : ℕ). z < 2 ^ prec f) (sym (mul-one (suc m))) h.short)) h.fine
    (lt_of_le_of_lt (le_trans (le_of_eq (mul-one r)) l) h.small))

-- ---- the whole part of a value up to 2 ^ 48
part-le : (m : ℕ) (e : ℤ) → T (le (fin false m e) pow48) → m * up e / down e ≤ 2 ^ 48
part-le m e h = div_mono (m * up e) (down e) (2 ^ 48) 1 (down_pos e) (zero-lt-suc 0)
    (values-le (fin false m e) pow48 (m * up e) (down e) (2 ^ 48) 1 (refl, refl) (refl, refl) h)

uncapped : (a : ℕ) → a ≤ 2 ^ 48 → min a (2 ^ 64 - 1) ≡ a
uncapped a h = omega arith

part-is : (m : ℕ) (e : ℤ) → T (le (fin false m e) pow48) → to_unsigned 64 (fin false m e) ≡ m * up e / down e
unfolding to_unsigned
part-is m e h = uncapped (m * up e / down e) (part-le m e h)

no_size : (m : ℕ) (e : ℤ) → T (le fzero (fin true m e)) → m * up e ≡ 0
no_size m e h = nonneg-mins (fin true m e) tt h

pub part_small : (x : Float) → T (le fzero x) → T (le x pow48) → to_unsigned 64 x ≤ 2 ^ 48
part_small nan h k = absurd (unfold le in h)
part_small (inf true) h k = absurd (unfold le in h)
part_small (inf false) h k = absurd (unfold le in k)
part_small (fin true m e) h k = unfold to_unsigned in Prim.Native.Nat.zero-le
part_small (fin false m e) h k = le_trans (le_of_eq (part-is m e k)) (part-le m e k)

-- what is left of x, for the tests that code makes
abbrev pub rest : Float → Float
rest x = sub binary64 x (of_int binary64 (pos (to_unsigned 64 x)))

rest-val : (m : ℕ) (e : ℤ) → T (fits binary64 (fin false m e)) → T (le (fin false m e) pow48)
    → HasValue (rest (fin false m e)) false (m * up e % down e) (down e)
rest-val m e t h =
    let q : ℕ = m * up e / down e in
    subst (λ (z : Float). HasValue z false (m * up e % down e) (down e))
    (sym (ap (λ (z : ℕ). sub binary64 (fin false m e) (of_int binary64 (pos z))) (part-is m e h)
    ∙ rest-is binary64 m e (of_int binary64 (pos q)) q (m * up e % down e) (sym (div-add-mod' (m * up e) (down e)))
    (of_int-value binary64 q (le_trans (part-le m e h) (lit≤ tt)))))
    (rest-exact binary64 m e t)

-- ---- halves and more go up
size_is : (m : ℕ) (e : ℤ) → away_n (fin false m e) ≡ (2 * (m * up e / down e * down e + m * up e % down e) + down e) / (2 * down e)
size_is m e = ap (λ (z : ℕ). (2 * z + down e) / (2 * down e)) (sym (div-add-mod' (m * up e) (down e)))

-- a minus zero leaves a minus zero
left-zero : (m : ℕ) (e : ℤ) → m * up e ≡ 0 → rest (fin true m e) ≡ fin true 0 (pos 0)
unfolding to_unsigned sub add sum of_int round
left-zero m e z = ap (λ (n : ℕ). round binary64 true n (down e * 1)) all
    ∙ round-zero binary64 true (down e * 1) (mul-pos (down_pos e) (zero-lt-suc 0))
  where
    all : m * up e * 1 + 0 * down e ≡ 0
    all = omega arith

nothing : (d : ℕ) → 0 < d → (2 * 0 + d) / (2 * d) ≡ 0
nothing d D = div-eq_of_lt small
  where
    small : 2 * 0 + d < 2 * d
    small = omega arith

pub away-up : (x : Float) → T (fits binary64 x) → T (le fzero x) → T (le x pow48) → T (le half (rest x)) → away_n x ≡ to_unsigned 64 x + 1
away-up nan t h k l = absurd (unfold le in h)
away-up (inf true) t h k l = absurd (unfold le in h)
away-up (inf false) t h k l = absurd (unfold le in k)
away-up (fin true m e) t h k l = absurd (unfold le in subst (λ (z : Float). T (le half z)) (left-zero m e (no_size m e h)) l)
away-up (fin false m e) t h k l =
    size_is m e
    ∙ up-case (m * up e / down e) (m * up e % down e) (down e) (mod-lt (m * up e) (down_pos e))
    (le_trans (le_of_eq (sym (one-mul (down e))))
    (values-le half (rest (fin false m e)) 1 2 (m * up e % down e) (down e) (refl, refl) (rest-val m e t k) l))
    ∙ ap (λ (z : ℕ). z + 1) (sym (part-is m e k))

pub away-down : (x : Float) → T (fits binary64 x) → T (le fzero x) → T (le x pow48) → T (not (le half (rest x))) → away_n x ≡ to_unsigned 64 x
away-down nan t h k l = absurd (unfold le in h)
away-down (inf true) t h k l = absurd (unfold le in h)
away-down (inf false) t h k l = absurd (unfold le in k)
away-down (fin true m e) t h k l = ap (λ (z : ℕ). (2 * z + down e) / (2 * down e)) (no_size m e h) ∙ nothing (down e) (down_pos e)
    ∙ (unfold to_unsigned in refl)
away-down (fin false m e) t h k l =
    size_is m e
    ∙ down-case (m * up e / down e) (m * up e % down e) (down e) (mod-lt (m * up e) (down_pos e))
    (lt_of_not-le (λ g. T_not (le half (rest (fin false m e))) l
    (le_of_values half (rest (fin false m e)) 1 2 (m * up e % down e) (down e) (zero-lt-suc 1) (down_pos e) (refl, refl) (rest-val m e t k)
    (le_trans (le_of_eq (one-mul (down e))) g))))
    ∙ sym (part-is m e k)

-- ---- as code has it: t is the whole part, and b the test's answer
pub took-up : (x : Float) (t : ℕ) → T (fits binary64 x) → T (le fzero x) → T (le x pow48) → t ≡ to_unsigned 64 x
    → le half (sub binary64 x (of_int binary64 (pos t))) ≡ true → t + 1 ≡ away_n x
took-up x t f h k e b =
    ap (λ (z : ℕ). z + 1) e ∙ sym (away-up x f h k
    (subst T (sym (ap (λ (z : ℕ). le half (sub binary64 x (of_int binary64 (pos z)))) (sym e) ∙ b)) tt))

pub took-down : (x : Float) (t : ℕ) → T (fits binary64 x) → T (le fzero x) → T (le x pow48) → t ≡ to_unsigned 64 x
    → le half (sub binary64 x (of_int binary64 (pos t))) ≡ false → t ≡ away_n x
took-down x t f h k e b =
    e ∙ sym (away-down x f h k (subst (λ (z : Bool). T (not z))
    (sym (ap (λ (z : ℕ). le half (sub binary64 x (of_int binary64 (pos z)))) (sym e) ∙ b)) tt))

-- ---- the signs
pub neg-fin : (v : Float) → T (le (neg pow48) v) → T (le v pow48) → T (finite v)
unfolding neg
neg-fin v h k = between-finite (neg pow48) v pow48 tt tt h k

pub away-neg : (v : Float) → T (finite v) → T (lt v fzero) → away v ≡ neg_ℤ (pos (away_n (neg v)))
away-neg nan p h = absurd p
away-neg (inf s) p h = absurd p
away-neg (fin true m e) p h = unfold away neg in refl
away-neg (fin false m e) p h = absurd (lt_not_le (fin false m e) fzero h (cross→le fzero (fin false m e) tt tt low))
  where
    low : 0 * 1 * down e + 0 * 1 ≤ m * up e * 1 + 0 * down e
    low = omega arith

pub away-pos : (v : Float) → T (finite v) → T (le fzero v) → away v ≡ pos (away_n v)
unfolding away
away-pos nan p h = absurd p
away-pos (inf s) p h = absurd p
away-pos (fin true m e) p h =
    let z : away_n (fin true m e) ≡ 0 = ap (λ (k : ℕ). (2 * k + down e) / (2 * down e)) (no_size m e h) ∙ nothing (down e) (down_pos e) in
    ap (λ (k : ℕ). neg_ℤ (pos k)) z ∙ ap pos (sym z)
away-pos (fin false m e) p h = refl
