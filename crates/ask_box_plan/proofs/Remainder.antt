-- What is left of a number when 360 is taken from it as often as it goes: what the rule's taking by halves works out is the remainder.
-- Assumes nothing.
use Rattle.std.specs.Prelude.{◌≡◌, Bool, true, false, cond, ℕ, zero, suc, ◌+◌, ◌-◌, ◌*◌, ◌/◌, ◌%◌, ◌^◌, ◌<◌, ◌≤◌, ltb, ℤ, pos, negsuc, Float, T}
use Rattle.std.proofs.Common.{refl, inl, inr, sym, ap, ap₂, ◌∙◌, subst, arith, ltb→lt, nltb→le, lit≤, pow-add, pow_pos}
use native.Mathlib.Nat.{mul-sub, pow-suc, mul_comm, mul_assoc, mul_right_comm, mul-lt-mul_of_pos_right, lt_of_mul-lt-mul_right, lt_of_lt_of_le, mul-le-mul_right, mul-pos, mul-one, zero-mul, zero-lt-suc, mod-lt, mod-eq_of_lt, add-mul-mod_self_right}
use Rattle.std.proofs.lemmas.Nat.{mod-mul-add}
use Rattle.std.specs.Float.{nan, inf, fin, binary64}
use Rattle.std.specs.Float.Ieee.{prec, emax, low, up, down, le, neg, round, sum, add, sub, rem, fits, is_nan}
use Rattle.std.specs.Float.Ieee.Fits.{down_pos, round-fits}
use Rattle.std.specs.Float.Ieee.Exact.{HasValue}
use Rattle.std.specs.Float.Ieee.Scale.{round_same}
use Rattle.floats.specs.laws.Exact.{Held, held, unit-exact, round-own}
use Rattle.floats.specs.laws.Fraction.{decide, yes_of, no_of, le→cross, lt→cross}
use Rattle.floats.specs.laws.Order.{not-le→lt}

abbrev pub d360 : Float
d360 = fin false 45 (pos 3)

-- y is what is left of x, below 45 * 2 ^ (n + 1)
pub record Left (n : ℕ) (x y : Float) : Type 0 where
  pub m : ℕ
  pub e : ℤ
  pub is : y ≡ fin false m e
  pub held : T (fits binary64 y)
  pub below : m * up e < 45 * 2 ^ (n + 1) * down e
  pub same : rem binary64 y d360 ≡ rem binary64 x d360

-- ---- the remainder of a value is that of any fraction that it equals

grow : (x y k : ℕ) → 0 < y → 0 < k → x * k % (y * k) ≡ x % y * k
grow x y k Y K =
    let q : ℕ = x / y in
    let r : ℕ = x % y in
    let a : r * k < y * k = mul-lt-mul_of_pos_right (mod-lt x Y) K in
    let w : x ≡ q * y + r = omega (arith, mul_comm y (x / y)) in
    let b : x * k ≡ q * (y * k) + r * k = ap (λ (z : ℕ). z * k) w ∙ spread q y r k in
    ap (λ (z : ℕ). z % (y * k)) b ∙ mod-mul-add q (y * k) (r * k) a
  where
    spread : (q y r k : ℕ) → (q * y + r) * k ≡ q * (y * k) + r * k
    spread q y r k = grind arith

rem-fin : (m : ℕ) (e : ℤ) → rem binary64 (fin false m e) d360 ≡ round binary64 false (m * up e * 1 % (360 * down e)) (down e * 1)
unfolding rem
rem-fin m e = refl

cross : (M D a c : ℕ) → 0 < D → 0 < c → M * c ≡ a * D → M * 1 % (360 * D) * c ≡ a % (360 * c) * (D * 1)
cross M D a c A B h =
    let l : M * c % (360 * D * c) ≡ M % (360 * D) * c = grow M (360 * D) c (mul-pos (zero-lt-suc 359) A) B in
    let r : a * D % (360 * c * D) ≡ a % (360 * c) * D = grow a (360 * c) D (mul-pos (zero-lt-suc 359) B) A in
    ap (λ (z : ℕ). z % (360 * D) * c) (mul-one M) ∙ sym l ∙ ap₂ (λ (u v : ℕ). u % v) h (mul_right_comm 360 D c) ∙ r
    ∙ ap (λ (z : ℕ). a % (360 * c) * z) (sym (mul-one D))

rem-value : (y : Float) (a c : ℕ) → 0 < c → HasValue y false a c → rem binary64 y d360 ≡ round binary64 false (a % (360 * c)) c
rem-value nan a c C v = absurd v
rem-value (inf s) a c C v = absurd v
rem-value (fin true m e) a c C v = absurd (let h : true ≡ false = v.0 in cc)
rem-value (fin false m e) a c C v =
    rem-fin m e ∙ round_same binary64 false (m * up e * 1 % (360 * down e)) (down e * 1) (a % (360 * c)) c
    (subst (λ (z : ℕ). 0 < z) (sym (mul-one (down e))) (down_pos e)) C (cross (m * up e) (down e) a c (down_pos e) C v.1)

-- ---- the order and the difference

le-yes : (n m : ℕ) (e : ℤ) → le (fin false 45 (pos n)) (fin false m e) ≡ true → 45 * 2 ^ n * down e ≤ m * up e
le-yes n m e h = go (45 * 2 ^ n * down e) (m * up e) (down e) (le→cross (fin false 45 (pos n)) (fin false m e) tt tt (yes_of h))
  where
    go : (a b d : ℕ) → a + 0 * 1 ≤ b * 1 + 0 * d → a ≤ b
    go a b d k = omega arith

le-no : (n m : ℕ) (e : ℤ) → le (fin false 45 (pos n)) (fin false m e) ≡ false → m * up e < 45 * 2 ^ n * down e
unfolding is_nan
le-no n m e h =
    go (45 * 2 ^ n * down e) (m * up e) (down e) (lt→cross (fin false m e) (fin false 45 (pos n)) tt tt
    (not-le→lt (fin false 45 (pos n)) (fin false m e) tt tt (no_of h)))
  where
    go : (a b d : ℕ) → b * 1 + 0 * d < a + 0 * 1 → b < a
    go a b d k = omega arith

sum-less : (a b c : ℕ) → b ≤ a → sum binary64 false a true b c ≡ round binary64 false (a - b) c
unfolding sum
sum-less a b c h = go (ltb a b) (ltb→lt a b)
  where
    go : (t : Bool) → (T t → a < b) → cond t (round binary64 true (b - a) c) (round binary64 false (a - b) c) ≡ round binary64 false (a - b) c
    go true k = absurd (let l : a < b = k tt in omega arith)
    go false k = refl

sub-is : (n m : ℕ) (e : ℤ) → 45 * 2 ^ n * down e ≤ m * up e
    → sub binary64 (fin false m e) (fin false 45 (pos n)) ≡ round binary64 false (m * up e - 45 * 2 ^ n * down e) (down e)
unfolding sub neg add
sub-is n m e h =
    sum-less (m * up e * 1) (45 * 2 ^ n * down e) (down e * 1) (subst (λ (z : ℕ). 45 * 2 ^ n * down e ≤ z) (sym (mul-one (m * up e))) h)
    ∙ ap₂ (λ (a c : ℕ). round binary64 false (a - 45 * 2 ^ n * down e) c) (mul-one (m * up e)) (mul-one (down e))

-- ---- the difference is exact

-- r of the units of e
by-units : (a r : ℕ) (e : ℤ) → r * up e ≡ a → r < 2 ^ prec binary64 → down e ≤ 2 ^ low binary64 → a < 2 ^ suc (emax binary64) * down e
    → HasValue (round binary64 false a (down e)) false a (down e)
by-units a r e h s f b =
    subst (λ (z : ℕ). HasValue (round binary64 false z (down e)) false z (down e)) h
    (unit-exact binary64 false r e s f (subst (λ (z : ℕ). z < 2 ^ suc (emax binary64) * down e) (sym h) b))

sub-mul : (m n k : ℕ) → (m - n) * k ≡ m * k - n * k
sub-mul m n k = mul_comm (m - n) k ∙ mul-sub k m n ∙ ap₂ (λ (a b : ℕ). a - b) (mul_comm k m) (mul_comm k n)

take-low : (m p q k : ℕ) → p ≡ q * k → (m - 45 * q) * k ≡ m * k - 45 * p * 1
take-low m p q k h = sub-mul m (45 * q) k
    ∙ ap (λ (z : ℕ). m * k - z) (mul_assoc 45 q k ∙ ap (λ (z : ℕ). 45 * z) (sym h) ∙ sym (mul-one (45 * p)))

take-high : (m p q k : ℕ) → k ≡ q * p → (m * q - 45) * p ≡ m * k - 45 * p * 1
take-high m p q k h = sub-mul (m * q) 45 p
    ∙ ap₂ (λ (a b : ℕ). a - b) (mul_assoc m q p ∙ ap (λ (z : ℕ). m * z) (sym h)) (sym (mul-one (45 * p)))

take-part : (m b : ℕ) → (m - b) * 1 ≡ m * 1 - b
take-part m b = mul-one (m - b) ∙ ap (λ (z : ℕ). z - b) (sym (mul-one m))

under : (m q p k w : ℕ) → 0 < p → k ≡ q * p → w ≡ p * 2 → m * k < 45 * w * 1 → m * q - 45 < 45
under m q p k w P h g b =
    let x : m * k ≡ m * q * p = ap (λ (z : ℕ). m * z) h ∙ sym (mul_assoc m q p) in
    let y : 45 * w * 1 ≡ 90 * p = omega arith in
    less (m * q) (lt_of_mul-lt-mul_right p (subst (λ (z : ℕ). m * q * p < z) y (subst (λ (z : ℕ). z < 45 * w * 1) x b)))
  where
    less : (a : ℕ) → a < 90 → a - 45 < 45
    less a c = omega arith

rest-less : (a b c : ℕ) → a < c → a - b < c
rest-less a b c h = omega arith

less-than : (a b c : ℕ) → a < b → b ≤ c → a < c
less-than a b c h k = omega arith

power-gap : (i j : ℕ) → i ≤ j → 2 ^ j ≡ 2 ^ (j - i) * 2 ^ i
power-gap i j h = ap (λ (z : ℕ). 2 ^ z) (back h) ∙ pow-add 2 (j - i) i
  where
    back : i ≤ j → j ≡ j - i + i
    back g = omega arith

twice : (n : ℕ) → 2 ^ (n + 1) ≡ 2 ^ n * 2
twice n = ap (λ (z : ℕ). 2 ^ z) next ∙ pow-suc 2 n
  where
    next : n + 1 ≡ suc n
    next = omega arith

exact : (n m : ℕ) (e : ℤ) → suc m < 2 ^ prec binary64 → down e ≤ 2 ^ low binary64 → suc m * up e < 2 ^ suc (emax binary64) * down e
    → suc m * up e < 45 * 2 ^ (n + 1) * down e
    → HasValue (round binary64 false (suc m * up e - 45 * 2 ^ n * down e) (down e)) false (suc m * up e - 45 * 2 ^ n * down e) (down e)
exact n m (pos a) s f t b = elim (decide (ltb n a)) [
  | inl h ↦ by-units (suc m * 2 ^ a - 45 * 2 ^ n * 1) (suc m * 2 ^ (a - n) - 45) (pos n)
      (take-high (suc m) (2 ^ n) (2 ^ (a - n)) (2 ^ a) (power-gap n a (weaker (ltb→lt n a h))))
      (less-than (suc m * 2 ^ (a - n) - 45) 45 (2 ^ prec binary64) (under (suc m) (2 ^ (a - n)) (2 ^ n) (2 ^ a) (2 ^ (n + 1)) (pow_pos n)
      (power-gap n a (weaker (ltb→lt n a h))) (twice n) b) (lit≤ tt))
      f (rest-less (suc m * 2 ^ a) (45 * 2 ^ n * 1) (2 ^ suc (emax binary64) * 1) t)
  | inr h ↦ by-units (suc m * 2 ^ a - 45 * 2 ^ n * 1) (suc m - 45 * 2 ^ (n - a)) (pos a)
      (take-low (suc m) (2 ^ n) (2 ^ (n - a)) (2 ^ a) (power-gap a n (nltb→le n a h)))
      (rest-less (suc m) (45 * 2 ^ (n - a)) (2 ^ prec binary64) s)
      f (rest-less (suc m * 2 ^ a) (45 * 2 ^ n * 1) (2 ^ suc (emax binary64) * 1) t)
]
  where
    weaker : n < a → n ≤ a
    weaker g = omega arith
exact n m (negsuc k) s f t b =
    by-units (suc m * 1 - 45 * 2 ^ n * 2 ^ suc k) (suc m - 45 * 2 ^ n * 2 ^ suc k) (negsuc k) (take-part (suc m) (45 * 2 ^ n * 2 ^ suc k))
    (rest-less (suc m) (45 * 2 ^ n * 2 ^ suc k) (2 ^ prec binary64) s) f
    (rest-less (suc m * 1) (45 * 2 ^ n * 2 ^ suc k) (2 ^ suc (emax binary64) * 2 ^ suc k) t)

-- ---- the four

under-one : (m u d w a c : ℕ) → 0 < c → 0 < d → m * u * c ≡ a * d → a < w * c → m * u < w * d
under-one m u d w a c C D h b =
    lt_of_mul-lt-mul_right c (subst (λ (z : ℕ). z < w * d * c) (sym h)
    (subst (λ (z : ℕ). a * d < z) (mul_right_comm w c d) (mul-lt-mul_of_pos_right b D)))

previous : (n : ℕ) → 1 ≤ n → n - 1 + 1 ≡ n
previous n h = omega arith

build : (n : ℕ) (x z : Float) (a c : ℕ) → 1 ≤ n → 0 < c → HasValue z false a c → T (fits binary64 z) → a < 45 * 2 ^ n * c
    → rem binary64 z d360 ≡ rem binary64 x d360 → Left (n - 1) x z
build n x nan a c N C v t b s = absurd v
build n x (inf _) a c N C v t b s = absurd v
build n x (fin true m e) a c N C v t b s = absurd (let h : true ≡ false = v.0 in cc)
build n x (fin false m e) a c N C v t b s = record {
  m = m;
  e = e;
  is = refl;
  held = t;
  below = subst (λ (z : ℕ). m * up e < 45 * 2 ^ z * down e) (sym (previous n N))
      (under-one m (up e) (down e) (45 * 2 ^ n) a c C (down_pos e) v.1 b);
  same = s;
}

pub left-begins : (x : Float) (m : ℕ) (e : ℤ) → x ≡ fin false m e → T (fits binary64 x) → Left 1018 x x
left-begins x m e h t = record { m = m; e = e; is = h; held = t; below = go m (subst (λ (z : Float). T (fits binary64 z)) h t); same = refl }
  where
    wide : (a p q d : ℕ) → a < p * d → p ≤ q → 0 < d → a < q * d
    wide a p q d b l D = lt_of_lt_of_le b (mul-le-mul_right d l)

    go : (m : ℕ) → T (fits binary64 (fin false m e)) → m * up e < 45 * 2 ^ (1018 + 1) * down e
    go zero k = subst (λ (z : ℕ). z < 45 * 2 ^ (1018 + 1) * down e) (sym (zero-mul (up e)))
        (mul-pos (mul-pos (zero-lt-suc 44) (pow_pos (1018 + 1))) (down_pos e))
    go (suc m) k = wide (suc m * up e) (2 ^ suc (emax binary64)) (45 * 2 ^ (1018 + 1)) (down e) (Held.small (held binary64 false m e k)) (lit≤ tt) (down_pos e)

pub left-stays : (n : ℕ) (x y : Float) → 1 ≤ n → Left n x y → le (fin false 45 (pos n)) y ≡ false → Left (n - 1) x y
left-stays n x y N l h = record {
  m = l.m;
  e = l.e;
  is = l.is;
  held = l.held;
  below = subst (λ (z : ℕ). l.m * up l.e < 45 * 2 ^ z * down l.e) (sym (previous n N))
      (le-no n l.m l.e (subst (λ (z : Float). le (fin false 45 (pos n)) z ≡ false) l.is h));
  same = l.same;
}

pub left-ends : (x y : Float) → Left 2 x y → y ≡ rem binary64 x d360
left-ends x y l =
    let M : ℕ = l.m * up l.e in
    let D : ℕ = down l.e in
    let small : M * 1 < 360 * D = subst (λ (z : ℕ). z < 360 * D) (sym (mul-one M)) l.below in
    l.is ∙ sym (round-own binary64 false l.m l.e (subst (λ (z : Float). T (fits binary64 z)) l.is l.held))
    ∙ ap₂ (λ (a c : ℕ). round binary64 false a c) (sym (mul-one M) ∙ sym (mod-eq_of_lt small)) (sym (mul-one D))
    ∙ sym (rem-fin l.m l.e) ∙ ap (λ (z : Float). rem binary64 z d360) (sym l.is) ∙ l.same

fewer : (n a c : ℕ) → 3 ≤ n → 45 * 2 ^ n * c ≤ a → (a - 45 * 2 ^ n * c) % (360 * c) ≡ a % (360 * c)
fewer n a c N h =
    let q : ℕ = 2 ^ (n - 3) in
    let p : 45 * 2 ^ n * c ≡ q * (360 * c) = regroup (2 ^ n) q c (power-gap 3 n N) in
    sym (add-mul-mod_self_right (a - 45 * 2 ^ n * c) q (360 * c))
    ∙ ap (λ (z : ℕ). z % (360 * c)) (ap (λ (z : ℕ). a - 45 * 2 ^ n * c + z) (sym p) ∙ whole a (45 * 2 ^ n * c) h)
  where
    flip : (k q : ℕ) → k ≡ q * 8 → 45 * k ≡ q * 360
    flip k q e = omega arith

    regroup : (k q c : ℕ) → k ≡ q * 8 → 45 * k * c ≡ q * (360 * c)
    regroup k q c e = ap (λ (z : ℕ). z * c) (flip k q e) ∙ mul_assoc q 360 c

    whole : (a b : ℕ) → b ≤ a → a - b + b ≡ a
    whole a b l = omega arith

half-left : (a p w c : ℕ) → w ≡ p * 2 → a < 45 * w * c → a - 45 * p * c < 45 * p * c
half-left a p w c h b = go a (45 * p * c) (subst (λ (z : ℕ). a < z) (twofold p w c h) b)
  where
    go : (a t : ℕ) → a < t + t → a - t < t
    go a t l = omega arith

    twofold : (p w c : ℕ) → w ≡ p * 2 → 45 * w * c ≡ 45 * p * c + 45 * p * c
    twofold p w c e = ap (λ (z : ℕ). 45 * z * c) e ∙ grind arith

taken : (n : ℕ) (x : Float) (m : ℕ) (e : ℤ) → 3 ≤ n → T (fits binary64 (fin false m e)) → m * up e < 45 * 2 ^ (n + 1) * down e
    → rem binary64 (fin false m e) d360 ≡ rem binary64 x d360 → 45 * 2 ^ n * down e ≤ m * up e
    → Left (n - 1) x (sub binary64 (fin false m e) (fin false 45 (pos n)))
taken n x zero e N t b s h =
    absurd (none (45 * 2 ^ n * down e) (zero * up e) (mul-pos (mul-pos (zero-lt-suc 44) (pow_pos n)) (down_pos e)) (zero-mul (up e)) h)
  where
    none : (a z : ℕ) → 0 < a → z ≡ 0 → a ≤ z → ⊥
    none a z p q r = omega arith
taken n x (suc m) e N t b s h =
    let A : ℕ = suc m * up e in
    let C : ℕ = down e in
    let k : Held binary64 (suc m) e = held binary64 false m e t in
    let r : Float = round binary64 false (A - 45 * 2 ^ n * C) C in
    let v : HasValue r false (A - 45 * 2 ^ n * C) C = exact n m e k.short k.fine k.small b in
    let same : rem binary64 r d360 ≡ rem binary64 x d360 = rem-value r (A - 45 * 2 ^ n * C) C (down_pos e) v
    ∙ ap (λ (z : ℕ). round binary64 false z C) (fewer n A C N h)
    ∙ sym (rem-value (fin false (suc m) e) A C (down_pos e) (refl, refl)) ∙ s in
    subst (λ (z : Float). Left (n - 1) x z) (sym (sub-is n (suc m) e h))
    (build n x r (A - 45 * 2 ^ n * C) C (some N) (down_pos e) v (round-fits binary64 false (A - 45 * 2 ^ n * C) C)
    (half-left A (2 ^ n) (2 ^ (n + 1)) C (twice n) b) same)
  where
    some : 3 ≤ n → 1 ≤ n
    some g = omega arith

pub left-taken : (n : ℕ) (x y : Float) → 3 ≤ n → n ≤ 1018 → Left n x y → le (fin false 45 (pos n)) y ≡ true
    → Left (n - 1) x (sub binary64 y (fin false 45 (pos n)))
left-taken n x y N _ l h =
    subst (λ (z : Float). Left (n - 1) x (sub binary64 z (fin false 45 (pos n)))) (sym l.is)
    (taken n x l.m l.e N (subst (λ (z : Float). T (fits binary64 z)) l.is l.held) l.below
    (ap (λ (z : Float). rem binary64 z d360) (sym l.is) ∙ l.same)
    (le-yes n l.m l.e (subst (λ (z : Float). le (fin false 45 (pos n)) z ≡ true) l.is h)))
