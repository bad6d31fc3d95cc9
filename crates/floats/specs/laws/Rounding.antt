-- Rounding with a sign: `Rounds f x P N c` says that x is (P - N) / c, rounded to the format f; a zero may have either sign. It keeps the
-- order. A sum, a difference, a product and a quotient of finite values are such (Monotone). Assumes nothing.
use Rattle.std.specs.Prelude.{◌≡◌, ℕ, zero, suc, ◌+◌, ◌-◌, ◌*◌, ◌^◌, ◌<◌, ◌≤◌, Bool, true, false, cond, not, T, ◌⊎◌, pos, nat_lt, Float}
use Rattle.std.proofs.Math.Path.{refl}
use Rattle.std.proofs.Common.{sym, ap, ◌∙◌, subst, inl, inr, add-mul, mul-le-mul_right, mul-pos, zero-mul, zero-lt-suc, eq-zero-or-pos, arith}
use Rattle.std.specs.Float.{nan, inf, fin, Format, binary32}
use Rattle.std.specs.Float.Ieee.{binary64, prec, emax, low, up, down, le, odd, units, round, neg}
use Rattle.std.specs.Float.Ieee.Scale.{round_same}
use Rattle.std.specs.Float.Ieee.Order.{round_mono}
use Rattle.floats.specs.laws.Fraction.{le→cross, cross→le}
use Rattle.floats.specs.laws.Order.{le-le-trans}

-- ---- negation turns the order round
turn : (a b c d : ℕ) → a + b ≤ c + d → b + a ≤ d + c
turn a b c d h = omega arith

pub neg-le : (x y : Float) → T (le x y) → T (le (neg y) (neg x))
neg-le nan y h = absurd (unfold le in h)
neg-le (inf s) nan h = absurd (unfold le in h)
neg-le (inf true) (inf true) h = unfold le neg in tt
neg-le (inf true) (inf false) h = unfold le neg in tt
neg-le (inf false) (inf true) h = absurd (unfold le in h)
neg-le (inf false) (inf false) h = unfold le neg in tt
neg-le (inf true) (fin t n d) h = unfold le neg in tt
neg-le (inf false) (fin t n d) h = absurd (unfold le in h)
neg-le (fin s m e) nan h = absurd (unfold le in h)
neg-le (fin s m e) (inf true) h = absurd (unfold le in h)
neg-le (fin s m e) (inf false) h = unfold le neg in tt
neg-le (fin false m e) (fin false n d) h = unfold neg in
    cross→le (fin true n d) (fin true m e) tt tt
    (turn (m * up e * down d) (0 * down e) (n * up d * down e) (0 * down d) (le→cross (fin false m e) (fin false n d) tt tt h))
neg-le (fin false m e) (fin true n d) h = unfold neg in
    cross→le (fin false n d) (fin true m e) tt tt
    (turn (m * up e * down d) (n * up d * down e) (0 * down e) (0 * down d) (le→cross (fin false m e) (fin true n d) tt tt h))
neg-le (fin true m e) (fin false n d) h = unfold neg in
    cross→le (fin true n d) (fin false m e) tt tt
    (turn (0 * down d) (0 * down e) (n * up d * down e) (m * up e * down d) (le→cross (fin true m e) (fin false n d) tt tt h))
neg-le (fin true m e) (fin true n d) h = unfold neg in
    cross→le (fin false n d) (fin false m e) tt tt
    (turn (0 * down d) (n * up d * down e) (0 * down e) (m * up e * down d) (le→cross (fin true m e) (fin true n d) tt tt h))

neg-odd : (d : ℕ) (s : Bool) (q k l : ℕ) → neg (odd d s q k l) ≡ odd d (not s) q k l
unfolding odd neg
neg-odd d s zero k l = refl
neg-odd d s (suc q) k l = refl

neg-units : (f : Format) (s : Bool) (q k : ℕ) → neg (units f s q k) ≡ units f (not s) q k
unfolding units
neg-units f s q k = go (nat_lt (q * 2 ^ k) (2 ^ (low f + suc (emax f))))
  where
    go : (b : Bool) → neg (cond b (odd (suc (prec f)) s q k (low f)) (inf s)) ≡ cond b (odd (suc (prec f)) (not s) q k (low f))
        (inf (not s))
    go true = neg-odd (suc (prec f)) s q k (low f)
    go false = unfold neg in refl

pub neg-round : (f : Format) (s : Bool) (a c : ℕ) → neg (round f s a c) ≡ round f (not s) a c
unfolding round
neg-round f s a c = neg-units f s _ _

-- ---- zeros
pub round-zero : (f : Format) (s : Bool) (c : ℕ) → 0 < c → round f s 0 c ≡ fin s 0 (pos 0)
round-zero f s c C = round_same f s 0 c 0 1 C (zero-lt-suc 0) (sym (zero-mul c)) ∙ go f
  where
    go : (f : Format) → round f s 0 1 ≡ fin s 0 (pos 0)
    go binary32 = unfold round in refl
    go binary64 = unfold round in refl

pub zero-le-round : (f : Format) (b d : ℕ) → 0 < d → T (le (fin false 0 (pos 0)) (round f false b d))
zero-le-round f b d D = subst (λ (z : Float). T (le z (round f false b d))) (round-zero f false d D)
    (round_mono f 0 d b d D D (mul-le-mul_right d Prim.Native.Nat.zero-le))

pub round-le-zero : (f : Format) (b d : ℕ) → 0 < d → T (le (round f true b d) (fin true 0 (pos 0)))
round-le-zero f b d D = subst (λ (z : Float). T (le z (fin true 0 (pos 0)))) (neg-round f false b d)
    (unfold neg in neg-le (fin false 0 (pos 0)) (round f false b d) (zero-le-round f b d D))

-- ---- rounding with a sign
abbrev pub Rounds : Format → Float → ℕ → ℕ → ℕ → Type 0
Rounds f x P N c = ((N ≤ P) × (x ≡ round f false (P - N) c)) ⊎ ((P ≤ N) × (x ≡ round f true (N - P) c))

-- (P - N) / c ≤ (P' - N') / c'
abbrev pub Below : ℕ → ℕ → ℕ → ℕ → ℕ → ℕ → Type 0
Below P N c P' N' c' = P * c' + N' * c ≤ P' * c + N * c'

split : (P N c : ℕ) → N ≤ P → P * c ≡ (P - N) * c + N * c
split P N c h = ap (λ (z : ℕ). z * c) whole ∙ add-mul (P - N) N c
  where
    whole : P ≡ P - N + N
    whole = omega arith

no-factor : (a c : ℕ) → 0 < c → a * c ≤ 0 → a ≡ 0
no-factor a c C h = elim (eq-zero-or-pos a) [ inl z ↦ z | inr p ↦ absurd (bad (a * c) (mul-pos p C) h) ]
  where
    bad : (x : ℕ) → 0 < x → x ≤ 0 → ⊥
    bad x p q = omega arith

pub rounds-mono : (f : Format) (x y : Float) (P N c P' N' c' : ℕ) → 0 < c → 0 < c' → Rounds f x P N c → Rounds f y P' N' c'
    → Below P N c P' N' c' → T (le x y)
rounds-mono f x y P N c P' N' c' C C' (inl p) (inl q) h =
    subst (λ (z : Float). T (le z y)) (sym p.1) (subst (λ (z : Float). T (le (round f false (P - N) c) z)) (sym q.1)
    (round_mono f (P - N) c (P' - N') c' C C' (omega (arith, split P N c' p.0, split P' N' c q.0))))
rounds-mono f x y P N c P' N' c' C C' (inl p) (inr q) h =
    let a : (P - N) * c' ≤ 0 = omega (arith, split P N c' p.0, split N' P' c q.0) in
    let b : (N' - P') * c ≤ 0 = omega (arith, split P N c' p.0, split N' P' c q.0) in
    subst (λ (z : Float). T (le z y)) (sym (p.1 ∙ ap (λ (z : ℕ). round f false z c) (no-factor (P - N) c' C' a) ∙ round-zero f false c C))
    (subst (λ (z : Float). T (le (fin false 0 (pos 0)) z))
    (sym (q.1 ∙ ap (λ (z : ℕ). round f true z c') (no-factor (N' - P') c C b) ∙ round-zero f true c' C'))
    (unfold le in tt))
rounds-mono f x y P N c P' N' c' C C' (inr p) (inl q) h =
    subst (λ (z : Float). T (le z y)) (sym p.1) (subst (λ (z : Float). T (le (round f true (N - P) c) z)) (sym q.1)
    (le-le-trans (round f true (N - P) c) (fin true 0 (pos 0)) (round f false (P' - N') c') (round-le-zero f (N - P) c C)
    (le-le-trans (fin true 0 (pos 0)) (fin false 0 (pos 0)) (round f false (P' - N') c') (unfold le in tt)
    (zero-le-round f (P' - N') c' C'))))
rounds-mono f x y P N c P' N' c' C C' (inr p) (inr q) h =
    subst (λ (z : Float). T (le z y)) (sym (p.1 ∙ sym (neg-round f false (N - P) c)))
    (subst (λ (z : Float). T (le (neg (round f false (N - P) c)) z)) (sym (q.1 ∙ sym (neg-round f false (N' - P') c')))
    (neg-le (round f false (N' - P') c') (round f false (N - P) c)
    (round_mono f (N' - P') c' (N - P) c C' C (omega (arith, split N P c' p.0, split N' P' c q.0)))))
