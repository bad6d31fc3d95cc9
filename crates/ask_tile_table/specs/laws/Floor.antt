-- The test that the code runs for the tile of a coordinate: x / 2^z <= c, and c < (x + 1) / 2^z but in the last tile. Both quotients are
-- exact, so the test is the floor. Assumes nothing.
use Rattle.std.specs.Prelude.{◌≡◌, refl, Bool, true, cond, ◌&&◌, ℕ, suc, min, ◌+◌, ◌-◌, ◌*◌, ◌/◌, ◌^◌, ◌≤◌, ◌<◌, T, leb, eqb, Float}
use Rattle.std.proofs.Common.{sym, ◌∙◌, subst, true≢false, le_trans, le_of_eq, lt_of_lt_of_le, mul-one, mul_assoc, mul_right_comm, mul-le-mul_right, le_of_mul-le-mul_right, mul-lt-mul_of_pos_right, le-div_iff_mul-le, div-lt_iff_lt-mul, mul_comm, zero-lt-suc, arith, lit≤, pow-add, pow_pos, pow_mono, eqb-true, eq-eqb, ne_eqb, leb-true, leb-false, le-leb}
use Rattle.std.proofs.Math.Path.{ap}
use Rattle.std.proofs.Math.Bool.{false, not}
use Rattle.std.specs.Float.{nan, inf, fin, Format, binary32}
use Rattle.std.specs.Float.Ieee.{binary64, prec, emax, low, le, lt, round, add, div}
use Rattle.std.specs.Float.Ieee.Exact.{HasValue, round_exact}
use Rattle.std.specs.Float.Ieee.Scale.{finite}
use Rattle.std.specs.Float.Ieee.Positive.{den, den_pos}
use Rattle.std.proofs.lemmas.Bool.{eqb-false}
use Rattle.floats.specs.Numbers.{zero, one, two, float}
use Rattle.floats.specs.Fraction.{plus}
use Rattle.floats.specs.laws.Fraction.{mins, is_true, yes_of, no_of, le→cross, cross→le, lt→cross}
use Rattle.floats.specs.laws.Order.{finite-not-nan, lt_not_le, not-le→lt, le_lt_trans, lt→le}
use Rattle.floats.specs.laws.Unit.{In01, In01-finite}
use Rattle.floats.specs.laws.Whole.{of_int-value, of_int-add, of_int-one, of_int-div-self, div-at}
use Rattle.kdslots.specs.laws.Bounds.{and_both}
use Rattle.ask_tile_table.specs.Floor.{floor_of, home_of}

-- ---- the test

-- v / 2^z; and (v + 1) / 2^z, but past every coordinate for the last tile
abbrev pub begins : ℕ → ℕ → Float
begins z v = div binary64 (float v) (float (2 ^ z))

abbrev pub ends : ℕ → ℕ → Float
ends z v = cond (eqb (v + 1) (2 ^ z)) two (div binary64 (add binary64 (float v) one) (float (2 ^ z)))

abbrev pub holds : ℕ → ℕ → Float → Bool
holds z v c = le (begins z v) c && lt c (ends z v)

-- ---- the quotients are exact

fit : (f : Format) → prec f ≤ suc (emax f)
fit binary32 = lit≤ tt
fit binary64 = lit≤ tt

quotient-exact : (f : Format) (v z : ℕ) → z ≤ low f → v < 2 ^ prec f → HasValue (round f false v (2 ^ z)) false v (2 ^ z)
quotient-exact f v z Z L =
    round_exact f false v (2 ^ z) v (low f - z) (pow_pos z) L
    (lt_of_lt_of_le (mul-lt-mul_of_pos_right L (pow_pos (low f - z)))
    (le_trans (le_of_eq (sym (pow-add 2 (prec f) (low f - z)))) (pow_mono (room (low f) (prec f) (emax f) (fit f)))))
    (ap (λ (k : ℕ). v * k) (ap (λ (k : ℕ). 2 ^ k) (back (low f) Z) ∙ pow-add 2 (low f - z) z) ∙ sym (mul_assoc v (2 ^ (low f - z)) (2 ^ z)))
  where
    room : (l p e : ℕ) → p ≤ suc e → p + (l - z) ≤ l + suc e
    room l p e h = omega arith

    back : (l : ℕ) → z ≤ l → l ≡ l - z + z
    back l h = omega arith

side-fits : (z : ℕ) → z ≤ 31 → 2 ^ z ≤ 2 ^ 53
side-fits z Z = pow_mono {i = z} {j = 53} (le_trans Z (lit≤ tt))

edge-value : (z v : ℕ) → z ≤ 31 → v ≤ 2 ^ z → HasValue (div binary64 (float v) (float (2 ^ z))) false v (2 ^ z)
edge-value z v Z L =
    let n = 2 ^ z in
    let S = side-fits z Z in
    let W : v ≤ 2 ^ 53 = le_trans L S in
    let X : v < 2 ^ 53 = lt-of-le-of-lt' L (pow_mono {i = z} {j = 31} Z) in
    let e : div binary64 (float v) (float n) ≡ round binary64 false v n =
    div-at binary64 (float v) (float n) v 1 n 1 (zero-lt-suc 0) (zero-lt-suc 0) (pow_pos z) (of_int-value binary64 v W)
    (of_int-value binary64 n S)
    ∙ ap (λ (k : ℕ). round binary64 false k (n * 1)) (mul-one v) ∙ ap (λ (k : ℕ). round binary64 false v k) (mul-one n) in
    subst (λ (q : Float). HasValue q false v n) (sym e) (quotient-exact binary64 v z (le_trans Z (lit≤ tt)) X)
  where
    lt-of-le-of-lt' : v ≤ 2 ^ z → 2 ^ z ≤ 2 ^ 31 → v < 2 ^ 53
    lt-of-le-of-lt' a b = le_trans (sucs a b) (lit≤ tt)
      where
        sucs : v ≤ 2 ^ z → 2 ^ z ≤ 2147483648 → suc v ≤ 2147483649
        sucs a b = omega arith

-- ---- a test against an edge

edge-parts : (E : Float) (v n : ℕ) → HasValue E false v n → (plus E * n ≡ v * den E) × (mins E ≡ 0) × T (finite E)
edge-parts nan v n h = absurd h
edge-parts (inf s) v n h = absurd h
edge-parts (fin true m e) v n h = absurd (true≢false h.0)
edge-parts (fin false m e) v n h = (h.1, refl, tt)

low-mins : (c : Float) → T (finite c) → T (le zero c) → mins c ≡ 0
low-mins nan f h = absurd f
low-mins (inf s) f h = absurd f
low-mins (fin false m e) f h = refl
low-mins (fin true m e) f h = let k = le→cross zero (fin true m e) tt tt h in omega arith

-- P / D = v / n is at most Q / C just where v * C ≤ Q * n
up_to : (P D Q C v n : ℕ) → 0 < D → P * n ≡ v * D → P * C ≤ Q * D → v * C ≤ Q * n
up_to P D Q C v n d e h =
    le_of_mul-le-mul_right (le_trans (le_of_eq (mul_right_comm v C D ∙ ap (λ (k : ℕ). k * C) (sym e) ∙ mul_right_comm P n C))
    (le_trans (mul-le-mul_right n h) (le_of_eq (mul_right_comm Q D n)))) d

up_from : (P D Q C v n : ℕ) → 0 < n → P * n ≡ v * D → v * C ≤ Q * n → P * C ≤ Q * D
up_from P D Q C v n d e h =
    le_of_mul-le-mul_right (le_trans (le_of_eq (mul_right_comm P C n ∙ ap (λ (k : ℕ). k * C) e ∙ mul_right_comm v D C))
    (le_trans (mul-le-mul_right D h) (le_of_eq (mul_right_comm Q n D)))) d

same_test : (a b : Bool) → (a ≡ true → b ≡ true) → (b ≡ true → a ≡ true) → a ≡ b
same_test true b f g = sym (f refl)
same_test false true f g = g refl
same_test false false f g = refl

module _ (E c : Float) (v n : ℕ) (N : 0 < n) (h : HasValue E false v n) (u : In01 c) where
  fc : T (finite c)
  fc = In01-finite c u

  f_e : T (finite E)
  f_e = (edge-parts E v n h).2

  crossed : plus E * den c + mins c * den E ≤ plus c * den E + mins E * den c → plus E * den c ≤ plus c * den E
  crossed k = let a = low-mins c fc u.0 in let b = (edge-parts E v n h).1 in simp' (rw (a, b) at k)
    where
      simp' : plus E * den c + 0 * den E ≤ plus c * den E + 0 * den c → plus E * den c ≤ plus c * den E
      simp' k = omega arith

  uncrossed : plus E * den c ≤ plus c * den E → plus E * den c + mins c * den E ≤ plus c * den E + mins E * den c
  uncrossed k = let a = low-mins c fc u.0 in let b = (edge-parts E v n h).1 in rw (a, b) (simp' k)
    where
      simp' : plus E * den c ≤ plus c * den E → plus E * den c + 0 * den E ≤ plus c * den E + 0 * den c
      simp' k = omega arith

  -- an edge v / n is at most c where v is at most floor of c * n
  edge_test : le E c ≡ leb v (floor_of n c)
  edge_test =
      let p = (edge-parts E v n h).0 in
      same_test (le E c) (leb v (floor_of n c))
      (λ e. le-leb v (floor_of n c) ((le-div_iff_mul-le (den_pos c)).1
      (up_to (plus E) (den E) (plus c) (den c) v n (den_pos E) p (crossed (le→cross E c f_e fc (yes_of e))))))
      (λ e. is_true (le E c) (cross→le E c f_e fc
      (uncrossed (up_from (plus E) (den E) (plus c) (den c) v n N p ((le-div_iff_mul-le (den_pos c)).0 (leb-true v (floor_of n c) e))))))

  -- and otherwise past it
  past-test : lt c E ≡ not (leb v (floor_of n c))
  past-test = go (le E c) refl ∙ ap not edge_test
    where
      go : (b : Bool) → le E c ≡ b → lt c E ≡ not (le E c)
      go true e = rw e (no (lt c E) refl)
        where
          no : (b : Bool) → lt c E ≡ b → lt c E ≡ false
          no true q = absurd (lt_not_le c E (yes_of q) (yes_of e))
          no false q = q
      go false e = rw e (is_true (lt c E) (not-le→lt E c (finite-not-nan E f_e) (finite-not-nan c fc) (no_of e)))

-- ---- the test is the floor

pick-last : (v f n : ℕ) → v + 1 ≡ n → (leb v f && true) ≡ eqb (min f (n - 1)) v
pick-last v f n e = go (leb v f) refl
  where
    go : (b : Bool) → leb v f ≡ b → (leb v f && true) ≡ eqb (min f (n - 1)) v
    go true q = let h = leb-true v f q in let k : min f (n - 1) ≡ v = omega arith in rw (q, eq-eqb (min f (n - 1)) v k)
    go false q = let h = leb-false v f q in let k : min f (n - 1) ≡ v → ⊥ = λ w. omega arith in rw (q, ne_eqb (min f (n - 1)) v k)

pick-inner : (v f n : ℕ) → v < n → (v + 1 ≡ n → ⊥) → (leb v f && not (leb (v + 1) f)) ≡ eqb (min f (n - 1)) v
pick-inner v f n l e = go (leb v f) (leb (v + 1) f) refl refl
  where
    m : v + 1 < n
    m = ne v n l e
      where
        ne : (v n : ℕ) → v < n → (v + 1 ≡ n → ⊥) → v + 1 < n
        ne v n a b = omega arith

    go : (a b : Bool) → leb v f ≡ a → leb (v + 1) f ≡ b → (leb v f && not (leb (v + 1) f)) ≡ eqb (min f (n - 1)) v
    go true true p q =
        let h = leb-true (v + 1) f q in
        let k : min f (n - 1) ≡ v → ⊥ = λ w. omega arith in
        rw (p, q, ne_eqb (min f (n - 1)) v k)
    go true false p q =
        let h = leb-true v f p in
        let g = leb-false (v + 1) f q in
        let k : min f (n - 1) ≡ v = omega arith in
        rw (p, q, eq-eqb (min f (n - 1)) v k)
    go false b p q = let h = leb-false v f p in let k : min f (n - 1) ≡ v → ⊥ = λ w. omega arith in rw (p, ne_eqb (min f (n - 1)) v k)

next-is : (z v : ℕ) → z ≤ 31 → v < 2 ^ z → add binary64 (float v) one ≡ float (v + 1)
next-is z v Z L = ap (add binary64 (float v)) (sym of_int-one) ∙ of_int-add binary64 v 1 (le_trans (up (2 ^ z) L) (side-fits z Z))
  where
    up : (n : ℕ) → v < n → v + 1 ≤ n
    up n h = omega arith

-- the test says just where c is at home
pub holds-is : (z v : ℕ) → z ≤ 31 → v < 2 ^ z → (c : Float) → In01 c → holds z v c ≡ eqb (home_of z c) v
unfolding home_of
holds-is z v Z L c u =
    let n = 2 ^ z in
    let f = floor_of n c in
    let a : le (begins z v) c ≡ leb v f = edge_test (begins z v) c v n (pow_pos z) (edge-value z v Z (less n L)) u in
    go (eqb (v + 1) n) refl a
  where
    less : (n : ℕ) → v < n → v ≤ n
    less n h = omega arith

    next : (n : ℕ) → v < n → v + 1 ≤ n
    next n h = omega arith

    go : (b : Bool) → eqb (v + 1) (2 ^ z) ≡ b → le (begins z v) c ≡ leb v (floor_of (2 ^ z) c)
        → holds z v c ≡ eqb (min (floor_of (2 ^ z) c) (2 ^ z - 1)) v
    go true e a =
        let t : lt c two ≡ true = is_true (lt c two) (le_lt_trans c one two u.1 (unfold lt in tt)) in
        rw (e, a, t) (pick-last v (floor_of (2 ^ z) c) (2 ^ z) (eqb-true (v + 1) (2 ^ z) e))
    go false e a =
        let i : div binary64 (add binary64 (float v) one) (float (2 ^ z)) ≡ begins z (v + 1) =
        ap (λ (q : Float). div binary64 q (float (2 ^ z))) (next-is z v Z L) in
        let t : lt c (begins z (v + 1)) ≡ not (leb (v + 1) (floor_of (2 ^ z) c)) =
        past-test (begins z (v + 1)) c (v + 1) (2 ^ z) (pow_pos z) (edge-value z (v + 1) Z (next (2 ^ z) L)) u in
        rw (e, a, i, t) (pick-inner v (floor_of (2 ^ z) c) (2 ^ z) L (eqb-false (v + 1) (2 ^ z) e))

-- it is one of the tiles
pub home_below : (z : ℕ) (c : Float) → home_of z c < 2 ^ z
unfolding home_of
home_below z c = go (2 ^ z) (floor_of (2 ^ z) c) (pow_pos z)
  where
    go : (n f : ℕ) → 0 < n → min f (n - 1) < n
    go n f h = omega arith

-- ---- in words of the floor

-- 1.0 is in the last
pub home-one : (z : ℕ) → home_of z one ≡ 2 ^ z - 1
unfolding home_of
home-one z = go (2 ^ z) (pow_pos z)
  where
    go : (n : ℕ) → 0 < n → min (1 * n / 1) (n - 1) ≡ n - 1
    go n h = omega arith

-- every other is in its floor
pub home-floor : (z : ℕ) (c : Float) → In01 c → T (lt c one) → home_of z c ≡ floor_of (2 ^ z) c
unfolding home_of
home-floor z c u l =
    let n = 2 ^ z in
    let k = lt→cross c one (In01-finite c u) tt l in
    let m = low-mins c (In01-finite c u) u.0 in
    let s : plus c < den c = small (plus c) (mins c) (den c) m k in
    under (floor_of n c) n ((div-lt_iff_lt-mul (den_pos c)).1
    (subst (λ (d : ℕ). plus c * n < d) (mul_comm (den c) n) (mul-lt-mul_of_pos_right s (pow_pos z))))
  where
    small : (p q d : ℕ) → q ≡ 0 → p * 1 + 0 * d < 1 * d + q * 1 → p < d
    small p q d e h = omega arith

    under : (f n : ℕ) → f < n → min f (n - 1) ≡ f
    under f n h = omega arith

-- ---- what is at home lies between the tile's edges

pub within : (z v : ℕ) → z ≤ 31 → v < 2 ^ z → (c : Float) → In01 c → home_of z c ≡ v
    → T (le (div binary64 (float v) (float (2 ^ z))) c) × T (le c (div binary64 (add binary64 (float v) one) (float (2 ^ z))))
within z v Z L c u e =
    let h : holds z v c ≡ true = holds-is z v Z L c u ∙ eq-eqb (home_of z c) v e in
    let w = and_both (le (begins z v) c) (lt c (ends z v)) h in
    (yes_of w.0, go (eqb (v + 1) (2 ^ z)) refl w.1)
  where
    go : (b : Bool) → eqb (v + 1) (2 ^ z) ≡ b → lt c (ends z v) ≡ true
        → T (le c (div binary64 (add binary64 (float v) one) (float (2 ^ z))))
    go true q l =
        let n : v + 1 ≡ 2 ^ z = eqb-true (v + 1) (2 ^ z) q in
        let i : div binary64 (add binary64 (float v) one) (float (2 ^ z)) ≡ one =
        ap (λ (k : Float). div binary64 k (float (2 ^ z))) (next-is z v Z L ∙ ap float n)
        ∙ of_int-div-self binary64 (2 ^ z) (pow_pos z) (side-fits z Z) ∙ of_int-one in
        subst (λ (k : Float). T (le c k)) (sym i) u.1
    go false q l = lt→le c (div binary64 (add binary64 (float v) one) (float (2 ^ z))) (yes_of (rw q at l))
