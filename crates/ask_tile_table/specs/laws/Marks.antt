-- Marks of places, a bit each, eight to a byte: a place that is marked is marked, and every other is as before. Assumes nothing.
use Rattle.std.specs.Prelude.{◌≡◌, refl, Bool, true, false, List, ℕ, zero, suc, ◌+◌, ◌-◌, ◌*◌, ◌/◌, ◌%◌, ◌^◌, ◌<◌, eqb, ltb, length, get_or, set, replicate}
use Rattle.std.proofs.Common.{sym, ap, ◌∙◌, subst, arith, mul_comm, pow-add, pow_pos, get_or-set_same, get_or-set_other, ltb-true, ltb-false, eqb-true, eq-eqb}
use Rattle.std.proofs.Math.Nat.{zero-div, pow-succ', div-div-eq-div-mul, add-div_right, add-mul-div_right}
use Rattle.std.proofs.lemmas.List.{get_or-replicate}
use Rattle.std.proofs.lemmas.Bool.{eqb-false}

-- a number below 8 is one of eight
eight : (P : ℕ → Type 0) → P 0 → P 1 → P 2 → P 3 → P 4 → P 5 → P 6 → P 7 → (j : ℕ) → j < 8 → P j
eight P p0 p1 p2 p3 p4 p5 p6 p7 zero h = p0
eight P p0 p1 p2 p3 p4 p5 p6 p7 (suc zero) h = p1
eight P p0 p1 p2 p3 p4 p5 p6 p7 (suc (suc zero)) h = p2
eight P p0 p1 p2 p3 p4 p5 p6 p7 (suc (suc (suc zero))) h = p3
eight P p0 p1 p2 p3 p4 p5 p6 p7 (suc (suc (suc (suc zero)))) h = p4
eight P p0 p1 p2 p3 p4 p5 p6 p7 (suc (suc (suc (suc (suc zero))))) h = p5
eight P p0 p1 p2 p3 p4 p5 p6 p7 (suc (suc (suc (suc (suc (suc zero)))))) h = p6
eight P p0 p1 p2 p3 p4 p5 p6 p7 (suc (suc (suc (suc (suc (suc (suc zero))))))) h = p7
eight P p0 p1 p2 p3 p4 p5 p6 p7 (suc (suc (suc (suc (suc (suc (suc (suc j)))))))) h = absurd (omega arith)

-- the bit i of b was 0: with it, a higher bit is as before, and so is a lower one
next-even : (q d : ℕ) → q % 2 ≡ 0 → (q + 1) / 2 ^ suc d ≡ q / 2 ^ suc d
next-even q d e =
    let h : (q + 1) / 2 ≡ q / 2 = omega arith in
    ap (λ (k : ℕ). (q + 1) / k) (pow-succ' 2 d) ∙ sym (div-div-eq-div-mul (q + 1) 2 (2 ^ d)) ∙ ap (λ (k : ℕ). k / 2 ^ d) h
    ∙ div-div-eq-div-mul q 2 (2 ^ d) ∙ ap (λ (k : ℕ). q / k) (sym (pow-succ' 2 d))

above : (b i d : ℕ) → b / 2 ^ i % 2 ≡ 0 → (b + 2 ^ i) / 2 ^ (i + suc d) ≡ b / 2 ^ (i + suc d)
above b i d e =
    ap (λ (k : ℕ). (b + 2 ^ i) / k) (pow-add 2 i (suc d)) ∙ sym (div-div-eq-div-mul (b + 2 ^ i) (2 ^ i) (2 ^ suc d))
    ∙ ap (λ (k : ℕ). k / 2 ^ suc d) (add-div_right b (pow_pos i))
    ∙ next-even (b / 2 ^ i) d e ∙ div-div-eq-div-mul b (2 ^ i) (2 ^ suc d) ∙ ap (λ (k : ℕ). b / k) (sym (pow-add 2 i (suc d)))

beneath : (b j d : ℕ) → (b + 2 ^ (j + suc d)) / 2 ^ j % 2 ≡ b / 2 ^ j % 2
beneath b j d =
    let p : 2 ^ (j + suc d) ≡ 2 ^ suc d * 2 ^ j = pow-add 2 j (suc d) ∙ mul_comm (2 ^ j) (2 ^ suc d) in
    let q : (b + 2 ^ suc d * 2 ^ j) / 2 ^ j ≡ b / 2 ^ j + 2 ^ suc d = add-mul-div_right b (2 ^ suc d) (pow_pos j) in
    let r : 2 ^ suc d ≡ 2 * 2 ^ d = pow-succ' 2 d in
    let t : (b / 2 ^ j + 2 ^ suc d) % 2 ≡ b / 2 ^ j % 2 = rw r (omega arith) in
    ap (λ (k : ℕ). (b + k) / 2 ^ j % 2) p ∙ ap (λ (k : ℕ). k % 2) q ∙ t

pub bit-other : (b i j : ℕ) → (i ≡ j → ⊥) → b / 2 ^ i % 2 ≡ 0 → (b + 2 ^ i) / 2 ^ j % 2 ≡ b / 2 ^ j % 2
bit-other b i j n e = go (ltb i j) (ltb j i) refl refl
  where
    up : (k : ℕ) → i + suc (j - i - 1) ≡ k → (b + 2 ^ i) / 2 ^ k % 2 ≡ b / 2 ^ k % 2
    up k q = subst (λ (k : ℕ). (b + 2 ^ i) / 2 ^ k % 2 ≡ b / 2 ^ k % 2) q (ap (λ (x : ℕ). x % 2) (above b i (j - i - 1) e))

    down : (k : ℕ) → j + suc (i - j - 1) ≡ k → (b + 2 ^ k) / 2 ^ j % 2 ≡ b / 2 ^ j % 2
    down k q = subst (λ (k : ℕ). (b + 2 ^ k) / 2 ^ j % 2 ≡ b / 2 ^ j % 2) q (beneath b j (i - j - 1))

    go : (t u : Bool) → ltb i j ≡ t → ltb j i ≡ u → (b + 2 ^ i) / 2 ^ j % 2 ≡ b / 2 ^ j % 2
    go true u f g = up j (omega (arith, ltb-true i j f))
    go false true f g = down i (omega (arith, ltb-true j i g))
    go false false f g = absurd (n (omega (arith, ltb-false i j f, ltb-false j i g)))

pub bit-same : (b i : ℕ) → i < 8 → b / 2 ^ i % 2 ≡ 0 → (b + 2 ^ i) / 2 ^ i % 2 ≡ 1
bit-same b i h = eight (λ i. b / 2 ^ i % 2 ≡ 0 → (b + 2 ^ i) / 2 ^ i % 2 ≡ 1) (λ e. omega arith) (λ e. omega arith) (λ e. omega arith)
    (λ e. omega arith) (λ e. omega arith) (λ e. omega arith) (λ e. omega arith) (λ e. omega arith) i h

pub bit-fits : (b i : ℕ) → i < 8 → b < 256 → b / 2 ^ i % 2 ≡ 0 → b + 2 ^ i < 256
bit-fits b i h l = eight (λ i. b / 2 ^ i % 2 ≡ 0 → b + 2 ^ i < 256) (λ e. omega arith) (λ e. omega arith) (λ e. omega arith)
    (λ e. omega arith) (λ e. omega arith) (λ e. omega arith) (λ e. omega arith) (λ e. omega arith) i h

-- whether the place p is marked
unfoldable pub marked_places : List ℕ → ℕ → Bool
marked_places m p = eqb (get_or m (p / 8) 0 / 2 ^ (p % 8) % 2) 1

-- the place p, which was not, is marked
unfoldable pub mark_place : List ℕ → ℕ → List ℕ
mark_place m p = set m (p / 8) (get_or m (p / 8) 0 + 2 ^ (p % 8))

zero_bit : (x : ℕ) → eqb (x % 2) 1 ≡ false → x % 2 ≡ 0
zero_bit x e = go (x % 2) (omega arith) (eqb-false (x % 2) 1 e)
  where
    go : (r : ℕ) → r < 2 → (r ≡ 1 → ⊥) → r ≡ 0
    go zero h n = refl
    go (suc zero) h n = absurd (n refl)
    go (suc (suc r)) h n = absurd (omega arith)

pub unmarked : (m : List ℕ) (p : ℕ) → marked_places m p ≡ false → get_or m (p / 8) 0 / 2 ^ (p % 8) % 2 ≡ 0
unfolding marked_places
unmarked m p e = zero_bit (get_or m (p / 8) 0 / 2 ^ (p % 8)) e

pub fresh : (n p : ℕ) → p / 8 < n → marked_places (replicate n 0) p ≡ false
unfolding marked_places
fresh n p h = rw (get_or-replicate {A = ℕ} n (p / 8) 0 0 h, zero-div (2 ^ (p % 8)))

pub mark-same : (m : List ℕ) (p : ℕ) → p / 8 < length m → marked_places m p ≡ false → marked_places (mark_place m p) p ≡ true
unfolding marked_places mark_place
mark-same m p h e =
    ap (λ (b : ℕ). eqb (b / 2 ^ (p % 8) % 2) 1) (get_or-set_same m (p / 8) (get_or m (p / 8) 0 + 2 ^ (p % 8)) 0 h)
    ∙ eq-eqb _ _ (bit-same (get_or m (p / 8) 0) (p % 8) (omega arith) (unmarked m p e))

pub mark-other : (m : List ℕ) (p q : ℕ) → p / 8 < length m → (q ≡ p → ⊥) → marked_places m p ≡ false
    → marked_places (mark_place m p) q ≡ marked_places m q
unfolding marked_places mark_place
mark-other m p q h n e = go (eqb (q / 8) (p / 8)) refl
  where
    go : (b : Bool) → eqb (q / 8) (p / 8) ≡ b → marked_places (mark_place m p) q ≡ marked_places m q
    go true f =
        let g : q / 8 ≡ p / 8 = eqb-true (q / 8) (p / 8) f in
        rw g (ap (λ (b : ℕ). eqb (b / 2 ^ (q % 8) % 2) 1) (get_or-set_same m (p / 8) (get_or m (p / 8) 0 + 2 ^ (p % 8)) 0 h)
        ∙ ap (λ (b : ℕ). eqb b 1) (bit-other (get_or m (p / 8) 0) (p % 8) (q % 8) (λ k. n (omega arith)) (unmarked m p e)))
    go false f = ap (λ (b : ℕ). eqb (b / 2 ^ (q % 8) % 2) 1)
        (get_or-set_other m (p / 8) (q / 8) (get_or m (p / 8) 0 + 2 ^ (p % 8)) 0 (eqb-false (q / 8) (p / 8) f))

-- ---- as the code has it: b is the bit of p

pub marked-is : (m : List ℕ) (p b : ℕ) → b ≡ 2 ^ (p % 8) → eqb (get_or m (p / 8) 0 / b % 2) 1 ≡ marked_places m p
unfolding marked_places
marked-is m p b e = rw e

pub mark-is : (m : List ℕ) (p b : ℕ) → b ≡ 2 ^ (p % 8) → set m (p / 8) (get_or m (p / 8) 0 + b) ≡ mark_place m p
unfolding mark_place
mark-is m p b e = rw e
