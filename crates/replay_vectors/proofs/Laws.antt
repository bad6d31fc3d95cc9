-- Laws of the digits that a word spells, over plain values. Assumes nothing.
use Prim.Native.Nat.{ℕ, zero, suc, ◌+◌, ◌-◌, ◌*◌, ◌/◌, ◌%◌, ◌^◌, ◌≤◌, ◌<◌}
use native.Mathlib.Nat.{pow-le-pow_right, pow-suc, not-suc-le-zero, eq-or-lt_of_le}
use native.Mathlib.Numerals.{add-one}
use native.Mathlib.Omega.{arith}
use mathlib.Core.Bool.{Bool, true, false}
use mathlib.Core.List.{List, [], ◌∷◌, ◌++◌}
use mathlib.Core.Logic.{◌⊎◌, ⊎_elim}
use mathlib.Core.Path.{◌≡◌, refl, sym, ◌∙◌, subst}
use borrow.Author.Tests.{lt-ltb, le-ltb, ltb-true, ltb-false}
use lib.Dec.{ltb}
use lib.ListN.{length, get_or, length-append, get_or-append}
use lib.Seq.{get_or_at}
use Rattle.io.specs.Digits.{hex_digit_ascii, last_digits}
use Rattle.replay_vectors.specs.Words.{digit_is, Spelt}
use Rattle.std.specs.Prelude.{Some, None}

-- the characters of 0 to 9, and those of a to f
glyph-low : (d : ℕ) → d < 10 → hex_digit_ascii d ≡ 48 + d
glyph-low d h = simp (lt-ltb d 10 h)

glyph-high : (d : ℕ) → 10 ≤ d → hex_digit_ascii d ≡ 87 + d
glyph-high d h = simp (le-ltb d 10 h)

pub digit_low : (c : ℕ) → 48 ≤ c → c ≤ 57 → digit_is c (Some (c - 48))
digit_low c h l = (omega arith, glyph-low (c - 48) (omega arith) ∙ omega arith)

pub digit-high : (c : ℕ) → 97 ≤ c → c ≤ 102 → digit_is c (Some (c - 97 + 10))
digit-high c h l = (omega arith, glyph-high (c - 97 + 10) (omega arith) ∙ omega arith)

-- a character outside both is no digit's
Outside : ℕ → Type 0
Outside c = (c < 48) ⊎ (((57 < c) × (c < 97)) ⊎ (102 < c))

outside : (c d : ℕ) → d < 16 → hex_digit_ascii d ≡ c → Outside c → (b : Bool) → ltb d 10 ≡ b → ⊥
unfolding Outside
outside c d h e n true t =
    let g : hex_digit_ascii d ≡ 48 + d = glyph-low d (ltb-true d 10 t) in
    let l : d < 10 = ltb-true d 10 t in
    ⊎_elim (λ a. omega arith) (λ w. ⊎_elim (λ a. omega arith) (λ a. omega arith) w) n
outside c d h e n false t =
    let g : hex_digit_ascii d ≡ 87 + d = glyph-high d (ltb-false d 10 t) in
    let l : 10 ≤ d = ltb-false d 10 t in
    ⊎_elim (λ a. omega arith) (λ w. ⊎_elim (λ a. omega arith) (λ a. omega arith) w) n

pub digit-none : (c : ℕ) → (c < 48) ⊎ (((57 < c) × (c < 97)) ⊎ (102 < c)) → digit_is c None
unfolding Outside
digit-none c n d h e = outside c d h e n (ltb d 10) refl

digits-length : (k n : ℕ) → length (last_digits 16 k n) ≡ k
digits-length zero n = refl
digits-length (suc k) n = rw (length-append, digits-length k (n / 16)) (omega arith)

-- one digit more
digits_more : (k n d : ℕ) → d < 16 → last_digits 16 (suc k) (n * 16 + d) ≡ last_digits 16 k n ++ (hex_digit_ascii d ∷ [])
digits_more k n d h =
    let q : (n * 16 + d) / 16 ≡ n = omega arith in
    let r : (n * 16 + d) % 16 ≡ d = omega arith in
    rw (q, r)

pub spelt-none : (s : List ℕ) (at : ℕ) → Spelt s at 0 0
spelt-none s at = record { small = omega arith; same = λ i h. absurd (not-suc-le-zero h) }

module _ (s : List ℕ) (at k n d : ℕ) (p : Spelt s at k n) (h : d < 16) where
  -- sixteen digits fit 64 bits
  pub spelt-fits : k < 16 → n * 16 + d < 18446744073709551616
  spelt-fits l =
      let w : 16 ^ k ≤ 16 ^ 15 = pow-le-pow_right {n = 16} (omega arith) {i = k} {j = 15} (omega arith) in
      omega (arith, p.small, w)

  -- one more byte that is a digit's
  pub spelt-more : hex_digit_ascii d ≡ get_or s (at + k) 0 → Spelt s at (k + 1) (n * 16 + d)
  spelt-more g =
      record {
        small = rw (add-one, pow-suc) (omega (arith, p.small));
        same = λ i l.
            rw (add-one, digits_more k n d h)
            (⊎_elim
            (λ e. rw e (sym g ∙ sym (get_or_at (last_digits 16 k n) (hex_digit_ascii d) [] 0 k (digits-length k n))))
            (λ m.
            let inside : i < length (last_digits 16 k n) = rw (digits-length k n) m in
            p.same i m ∙ sym (get_or-append (last_digits 16 k n) (hex_digit_ascii d ∷ []) 0 i inside))
            (eq-or-lt_of_le {n = i} {m = k} (omega arith)));
      }

pub spelt-all : (s : List ℕ) (at k n : ℕ) → Spelt s at k n → k ≡ 16 → Spelt s at 16 n
spelt-all s at k n p e = subst (λ (j : ℕ). Spelt s at j n) e p

-- each of the digits of a number is one
digits-at : (k n i : ℕ) → i < k → (d : ℕ) × ((d < 16) × (hex_digit_ascii d ≡ get_or (last_digits 16 k n) i 0))
digits-at zero n i l = absurd (not-suc-le-zero l)
digits-at (suc k) n i l =
    let front = last_digits 16 k (n / 16) in
    ⊎_elim
    (λ e. (n % 16, (omega arith, rw e (sym (get_or_at front (hex_digit_ascii (n % 16)) [] 0 k (digits-length k (n / 16)))))))
    (λ m.
    let w = digits-at k (n / 16) i m in
    let inside : i < length front = rw (digits-length k (n / 16)) m in
    (w.0, (w.1.0, w.1.1 ∙ sym (get_or-append front (hex_digit_ascii (n % 16) ∷ []) 0 i inside))))
    (eq-or-lt_of_le {n = i} {m = k} (omega arith))

-- where one of sixteen bytes is no digit's, they spell no number
pub spelt-bad : (s : List ℕ) (at i : ℕ) → i < 16 → digit_is (get_or s (at + i) 0) None → (n : ℕ) → Spelt s at 16 n → ⊥
spelt-bad s at i l bad n p = let w = digits-at 16 n i l in bad w.0 w.1.0 (w.1.1 ∙ sym (p.same i l))
