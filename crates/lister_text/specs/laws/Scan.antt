-- What is read of a line, each part over what is left of the text. Assumes nothing.
use Rattle.std.specs.Prelude.{ℕ, suc, ◌+◌, ◌-◌, ◌*◌, ◌<◌, ◌≤◌, Bool, true, false, cond, List, [], ◌∷◌, ◌≡◌, refl, ltb, leb, eqb, length, drop, take, get_or, Option, Some, None}
use Rattle.std.specs.Char.{is_ascii_digit}
use Rattle.std.specs.List.{starts_with}
use Rattle.std.proofs.Common.{◌&&◌, ap, sym, ◌∙◌, drop-drop, drop_of_length-le, eqb-true, eq-eqb}
use Rattle.std.proofs.Math.Numerals.{add-one}
use Rattle.std.proofs.Math.Seq.{drop-cons}
use Rattle.std.proofs.lemmas.Bool.Decides.{same_from_decides, Decides-eqb}
use Rattle.std.proofs.lemmas.Option.{none-some, some_pair_parts}

-- what was read with the place past it, where it was
abbrev pub came_to : {A : Type 0} → Option A → ℕ → Option (A × ℕ)
came_to (Some a) at = Some (a, at)
came_to None at = None

-- the next byte
abbrev pub byte_at : ℕ → List ℕ → Option (ℕ × ℕ)
byte_at at [] = None
byte_at at (c ∷ s) = Some (c, at + 1)

-- the rest of a number of which v is read, up to its line's end: no digit after a 0, at most seven digits
unfoldable pub more_text : ℕ → ℕ → List ℕ → Option (ℕ × ℕ)
more_text v at [] = None
more_text v at (c ∷ s) =
    cond (eqb c 10) (Some (v, at + 1))
    (cond (is_ascii_digit c)
    (cond (ltb v 1) None
    (cond (ltb 999999 v) None
    (more_text (v * 10 + (c - 48)) (at + 1) s)))
    None)

-- a number and its line's end
unfoldable pub number_of : ℕ → List ℕ → Option (ℕ × ℕ)
number_of at [] = None
number_of at (c ∷ s) =
    cond (is_ascii_digit c) (more_text (c - 48) (at + 1) s) None

unfoldable pub at_most : ℕ → Option (ℕ × ℕ) → Option (ℕ × ℕ)
at_most max (Some p) = cond (leb p.0 max) (Some p) None
at_most max None = None

-- a whole line at a place of the text
unfoldable pub line_of : List ℕ → ℕ → List ℕ → ℕ → Option (ℕ × ℕ)
line_of s at key max =
    cond (ltb (length s) at) None
    (cond (starts_with eqb (drop at s) key)
    (at_most max (number_of (at + length key) (drop (at + length key) s)))
    None)

-- ---- where the next byte is read, what is left of the text begins with it

byte-by : (s : List ℕ) (at c to : ℕ) (l : List ℕ) → drop at s ≡ l → ◌≡◌ {A = Option (ℕ × ℕ)} (Some (c, to)) (byte_at at l)
    → (l ≡ c ∷ drop to s) × (to ≡ at + 1)
byte-by s at c to [] e q = absurd (none-some (c, to) (sym q))
byte-by s at c to (d ∷ l) e q =
    let p = some_pair_parts c d to (at + 1) q in
    let r : drop (at + 1) s ≡ l = sym (drop-drop 1 at s) ∙ ap (drop 1) e in
    ((λ k. sym p.0 k ∷ (sym r ∙ ap (λ (n : ℕ). drop n s) (sym p.1)) k), p.1)

module _ (s : List ℕ) (at c to : ℕ) (e : ◌≡◌ {A = Option (ℕ × ℕ)} (Some (c, to)) (byte_at at (drop at s))) where
  begins : drop at s ≡ c ∷ drop to s
  begins = (byte-by s at c to (drop at s) refl e).0

  past : at + 1 ≡ to
  past = sym (byte-by s at c to (drop at s) refl e).1

  pub more-byte : (v : ℕ) → more_text v at (drop at s) ≡ cond (eqb c 10) (Some (v, to))
      (cond (is_ascii_digit c)
      (cond (ltb v 1) None (cond (ltb 999999 v) None (more_text (v * 10 + (c - 48)) to (drop to s)))) None)
  unfolding more_text
  more-byte v =
      ap (more_text v at) begins
      ∙ ap (λ (k : ℕ). cond (eqb c 10) (Some (v, k)) (cond (is_ascii_digit c)
      (cond (ltb v 1) None (cond (ltb 999999 v) None (more_text (v * 10 + (c - 48)) k (drop to s)))) None)) past

  pub number-byte : number_of at (drop at s) ≡ cond (is_ascii_digit c) (more_text (c - 48) to (drop to s)) None
  unfolding number_of
  number-byte = ap (number_of at) begins ∙ ap (λ (k : ℕ). cond (is_ascii_digit c) (more_text (c - 48) k (drop to s)) None) past

no-byte : (at : ℕ) (l : List ℕ) → None ≡ byte_at at l → l ≡ []
no-byte at [] e = refl
no-byte at (c ∷ l) e = absurd (none-some (c, at + 1) e)

module _ (at : ℕ) (l : List ℕ) (e : None ≡ byte_at at l) where
  pub more-end : (v : ℕ) → more_text v at l ≡ None
  unfolding more_text
  more-end v = ap (more_text v at) (no-byte at l e)

  pub number-end : number_of at l ≡ None
  unfolding number_of
  number-end = ap (number_of at) (no-byte at l e)

-- ---- what a place of a text is read as, by the byte that stands there; past the end nothing is

-- two bytes are compared either way round
eqb-turned : (k c : ℕ) → eqb k c ≡ eqb c k
eqb-turned k c =
    same_from_decides (eqb k c) (eqb c k) (Decides-eqb k c)
    ((λ e. sym (eqb-true c k e)), (λ e. eq-eqb c k (sym e)))

first-same : (b b' r : Bool) → b ≡ b' → (b && r) ≡ cond b' r false
first-same true true r e = refl
first-same true false r e = ap (λ (b : Bool). b && r) e
first-same false true r e = ap (λ (b : Bool). b && r) e
first-same false false r e = refl

starts-cons : (k c : ℕ) (ks s : List ℕ) → starts_with eqb (c ∷ s) (k ∷ ks) ≡ cond (eqb c k) (starts_with eqb s ks) false
starts-cons k c ks s = first-same (eqb k c) (eqb c k) (starts_with eqb s ks) (eqb-turned k c)

module _ (s : List ℕ) (at : ℕ) where
  pub here : at < length s → drop at s ≡ get_or s at 0 ∷ drop (at + 1) s
  here h = rw (add-one, drop-cons s at 0)

  pub starts-here : (key : List ℕ) (i : ℕ) → at < length s → i < length key
      → starts_with eqb (drop at s) (drop i key)
      ≡ cond (eqb (get_or s at 0) (get_or key i 0)) (starts_with eqb (drop (at + 1) s) (drop (i + 1) key)) false
  starts-here key i h k =
      rw (add-one, drop-cons s at 0 h, add-one, drop-cons key i 0 k)
      (starts-cons (get_or key i 0) (get_or s at 0) (drop (suc i) key) (drop (suc at) s))

  pub starts-short : (key : List ℕ) (i : ℕ) → length s ≤ at → i < length key → starts_with eqb (drop at s) (drop i key) ≡ false
  starts-short key i h k = rw (drop_of_length-le s h, drop-cons key i 0 k)

  pub starts-all : (key : List ℕ) (i : ℕ) → length key ≤ i → starts_with eqb (drop at s) (drop i key) ≡ true
  starts-all key i h = rw (drop_of_length-le key h)

  pub more-here : (v : ℕ) → at < length s → more_text v at (drop at s) ≡ more_text v at (get_or s at 0 ∷ drop (at + 1) s)
  more-here v h = rw (here h)

  pub more-short : (v : ℕ) → length s ≤ at → more_text v at (drop at s) ≡ None
  unfolding more_text
  more-short v h = rw (drop_of_length-le s h)

  pub number-here : at < length s → number_of at (drop at s) ≡ number_of at (get_or s at 0 ∷ drop (at + 1) s)
  number-here h = rw (here h)

  pub number_short : length s ≤ at → number_of at (drop at s) ≡ None
  unfolding number_of
  number_short h = rw (drop_of_length-le s h)
