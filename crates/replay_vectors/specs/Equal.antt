-- Columns of numbers that are the same, by the comparison, are equal, and a column is the same as itself; so `==` of slices says whether
-- they are. Assumes nothing.
use Rattle.std.specs.Prelude.{Bool, true, false, List, ◌≡◌, refl, ℕ, zero, suc, ◌<◌, eqb, ℤ, pos, negsuc, length, get_or}
use Rattle.std.proofs.Common.{⊎_elim, sym, ap, subst, eq-or-lt_of_le, arith, eqb-true, eq-eqb, ext_get_or}
use Rattle.std.proofs.lemmas.Bool.Decides.{same_from_decides, Decides-eqb, Decides-int_eq}
use Rattle.std.proofs.lemmas.Slice.Eq.{slice_eq-Decides}
use Rattle.std.specs.Cmp.Lexicographic.{pointwise}
use Rattle.std.specs.Ordering.{int_eq}
use Rattle.floats.specs.laws.Table.{upto}
use Rattle.kdslots.specs.laws.Bounds.{and_both}
use Rattle.replay_vectors.specs.Same.{place_at, same_places, eq_long, long_at, same_longs}

not-both : ◌≡◌ {A = Bool} false true → ⊥
not-both e = let z : ◌≡◌ {A = ℕ} 0 1 = cc in omega arith

-- each passes
upto-each : (f : ℕ → Bool) (k i : ℕ) → i < k → upto f k ≡ true → f i ≡ true
upto-each f zero i l e = let z : ⊥ = omega arith in absurd z
upto-each f (suc k) i l e =
    let w = and_both (f k) (upto f k) e in
    ⊎_elim (λ q. subst (λ (j : ℕ). f j ≡ true) (sym q) w.0) (λ m. upto-each f k i m w.1)
    (eq-or-lt_of_le {n = i} {m = k} (omega arith))

pub places-equal : (a b : List ℕ) → same_places a b ≡ true → a ≡ b
unfolding same_places
places-equal a b e =
    let w = and_both (eqb (length a) (length b)) (upto (place_at a b) (length a)) e in
    ext_get_or 0 a b (eqb-true (length a) (length b) w.0)
    (λ i h. eqb-true (get_or a i 0) (get_or b i 0) (upto-each (place_at a b) (length a) i h w.1))

pub places-self : (a : List ℕ) → same_places a a ≡ true
unfolding same_places
places-self a = rw (eq-eqb (length a) (length a) refl) (go (length a))
  where
    go : (k : ℕ) → upto (place_at a a) k ≡ true
    go zero = refl
    go (suc k) = rw (go k, eq-eqb (get_or a k 0) (get_or a k 0) refl)

-- what `==` of two slices says
pub places-compared : (a b : List ℕ) (r : Bool) → r ≡ pointwise eqb a b → r ≡ same_places a b
places-compared a b r e =
    same_from_decides r (same_places a b) (slice_eq-Decides Decides-eqb a b r e)
    (places-equal a b, λ q. subst (λ (l : List ℕ). same_places a l ≡ true) q (places-self a))

-- the same of numbers with a sign
pub long-equal : (a b : ℤ) → eq_long a b ≡ true → a ≡ b
long-equal (pos a) (pos b) e = ap pos (eqb-true a b e)
long-equal (pos a) (negsuc b) e = absurd (not-both e)
long-equal (negsuc a) (pos b) e = absurd (not-both e)
long-equal (negsuc a) (negsuc b) e = ap negsuc (eqb-true a b e)

long-self : (a : ℤ) → eq_long a a ≡ true
long-self (pos a) = eq-eqb a a refl
long-self (negsuc a) = eq-eqb a a refl

pub eq-long : (a b : ℤ) → a ≡ b → eq_long a b ≡ true
eq-long a b e = subst (λ (z : ℤ). eq_long a z ≡ true) e (long-self a)

other : (a b : ℤ) (t : Bool) → eq_long a b ≡ t → (a ≡ b → ⊥) → t ≡ false
other a b true e h = absurd (h (long-equal a b e))
other a b false e h = refl

pub ne-long : (a b : ℤ) → (a ≡ b → ⊥) → eq_long a b ≡ false
ne-long a b h = other a b (eq_long a b) refl h

pub longs-equal : (a b : List ℤ) → same_longs a b ≡ true → a ≡ b
unfolding same_longs
longs-equal a b e =
    let w = and_both (eqb (length a) (length b)) (upto (long_at a b) (length a)) e in
    ext_get_or (pos 0) a b (eqb-true (length a) (length b) w.0)
    (λ i h. long-equal (get_or a i (pos 0)) (get_or b i (pos 0)) (upto-each (long_at a b) (length a) i h w.1))

pub longs-self : (a : List ℤ) → same_longs a a ≡ true
unfolding same_longs
longs-self a = rw (eq-eqb (length a) (length a) refl) (go (length a))
  where
    go : (k : ℕ) → upto (long_at a a) k ≡ true
    go zero = refl
    go (suc k) = rw (go k, long-self (get_or a k (pos 0)))

pub longs-compared : (a b : List ℤ) (r : Bool) → r ≡ pointwise int_eq a b → r ≡ same_longs a b
longs-compared a b r e =
    same_from_decides r (same_longs a b) (slice_eq-Decides Decides-int_eq a b r e)
    (longs-equal a b, λ q. subst (λ (l : List ℤ). same_longs a l ≡ true) q (longs-self a))
