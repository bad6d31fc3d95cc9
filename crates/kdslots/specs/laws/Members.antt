-- Members of a list of numbers, where one stands in joined lists, and lists with no number twice. Assumes nothing.
use Rattle.std.specs.Prelude.{◌≡◌, Bool, true, false, ◌⊎◌, List, [], ◌∷◌, ◌++◌, ℕ, ◌+◌, ◌≤◌, ◌<◌}
use Rattle.std.proofs.Common.{sym, ap, ◌∙◌, inl, inr, ⊎_elim, append_assoc, le_refl, arith}
use Rattle.kdslots.specs.Slots.{when}

-- c is in l
abbrev pub In : ℕ → List ℕ → Type 0
In c l = (pre : List ℕ) × (post : List ℕ) × (l ≡ pre ++ c ∷ post)

-- k is not in l
abbrev pub NotIn : ℕ → List ℕ → Type 0
NotIn k [] = Unit
NotIn k (j ∷ js) = (k ≡ j → ⊥) × NotIn k js

-- no number is in l twice
abbrev pub Distinct : List ℕ → Type 0
Distinct [] = Unit
Distinct (k ∷ ks) = NotIn k ks × Distinct ks

-- each number of l is from lo up to hi
unfoldable pub BetweenSlots : ℕ → ℕ → List ℕ → Type 0
BetweenSlots lo hi [] = Unit
BetweenSlots lo hi (k ∷ ks) = (lo ≤ k) × (k < hi) × BetweenSlots lo hi ks

-- ---- members of joined lists

pub in_left : (c : ℕ) (a b : List ℕ) → In c a → In c (a ++ b)
in_left c a b p = (p.0, p.1 ++ b, ap (λ (z : List ℕ). z ++ b) p.2 ∙ append_assoc p.0 (c ∷ p.1) b)

pub in_right : (c : ℕ) (a b : List ℕ) → In c b → In c (a ++ b)
in_right c a b p = (a ++ p.0, p.1, ap (λ (z : List ℕ). a ++ z) p.2 ∙ sym (append_assoc a p.0 (c ∷ p.1)))

pub in-when : (c : ℕ) (b : Bool) (l : List ℕ) → b ≡ true → In c l → In c (when b l)
in-when c b l e p = rw e p

-- ---- where a member stands

-- c stands in the first list or in the second
pub split : (a b pre : List ℕ) (c : ℕ) (post : List ℕ) → a ++ b ≡ pre ++ c ∷ post
    → ((d : List ℕ) × (a ≡ pre ++ c ∷ d) × (post ≡ d ++ b)) ⊎ ((d : List ℕ) × (b ≡ d ++ c ∷ post))
split [] b pre c post e = inr (pre, e)
split (x ∷ a) b [] c post e = inl (a, cc, cc)
split (x ∷ a) b (y ∷ pre) c post e =
    let f : a ++ b ≡ pre ++ c ∷ post = cc in
    let g : x ≡ y = cc in
    ⊎_elim (λ w. inl (w.0, cc w.1, w.2)) (λ w. inr (w.0, w.1)) (split a b pre c post f)

pub no-nil : (pre : List ℕ) (c : ℕ) (post : List ℕ) → [] ≡ pre ++ c ∷ post → ⊥
no-nil [] c post e = let z : ◌≡◌ {A = ℕ} 0 1 = cc in omega arith
no-nil (x ∷ pre) c post e = let z : ◌≡◌ {A = ℕ} 0 1 = cc in omega arith

pub when-all : (b : Bool) (l pre : List ℕ) (c : ℕ) (post : List ℕ) → when b l ≡ pre ++ c ∷ post → l ≡ pre ++ c ∷ post
when-all true l pre c post e = e
when-all false l pre c post e = absurd (no-nil pre c post e)

pub sole : (m : ℕ) (pre : List ℕ) (c : ℕ) (post : List ℕ) → m ∷ [] ≡ pre ++ c ∷ post → (c ≡ m) × (post ≡ [])
sole m [] c post e = (cc, cc)
sole m (x ∷ pre) c post e = let f : [] ≡ pre ++ c ∷ post = cc in absurd (no-nil pre c post f)

-- ---- lists within bounds

pub widen : (a b lo hi : ℕ) (l : List ℕ) → lo ≤ a → b ≤ hi → BetweenSlots a b l → BetweenSlots lo hi l
unfolding BetweenSlots
widen a b lo hi [] p q w = tt
widen a b lo hi (k ∷ ks) p q w = (omega (arith, w.0), omega (arith, w.1), widen a b lo hi ks p q w.2)

pub between-append : (lo hi : ℕ) (a b : List ℕ) → BetweenSlots lo hi a → BetweenSlots lo hi b → BetweenSlots lo hi (a ++ b)
unfolding BetweenSlots
between-append lo hi [] b p q = q
between-append lo hi (k ∷ ks) b p q = (p.0, p.1, between-append lo hi ks b p.2 q)

pub between-when : (t : Bool) (lo hi : ℕ) (l : List ℕ) → BetweenSlots lo hi l → BetweenSlots lo hi (when t l)
unfolding BetweenSlots
between-when true lo hi l w = w
between-when false lo hi l w = tt

pub between-one : (m : ℕ) → BetweenSlots m (m + 1) (m ∷ [])
unfolding BetweenSlots
between-one m = (le_refl m, omega arith, tt)

-- a member of such a list
pub between_in : (lo hi : ℕ) (pre : List ℕ) (c : ℕ) (post : List ℕ) → BetweenSlots lo hi (pre ++ c ∷ post) → (lo ≤ c) × (c < hi)
unfolding BetweenSlots
between_in lo hi [] c post w = (w.0, w.1)
between_in lo hi (k ∷ pre) c post w = between_in lo hi pre c post w.2

-- ---- lists apart

pub apart-left : (k lo hi : ℕ) (l : List ℕ) → BetweenSlots lo hi l → k < lo → NotIn k l
unfolding BetweenSlots
apart-left k lo hi [] w h = tt
apart-left k lo hi (j ∷ js) w h = ((λ e. omega (arith, w.0, e)), apart-left k lo hi js w.2 h)

pub apart-right : (k lo hi : ℕ) (l : List ℕ) → BetweenSlots lo hi l → hi ≤ k → NotIn k l
unfolding BetweenSlots
apart-right k lo hi [] w h = tt
apart-right k lo hi (j ∷ js) w h = ((λ e. omega (arith, w.1, e)), apart-right k lo hi js w.2 h)

pub notin-append : (k : ℕ) (a b : List ℕ) → NotIn k a → NotIn k b → NotIn k (a ++ b)
notin-append k [] b p q = q
notin-append k (j ∷ js) b p q = (p.0, notin-append k js b p.1 q)

-- the first list lies right of the second
pub distinct-right : (m lo hi : ℕ) (a b : List ℕ) → BetweenSlots m hi a → BetweenSlots lo m b → Distinct a → Distinct b → Distinct (a ++ b)
unfolding BetweenSlots
distinct-right m lo hi [] b p q x y = y
distinct-right m lo hi (k ∷ ks) b p q x y =
    (notin-append k ks b x.0 (apart-right k lo m b q p.0), distinct-right m lo hi ks b p.2 q x.1 y)

pub distinct-when : (t : Bool) (l : List ℕ) → Distinct l → Distinct (when t l)
distinct-when true l d = d
distinct-when false l d = tt

pub distinct-one : (t : Bool) (m : ℕ) (l : List ℕ) → NotIn m l → Distinct l → Distinct (when t (m ∷ []) ++ l)
distinct-one true m l p d = (p, d)
distinct-one false m l p d = d
