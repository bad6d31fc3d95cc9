-- The places of a list that pass a test: of two lists joined, by one test and then another, of none that pass; and what is in the list and
-- passes is kept. Assumes nothing.
use Rattle.std.specs.Prelude.{Bool, true, false, ◌&&◌, ◌≡◌, refl, List, [], ◌∷◌, ◌++◌, ℕ, ◌≤◌, ◌<◌}
use Rattle.std.proofs.Common.{ap, ◌∙◌}
use Rattle.kdslots.specs.laws.Members.{In, BetweenSlots}
use Rattle.kdslots.specs.Keep.{put, keep}

put-append : (b : Bool) (x : ℕ) (r s : List ℕ) → put b x (r ++ s) ≡ put b x r ++ s
put-append true x r s = refl
put-append false x r s = refl

pub keep_append : (p : ℕ → Bool) (xs ys : List ℕ) → keep p (xs ++ ys) ≡ keep p xs ++ keep p ys
keep_append p [] ys = refl
keep_append p (x ∷ xs) ys = ap (λ (l : List ℕ). put (p x) x l) (keep_append p xs ys) ∙ put-append (p x) x (keep p xs) (keep p ys)

-- kept by one test and then by another
keep-put : (p : ℕ → Bool) (b : Bool) (x : ℕ) (xs r : List ℕ) → r ≡ keep p xs → put (b && p x) x r ≡ keep p (put b x xs)
keep-put p true x xs r h = ap (λ (l : List ℕ). put (p x) x l) h
keep-put p false x xs r h = h

pub keep-both : (p q r : ℕ → Bool) → ((k : ℕ) → r k ≡ (p k && q k)) → (xs : List ℕ) → keep r xs ≡ keep q (keep p xs)
keep-both p q r h [] = refl
keep-both p q r h (x ∷ xs) = ap (λ (b : Bool). put b x (keep r xs)) (h x)
    ∙ keep-put q (p x) x (keep p xs) (keep r xs) (keep-both p q r h xs)

-- nothing is kept where nothing passes
pub keep-none : (p : ℕ → Bool) (lo hi : ℕ) (xs : List ℕ) → BetweenSlots lo hi xs → ((i : ℕ) → lo ≤ i → i < hi → p i ≡ false)
    → keep p xs ≡ []
unfolding BetweenSlots
keep-none p lo hi [] b f = refl
keep-none p lo hi (x ∷ xs) b f = rw (f x b.0 b.1) (keep-none p lo hi xs b.2 f)

-- what is in the list and passes is kept
pub keep-passing : (p : ℕ → Bool) (i : ℕ) (xs : List ℕ) → In i xs → p i ≡ true → In i (keep p xs)
keep-passing p i xs m e =
    (keep p m.0, keep p m.1, ap (keep p) m.2 ∙ keep_append p m.0 (i ∷ m.1) ∙ ap (λ (z : List ℕ). keep p m.0 ++ z) (rw e))
