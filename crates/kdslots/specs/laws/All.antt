-- A property of each element of a list: what it says of the element at a place, and of lists that are joined or stored in. Assumes nothing.
use Rattle.std.specs.Prelude.{List, [], ◌∷◌, ◌++◌, ℕ, zero, suc, ◌<◌, ◌≤◌, length, get_or, set}
use Rattle.std.proofs.Common.{arith}

-- each element has the property
unfoldable pub All : {A : Type 0} → (A → Type 0) → List A → Type 0
All P [] = Unit
All P (a ∷ l) = P a × All P l

-- each number is below n
abbrev pub AllBelow : ℕ → List ℕ → Type 0
AllBelow n l = All (λ (k : ℕ). k < n) l

pub all_get_d : {A : Type 0} (P : A → Type 0) (l : List A) (i : ℕ) (d : A) → All P l → i < length l → P (get_or l i d)
unfolding All
all_get_d P [] i d a h = absurd (omega arith)
all_get_d P (b ∷ l) zero d a h = a.0
all_get_d P (b ∷ l) (suc i) d a h = all_get_d P l i d a.1 (omega arith)

pub all_of : {A : Type 0} (P : A → Type 0) (l : List A) (d : A) → ((i : ℕ) → i < length l → P (get_or l i d)) → All P l
unfolding All
all_of P [] d f = tt
all_of P (b ∷ l) d f = (f zero (omega arith), all_of P l d (λ i h. f (suc i) (omega arith)))

pub all_append : {A : Type 0} (P : A → Type 0) (l r : List A) → All P l → All P r → All P (l ++ r)
unfolding All
all_append P [] r a b = b
all_append P (c ∷ l) r a b = (a.0, all_append P l r a.1 b)

pub all_snoc : {A : Type 0} (P : A → Type 0) (l : List A) (e : A) → All P l → P e → All P (l ++ (e ∷ []))
unfolding All
all_snoc P l e a p = all_append P l (e ∷ []) a (p, tt)

-- a property that follows from another
pub all_map : {A : Type 0} (P Q : A → Type 0) → ((a : A) → P a → Q a) → (l : List A) → All P l → All Q l
unfolding All
all_map P Q f [] a = tt
all_map P Q f (b ∷ l) a = (f b a.0, all_map P Q f l a.1)

-- an element is stored that has the property if the one before it has
pub all_set : {A : Type 0} (P : A → Type 0) (l : List A) (k : ℕ) (d e : A) → (P (get_or l k d) → P e) → All P l → All P (set l k e)
unfolding All
all_set P [] k d e f a = tt
all_set P (b ∷ l) zero d e f a = (f a.0, a.1)
all_set P (b ∷ l) (suc k) d e f a = (a.0, all_set P l k d e f a.1)

-- ---- numbers below n

pub below_at : (n : ℕ) (l : List ℕ) (i : ℕ) → AllBelow n l → i < length l → get_or l i 0 < n
below_at n l i a h = all_get_d (λ (k : ℕ). k < n) l i 0 a h

pub below-le : (m n : ℕ) (l : List ℕ) → m ≤ n → AllBelow m l → AllBelow n l
below-le m n l h a = all_map (λ (k : ℕ). k < m) (λ (k : ℕ). k < n) (λ k b. omega arith) l a
