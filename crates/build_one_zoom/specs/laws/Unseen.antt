-- What is unseen in a table: how many entries, and how many lamps they count. A store that marks an unseen entry takes it from both
-- numbers, no mark adds to them, and a parent changes neither. The unseen among distinct neighbours count no more lamps than all that are
-- unseen. Assumes nothing.
use Rattle.std.specs.Prelude.{◌≡◌, refl, Bool, true, false, cond, List, [], ◌∷◌, ◌++◌, ℕ, zero, suc, ◌+◌, ◌<◌, ◌≤◌, eqb, length, set, drop, take}
use Rattle.std.proofs.Common.{ap, sym, ◌∙◌, arith, le_refl, lt-ltb, le-ltb, ltb-true, eqb-true, take-append-drop, length-set, get_or-set_same, get_or-set_other, length-take-le}
use Rattle.std.proofs.Math.Decide.{dec_lt}
use Rattle.std.proofs.lemmas.Bool.{eqb-false}
use Rattle.std.proofs.Math.ListN.{get_or-append}
use Rattle.std.proofs.Math.Seq.{set_out}
use Rattle.kdslots.specs.laws.All.{All, AllBelow}
use Rattle.kdslots.specs.laws.Members.{Distinct, NotIn}
use Rattle.build_tables.specs.declared.Entry.{Entry}
use Rattle.build_tables.specs.Entries.{Table, entry, none, unseen, marked, under}
use Rattle.build_one_zoom.specs.Scanned.{unseen_count, unseen_of}
use Rattle.build_one_zoom.specs.Zoom.{adds, more_of}
use Rattle.build_one_zoom.specs.laws.Steps.{more_yes, more_no, more-nil}

-- what stands past a table's end is seen
pub unseen-in : (z : ℕ) (t : Table) (k : ℕ) → z < (entry t k).seen → k < length t
unseen-in z [] k h = let q : ⊥ = omega arith in absurd q
unseen-in z (a ∷ t) zero h = omega arith
unseen-in z (a ∷ t) (suc k) h = let r = unseen-in z t k h in omega (arith, r)

-- ---- an unseen entry is marked

pub unseen_count-mark : (z : ℕ) (t : Table) (k : ℕ) (e : Entry) → k < length t → z < (entry t k).seen → e.seen ≤ z
    → unseen_count z t ≡ suc (unseen_count z (set t k e))
unfolding unseen_count
unseen_count-mark z [] k e h u v = let q : ⊥ = omega arith in absurd q
unseen_count-mark z (a ∷ t) zero e h u v = simp (lt-ltb z a.seen u, le-ltb z e.seen v) (omega arith)
unseen_count-mark z (a ∷ t) (suc k) e h u v =
    let r = unseen_count-mark z t k e (omega arith) u v in omega (arith, r)

pub unseen_of-mark : (f : Entry → ℕ) (z : ℕ) (t : Table) (k : ℕ) (e : Entry) → k < length t → z < (entry t k).seen → e.seen ≤ z
    → unseen_of f z t ≡ f (entry t k) + unseen_of f z (set t k e)
unfolding unseen_of
unseen_of-mark f z [] k e h u v = let q : ⊥ = omega arith in absurd q
unseen_of-mark f z (a ∷ t) zero e h u v = simp (lt-ltb z a.seen u, le-ltb z e.seen v) (omega arith)
unseen_of-mark f z (a ∷ t) (suc k) e h u v =
    let r = unseen_of-mark f z t k e (omega arith) u v in omega (arith, r)

-- ---- an entry that is seen is stored, whatever stood there

pub unseen_count-le : (z : ℕ) (t : Table) (k : ℕ) (e : Entry) → e.seen ≤ z → unseen_count z (set t k e) ≤ unseen_count z t
unfolding unseen_count
unseen_count-le z [] k e h = le_refl 0
unseen_count-le z (a ∷ t) zero e h = rw (le-ltb z e.seen h) (omega arith)
unseen_count-le z (a ∷ t) (suc k) e h = let r = unseen_count-le z t k e h in omega (arith, r)

pub unseen_of-le : (f : Entry → ℕ) (z : ℕ) (t : Table) (k : ℕ) (e : Entry) → e.seen ≤ z → unseen_of f z (set t k e) ≤ unseen_of f z t
unfolding unseen_of
unseen_of-le f z [] k e h = le_refl 0
unseen_of-le f z (a ∷ t) zero e h = rw (le-ltb z e.seen h) (omega arith)
unseen_of-le f z (a ∷ t) (suc k) e h = let r = unseen_of-le f z t k e h in omega (arith, r)

-- ---- a parent is stored

pub unseen_count-under : (z : ℕ) (t : Table) (k p : ℕ) → unseen_count z (set t k (under p (entry t k))) ≡ unseen_count z t
unfolding unseen_count
unseen_count-under z [] k p = refl
unseen_count-under z (a ∷ t) zero p = refl
unseen_count-under z (a ∷ t) (suc k) p = let r = unseen_count-under z t k p in omega (arith, r)

pub unseen_of-under : (f : Entry → ℕ) → ((e : Entry) (q : ℕ) → f (under q e) ≡ f e)
    → (z : ℕ) (t : Table) (k p : ℕ) → unseen_of f z (set t k (under p (entry t k))) ≡ unseen_of f z t
unfolding unseen_of
unseen_of-under f g z [] k p = refl
unseen_of-under f g z (a ∷ t) zero p = rw (g a p)
unseen_of-under f g z (a ∷ t) (suc k) p = let r = unseen_of-under f g z t k p in omega (arith, r)

-- ---- how many at most, and none

pub unseen_count-length : (z : ℕ) (t : Table) → unseen_count z t ≤ length t
unfolding unseen_count
unseen_count-length z [] = le_refl 0
unseen_count-length z (a ∷ t) = by (unseen z a) (unseen_count-length z t)
  where
    by : (b : Bool) → unseen_count z t ≤ length t → cond b 1 0 + unseen_count z t ≤ suc (length t)
    by true h = omega (arith, h)
    by false h = omega (arith, h)

pub unseen_of-none : (f : Entry → ℕ) (z : ℕ) (t : Table) → ((j : ℕ) → j < length t → (entry t j).seen ≤ z) → unseen_of f z t ≡ 0
unfolding unseen_of
unseen_of-none f z [] g = refl
unseen_of-none f z (e ∷ t) g =
    let r = unseen_of-none f z t (λ j h. g (suc j) (omega arith)) in
    rw (le-ltb z e.seen (g 0 (omega arith))) (omega (arith, r))

-- ---- the neighbours

-- a store at a place that is no neighbour's
pub more_same : (f : Entry → ℕ) (z : ℕ) (t : Table) (k : ℕ) (e : Entry) (l : List ℕ) → NotIn k l → more_of f z (set t k e) l ≡ more_of f z t l
unfolding more_of
more_same f z t k e [] h = refl
more_same f z t k e (j ∷ js) h =
    rw (get_or-set_other t k j e none (λ q. h.0 (sym q))) (ap (λ (q : ℕ). adds f z (entry t j) + q) (more_same f z t k e js h.1))

-- rows past the neighbours change nothing
more-grow : (f : Entry → ℕ) (z : ℕ) (t r : Table) (l : List ℕ) → AllBelow (length t) l → more_of f z (t ++ r) l ≡ more_of f z t l
unfolding more_of All
more-grow f z t r [] b = refl
more-grow f z t r (k ∷ ks) b =
    rw (get_or-append t r none k b.0) (ap (λ (q : ℕ). adds f z (entry t k) + q) (more-grow f z t r ks b.1))

pub more-take : (f : Entry → ℕ) (z len : ℕ) (t : Table) (near : List ℕ) → AllBelow len near → len ≤ length t
    → more_of f z t near ≡ more_of f z (take len t) near
more-take f z len t near b h =
    ap (λ (q : Table). more_of f z q near) (sym (take-append-drop len t))
    ∙ more-grow f z (take len t) (drop len t) near (rw (length-take-le len t h) b)

-- one neighbour, once what is said holds of the others in every table as long
more-le-by : (f : Entry → ℕ) (z : ℕ) (t : Table) (k : ℕ) (ks : List ℕ) → k < length t → NotIn k ks
    → ((t' : Table) → length t' ≡ length t → more_of f z t' ks ≤ unseen_of f z t') → (b : Bool) → unseen z (entry t k) ≡ b
    → more_of f z t (k ∷ ks) ≤ unseen_of f z t
more-le-by f z t k ks h o r true e =
    let u : z < (entry t k).seen = ltb-true z (entry t k).seen e in
    let m = marked z (entry t k) in
    let g = r (set t k m) (length-set t k m) in
    omega (arith, more_yes f z t k ks e, unseen_of-mark f z t k m h u (le_refl z), more_same f z t k m ks o, g)
more-le-by f z t k ks h o r false e = omega (arith, more_no f z t k ks e, r t refl)

-- distinct neighbours: each lamp counts once
pub more-le : (f : Entry → ℕ) (z : ℕ) (t : Table) (l : List ℕ) → AllBelow (length t) l → Distinct l → more_of f z t l ≤ unseen_of f z t
unfolding All
more-le f z t [] b o = omega (arith, more-nil f z t)
more-le f z t (k ∷ ks) b o =
    more-le-by f z t k ks b.0 o.0
    (λ t' e. more-le f z t' ks (rw e b.1) o.1) _ refl

-- an entry that is seen is stored: no sum over neighbours grows
fewer-by : (f : Entry → ℕ) (z : ℕ) (t : Table) (k : ℕ) (e : Entry) (j : ℕ) → e.seen ≤ z → (d : Bool) → eqb k j ≡ d
    → adds f z (entry (set t k e) j) ≤ adds f z (entry t j)
fewer-by f z t k e j h true q = one (eqb-true k j q) (dec_lt k (length t))
  where
    one : k ≡ j → Dec (k < length t) → adds f z (entry (set t k e) j) ≤ adds f z (entry t j)
    one r (yes w) =
        let g : entry (set t k e) j ≡ e = rw (← r) (get_or-set_same t k e none w) in
        rw (g, le-ltb z e.seen h) (omega arith)
    one r (no w) = rw (set_out t k e (omega arith)) (le_refl _)
fewer-by f z t k e j h false q = rw (get_or-set_other t k j e none (λ r. eqb-false k j q (sym r))) (le_refl _)

pub more-fewer : (f : Entry → ℕ) (z : ℕ) (t : Table) (k : ℕ) (e : Entry) (l : List ℕ) → e.seen ≤ z
    → more_of f z (set t k e) l ≤ more_of f z t l
unfolding more_of
more-fewer f z t k e [] h = le_refl 0
more-fewer f z t k e (j ∷ js) h = let a = fewer-by f z t k e j h _ refl in let b = more-fewer f z t k e js h in omega (arith, a, b)
