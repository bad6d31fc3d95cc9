-- What is noted of an entry before a table is scanned: nothing, or the very list that `within` answers at its place, where that is the
-- entry itself or the entry and one other. The notes of a table stand in the column `near` past the places for a list. Assumes nothing.
use Rattle.std.specs.Prelude.{◌≡◌, Bool, List, [], ◌∷◌, ◌++◌, ℕ, zero, suc, ◌+◌, ◌-◌, ◌*◌, ◌<◌, ◌≤◌, leb, eqb, get_or, set, take, drop, Float, Ok, Err}
use Rattle.std.proofs.Math.Path.{refl, ap, sym}
use Rattle.std.proofs.Common.{◌∙◌, subst, arith, add-zero, length-append, get_or-set_same, get_or-set_other, get_or-take, length-take-le}
use Rattle.std.proofs.Math.Bool.{true, false}
use borrow.Author.Tests.{leb-true, le-leb, eqb-true, eqb-false}
use Rattle.std.proofs.Math.ListN.{length, get_or-append}
use Rattle.std.proofs.lemmas.List.{get_or-append_right}
use Rattle.std.proofs.Math.Seq.{drop-nil, take_all}
use Rattle.std.specs.Float.{nan}
use Rattle.kdsort.specs.Cols.{key}
use Rattle.kdslots.specs.declared.Query.{Query}
use Rattle.kdslots.specs.declared.Query.TheVariants.{Within}
use Rattle.kdslots.specs.Query.{query_ok}
use Rattle.kdslots.specs.laws.All.{All, AllBelow}
use Rattle.kdslots.specs.laws.Members.{In}
use Rattle.refusals.specs.declared.Refusal.TheVariants.{Box, NoRoom}
use Rattle.refusals.specs.Refusals.{number, carried}
use Rattle.kdbush.specs.Reply.{found, listed, listed_column, searched, column_after}
use Rattle.kdbush.specs.laws.Promise.{Promised, all_whole, all_sound}
use Rattle.build_tables.specs.declared.Entry.{Entry}
use Rattle.build_tables.specs.Entries.{Table, entry, none, marked, under}
use Rattle.build_one_zoom.specs.laws.Keeps.{Keeps}
use Rattle.build_one_zoom.specs.laws.Near.{Answered}
use Rattle.build_one_zoom.specs.Near.{near_of}

-- ---- one note

-- the note v of the entry i, where it says anything, says l: 0 nothing; 1 the entry alone; 2 + 2 * o the entry and then o; 3 + 2 * o
-- first o and then the entry
pub record Tells (i v : ℕ) (l : List ℕ) : Type 0 where
  pub alone : v ≡ 1 → l ≡ i ∷ []
  pub before : (o : ℕ) → v ≡ 2 + 2 * o → l ≡ i ∷ o ∷ []
  pub behind : (o : ℕ) → v ≡ 3 + 2 * o → l ≡ o ∷ i ∷ []

pub tells-nothing : (i : ℕ) (l : List ℕ) → Tells i 0 l
tells-nothing i l = record {
  alone = λ e. absurd (omega (arith, e));
  before = λ o e. absurd (omega (arith, e));
  behind =
      λ o e. absurd (omega (arith, e));
}

-- a list of one, and of two
one-is : (l : List ℕ) (i : ℕ) → length l ≡ 1 → In i l → l ≡ i ∷ []
one-is l i h m = go m.0 m.1 m.2 (sym h ∙ ap length m.2)
  where
    go : (pre post : List ℕ) → l ≡ pre ++ i ∷ post → 1 ≡ length (pre ++ i ∷ post) → l ≡ i ∷ []
    go [] [] e k = e
    go [] (a ∷ post) e k = absurd (omega (arith, k))
    go (a ∷ pre) post e k = absurd (omega (arith, k, length-append pre (i ∷ post)))

two_is : (l rest : List ℕ) (a b : ℕ) → length l ≡ 2 → get_or (l ++ rest) 0 0 ≡ a → get_or (l ++ rest) 1 0 ≡ b → l ≡ a ∷ b ∷ []
two_is [] rest a b h e f = absurd (omega (arith, h))
two_is (c ∷ []) rest a b h e f = absurd (omega (arith, h))
two_is (c ∷ d ∷ []) rest a b h e f = ap (λ (k : ℕ). k ∷ d ∷ []) e ∙ ap (λ (k : ℕ). a ∷ k ∷ []) f
two_is (c ∷ d ∷ g ∷ l) rest a b h e f = absurd (omega (arith, h))

pub tells-alone : (i : ℕ) (l : List ℕ) → length l ≡ 1 → In i l → Tells i 1 l
tells-alone i l h m =
    record {
      alone = λ f. one-is l i h m;
      before = λ o f. absurd (omega (arith, f));
      behind = λ o f. absurd (omega (arith, f));
    }

module _ (i : ℕ) (l rest : List ℕ) where
  pub tells-before : (a b : ℕ) → length l ≡ 2 → get_or (l ++ rest) 0 0 ≡ a → get_or (l ++ rest) 1 0 ≡ b → a ≡ i → Tells i (2 + 2 * b) l
  tells-before a b h e f q =
      record {
        alone = λ g. absurd (omega (arith, g));
        before = λ o g. two_is l rest i o h (e ∙ q) (f ∙ (omega (arith, g)));
        behind = λ o g. absurd (omega (arith, g));
      }

  pub tells-behind : (a b : ℕ) → length l ≡ 2 → get_or (l ++ rest) 0 0 ≡ a → get_or (l ++ rest) 1 0 ≡ b → b ≡ i → Tells i (3 + 2 * a) l
  tells-behind a b h e f q =
      record {
        alone = λ g. absurd (omega (arith, g));
        before = λ o g. absurd (omega (arith, g));
        behind = λ o g. two_is l rest o i h (e ∙ (omega (arith, g))) (f ∙ q);
      }

-- ---- a search with room for a few places

module _ (size n : ℕ) (ids : List ℕ) (co : List Float) (P : Promised size n ids co) (q : Query) (out : List ℕ) where
  few-listed : (b : Bool) → leb (length (found q size n ids co)) (length out) ≡ b → (k : ℕ) → listed q size n ids co (length out) ≡ Ok k
      → (k ≡ length (found q size n ids co)) × (k ≤ length out)
  unfolding listed
  few-listed true e k f =
      let g : Ok (length (found q size n ids co)) ≡ Ok k =
      rw (P.ok, le-leb n (length ids) P.wide, all_whole n (found q size n ids co) (P.below q), e) at f in
      let h : k ≡ length (found q size n ids co) = sym (ap carried g) in
      (h, omega (arith, h, leb-true (length (found q size n ids co)) (length out) e))
  few-listed false e k f =
      let g : Err (NoRoom (length (found q size n ids co))) ≡ Ok k =
      rw (P.ok, le-leb n (length ids) P.wide, all_whole n (found q size n ids co) (P.below q), e) at f in
      absurd (let z : 10 ≡ 0 = ap number g in omega (arith, z))

  few-column : length (found q size n ids co) ≤ length out
      → listed_column q size n ids co out ≡ found q size n ids co ++ drop (length (found q size n ids co)) out
  unfolding listed_column
  few-column h = rw (
    P.ok,
    le-leb n (length ids) P.wide,
    all_sound n (found q size n ids co) (P.below q),
    take_all (length out) (found q size n ids co) h,
  )

  -- where it says how many it found, they are all of them, at the front of the column
  few-by : (b : Bool) → query_ok q ≡ b → (k : ℕ) → searched q size n ids co (length out) ≡ Ok k
      → (length (found q size n ids co) ≡ k)
      × (column_after q size n ids co out ≡ found q size n ids co ++ drop (length (found q size n ids co)) out)
  unfolding searched column_after
  few-by true e k f =
      let g : listed q size n ids co (length out) ≡ Ok k = rw (P.ok, le-leb n (length ids) P.wide, e) at f in
      let w = few-listed _ refl k g in
      (sym w.0, rw e (few-column (omega (arith, w.0, w.1))))
  few-by false e k f =
      let g : Err Box ≡ Ok k = rw (P.ok, le-leb n (length ids) P.wide, e) at f in
      absurd (let z : 9 ≡ 0 = ap number g in omega (arith, z))

  pub few-found : (k : ℕ) → searched q size n ids co (length out) ≡ Ok k
      → (length (found q size n ids co) ≡ k)
      × (column_after q size n ids co out ≡ found q size n ids co ++ drop (length (found q size n ids co)) out)
  few-found k f = few-by (query_ok q) refl k f

-- ---- the notes of a table, in the column from `at` on

-- the note of each entry is the answer at its place
unfoldable pub Noted : ℕ → ℕ → (Float → Float → List ℕ) → List ℕ → Table → Type 0
Noted at len near notes t = (i : ℕ) → i < len → Tells i (get_or notes (at + i) 0) (near (entry t i).x (entry t i).y)

-- the place of each slot of an index is answered at the slot's own coordinates
abbrev pub OwnNote : ℕ → (Float → Float → List ℕ) → List ℕ → List Float → Type 0
OwnNote len near ids co = (s : ℕ) → s < len → In (get_or ids s 0) (near (key 0 co s) (key 1 co s))

-- and these are the coordinates of the entry at that place
pub record Slotted (len : ℕ) (ids : List ℕ) (co : List Float) (t : Table) : Type 0 where
  pub x-is : (s : ℕ) → s < len → key 0 co s ≡ (entry t (get_or ids s 0)).x
  pub y-is : (s : ℕ) → s < len → key 1 co s ≡ (entry t (get_or ids s 0)).y

-- what stands past the first len places is as it was
abbrev pub Same : ℕ → List ℕ → List ℕ → Type 0
Same len old new = (i : ℕ) → get_or new (len + i) 0 ≡ get_or old (len + i) 0

all_in : (n : ℕ) (pre : List ℕ) (k : ℕ) (post : List ℕ) → AllBelow n (pre ++ k ∷ post) → k < n
unfolding All
all_in n [] k post w = w.0
all_in n (a ∷ pre) k post w = all_in n pre k post w.1

-- the place of a slot is one of the table's
pub owned_in : (size len : ℕ) (ids : List ℕ) (co : List Float) (r : Float) → Promised size len ids co
    → OwnNote len (near_of size len ids co r) ids co
    → (s : ℕ) → s < len → get_or ids s 0 < len
owned_in size len ids co r P o s h =
    let m = o s h in
    all_in len m.0 (get_or ids s 0) m.1 (subst (λ (l : List ℕ). AllBelow len l) m.2 (P.below (Within (key 0 co s) (key 1 co s) r)))

pub noted-none : (at len : ℕ) (near : Float → Float → List ℕ) (notes : List ℕ) (t : Table) → ((i : ℕ) → i < len → get_or notes (at + i) 0 ≡ 0)
    → Noted at len near notes t
unfolding Noted
noted-none at len near notes t f i h = rw (f i h) (tells-nothing i _)

pub noted-same : (at len : ℕ) (near : Float → Float → List ℕ) (old new : List ℕ) (t : Table) → len ≤ at → Same len old new
    → Noted at len near old t → Noted at len near new t
unfolding Noted
noted-same at len near old new t k f n i h =
    let e : len + (at + i - len) ≡ at + i = omega arith in
    subst (λ (v : ℕ). Tells i v (near (entry t i).x (entry t i).y))
    (sym (subst (λ (j : ℕ). get_or new j 0 ≡ get_or old j 0) e (f (at + i - len)))) (n i h)

-- a slot's coordinates, as they are read
pub told_at : (i v : ℕ) (near : Float → Float → List ℕ) (co : List Float) (s : ℕ)
    → Tells i v (near (get_or co (2 * s) nan) (get_or co (2 * s + 1) nan)) → Tells i v (near (key 0 co s) (key 1 co s))
told_at i v near co s t = rw (add-zero (2 * s)) t

-- the note of an entry of the table that the rows hold
pub noted-at : (at len : ℕ) (near : Float → Float → List ℕ) (notes : List ℕ) (t : Table) (i : ℕ) (e : Entry)
    → Noted at len near notes (take len t) → i < len → entry t i ≡ e
    → Tells i (get_or notes (at + i) 0) (near e.x e.y)
unfolding Noted
noted-at at len near notes t i e n h q =
    subst (λ (v : Entry). Tells i (get_or notes (at + i) 0) (near v.x v.y)) (get_or-take len t i none h ∙ q) (n i h)

-- one more note is cleared
pub cleared_more : (at : ℕ) (notes : List ℕ) (i : ℕ) → at + i < length notes → ((j : ℕ) → j < i → get_or notes (at + j) 0 ≡ 0)
    → (j : ℕ) → j < i + 1 → get_or (set notes (at + i) 0) (at + j) 0 ≡ 0
cleared_more at notes i h f j k = go (eqb j i) refl
  where
    go : (b : Bool) → eqb j i ≡ b → get_or (set notes (at + i) 0) (at + j) 0 ≡ 0
    go true e = rw (eqb-true j i e) (get_or-set_same notes (at + i) 0 0 h)
    go false e = get_or-set_other notes (at + i) (at + j) 0 0 (λ q. eqb-false j i e (omega (arith, q)))
        ∙ f j (let n = eqb-false j i e in omega (arith, k, n))

-- notes from `at` on that are zeros, as their part of the column is lent and comes back
pub cleared : (at : ℕ) (notes zeros rest : List ℕ) → at ≤ length notes → ((i : ℕ) → i < length zeros → get_or zeros i 0 ≡ 0) → (i : ℕ)
    → i < length zeros
    → get_or (take at notes ++ (zeros ++ rest)) (at + i) 0 ≡ 0
cleared at notes zeros rest h f i k =
    let e : at + i - at ≡ i = omega arith in
    get_or-append_right (take at notes) (zeros ++ rest) at (at + i) 0 (length-take-le at notes h) (omega arith)
    ∙ ap (λ (j : ℕ). get_or (zeros ++ rest) j 0) e
    ∙ get_or-append zeros rest 0 i k
    ∙ f i k

-- one more note
noted_more : (at len : ℕ) (near : Float → Float → List ℕ) (notes : List ℕ) (t : Table) (p v : ℕ) → at + p < length notes
    → Tells p v (near (entry t p).x (entry t p).y) → Noted at len near notes t → Noted at len near (set notes (at + p) v) t
unfolding Noted
noted_more at len near notes t p v h w n i k = go (eqb i p) refl
  where
    go : (b : Bool) → eqb i p ≡ b → Tells i (get_or (set notes (at + p) v) (at + i) 0) (near (entry t i).x (entry t i).y)
    go true e =
        subst (λ (j : ℕ). Tells j (get_or (set notes (at + p) v) (at + j) 0) (near (entry t j).x (entry t j).y)) (sym (eqb-true i p e))
        (rw (get_or-set_same notes (at + p) v 0 h) w)
    go false e = rw (get_or-set_other notes (at + p) (at + i) v 0 (λ q. eqb-false i p e (omega (arith, q)))) (n i k)

-- the note of the entry of a slot, from the answer at the slot's coordinates
pub noted-slot : (at len : ℕ) (near : Float → Float → List ℕ) (notes ids : List ℕ) (co : List Float) (s p v : ℕ) → s < len
    → at + p < length notes → p ≡ get_or ids s 0
    → Tells (get_or ids s 0) v (near (key 0 co s) (key 1 co s)) → (t : Table) → Slotted len ids co t → Noted at len near notes t
    → Noted at len near (set notes (at + p) v) t
noted-slot at len near notes ids co s p v h k e w t S n =
    noted_more at len near notes t p v k (rw e (rw (sym (S.x-is s h), sym (S.y-is s h)) w)) n

-- ---- what a scan keeps of them

at_set : {B : Type 0} (f : Entry → B) (t : Table) (k : ℕ) (e : Entry) → f e ≡ f (entry t k) → (i : ℕ)
    → f (entry (set t k e) i) ≡ f (entry t i)
at_set f [] k e q i = refl
at_set f (a ∷ t) zero e q zero = q
at_set f (a ∷ t) zero e q (suc i) = refl
at_set f (a ∷ t) (suc k) e q zero = refl
at_set f (a ∷ t) (suc k) e q (suc i) = at_set f t k e q i

noted-set : (at len : ℕ) (near : Float → Float → List ℕ) (notes : List ℕ) (t : Table) (k : ℕ) (e : Entry) → e.x ≡ (entry t k).x
    → e.y ≡ (entry t k).y
    → Noted at len near notes t → Noted at len near notes (set t k e)
unfolding Noted
noted-set at len near notes t k e a b n i h = rw (at_set (λ (q : Entry). q.x) t k e a i, at_set (λ (q : Entry). q.y) t k e b i) (n i h)

pub kept-noted : (z at len : ℕ) (near : Float → Float → List ℕ) (notes : List ℕ) → Keeps z (λ t. Noted at len near notes t)
kept-noted z at len near notes =
    record {
      join = λ t k p r. noted-set at len near notes t k (under p (marked z (entry t k))) refl refl r;
      mark = λ t k r. noted-set at len near notes t k (marked z (entry t k)) refl refl r;
      hang = λ t k p r. noted-set at len near notes t k (under p (entry t k)) refl refl r;
    }

-- ---- a list at the front of the column leaves the notes as they are

past : (l old : List ℕ) (j : ℕ) → length l ≤ j → get_or (l ++ drop (length l) old) j 0 ≡ get_or old j 0
past [] old j h = refl
past (a ∷ l) old zero h = absurd (omega (arith, h))
past (a ∷ l) [] (suc j) h = rw (sym (drop-nil {A = ℕ} (length l))) (past l [] j (omega (arith, h)))
past (a ∷ l) (b ∷ old) (suc j) h = past l old j (omega (arith, h))

pub same-past : (len : ℕ) (l old new : List ℕ) → length l ≤ len → new ≡ l ++ drop (length l) old → Same len old new
same-past len l old new h e i = rw e (past l old (len + i) (omega arith))

same-one : (len : ℕ) (old : List ℕ) (a : ℕ) → 1 ≤ len → Same len old (set old 0 a)
same-one len old a h i = get_or-set_other old 0 (len + i) a 0 (λ e. omega (arith, e))

same-two : (len : ℕ) (old : List ℕ) (a b : ℕ) → 2 ≤ len → Same len old (set (set old 0 a) 1 b)
same-two len old a b h i = get_or-set_other (set old 0 a) 1 (len + i) b 0 (λ e. omega (arith, e))
    ∙ get_or-set_other old 0 (len + i) a 0 (λ e. omega (arith, e))

front-one : (old : List ℕ) (a : ℕ) → 1 ≤ length old → take 1 (set old 0 a) ≡ a ∷ []
front-one [] a h = absurd (omega (arith, h))
front-one (c ∷ old) a h = refl

front-two : (old : List ℕ) (a b : ℕ) → 2 ≤ length old → take 2 (set (set old 0 a) 1 b) ≡ a ∷ b ∷ []
front-two [] a b h = absurd (omega (arith, h))
front-two (c ∷ []) a b h = absurd (omega (arith, h))
front-two (c ∷ d ∷ old) a b h = refl

pub list-one : (len : ℕ) (old l : List ℕ) (i : ℕ) → 1 ≤ len → 1 ≤ length old → l ≡ i ∷ [] → Answered l (set old 0 i) 1
    × Same len old (set old 0 i)
list-one len old l i h k e = (record { count = sym (ap length e); front = front-one old i k ∙ sym e }, same-one len old i h)

pub list-two : (len : ℕ) (old l : List ℕ) (a b : ℕ) → length l ≤ len → len ≤ length old → l ≡ a ∷ b ∷ []
    → Answered l (set (set old 0 a) 1 b) 2 × Same len old (set (set old 0 a) 1 b)
list-two len old l a b h k e =
    let n : length l ≡ 2 = ap length e in
    (record { count = sym n; front = front-two old a b (omega (arith, n, h, k)) ∙ sym e }, same-two len old a b (omega (arith, n, h)))
