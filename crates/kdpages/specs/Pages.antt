-- A walk that is read a page at a time: what is ahead of a reader, for every content of the page, and the laws that a caller's loop goes
-- by. Assumes nothing.
--
-- A caller's loop. `let mut page = [0usize; 64]; let mut p = Pages::begin();` and then `while let Some(c) = p.next_slot(s, &mut page)`.
-- With l = ahead_of q size n coords page p at the loop's head: the invariant is AllBelow n l × (any fold over l ≡ the same fold over the
-- walk), and the measure is length l. It starts by `ahead-begun` and `walk-below`. At a slot `next-slot` gives l ≡ c ∷ l', where l' is
-- what is ahead afterwards: c is below n and l' keeps the invariant by `below_next`, and l' is shorter. At the end `next-end` gives
-- l ≡ []. The page's contents and its length are never asked for; where the page is a local array the invariant also has
-- length page ≡ 64, which the call keeps, so that it can be lent.
use Rattle.std.specs.Prelude.{Bool, true, false, cond, ◌&&◌, ◌≡◌, refl, List, [], ◌∷◌, ◌++◌, ℕ, ◌+◌, ◌-◌, ◌≤◌, ◌<◌, ltb, eqb, Float, length, set, take, drop, Option, Some, None}
use Rattle.std.proofs.Common.{sym, ap, ◌∙◌, subst, ⊎_elim, arith, lt-ltb, le-ltb, ne_eqb, ltb-true, ltb-false}
use Rattle.std.proofs.lemmas.Bool.{eqb-false}
use Rattle.std.proofs.Math.Seq.{append_snoc}
use Rattle.kdsort.specs.Shape.{Shape, node, shape}
use Rattle.kdsort.specs.laws.Shape.{Spans, all, both, spans}
use Rattle.kdslots.specs.declared.Query.{Query}
use Rattle.kdpages.specs.declared.Onward.{Onward}
use Rattle.kdpages.specs.declared.Onward.TheVariants.{Start, After, Nothing}
use Rattle.kdpages.specs.declared.Pages.{Pages}
use Rattle.kdslots.specs.Query.{query_ok}
use Rattle.kdslots.specs.laws.All.{All, AllBelow}
use Rattle.kdslots.specs.Slots.{Search, when, scanned, slots, over}
use Rattle.kdwalk.specs.Cursor.{rest, rest_of}
use Rattle.kdslots.specs.Bounds.{coords_ok}
use Rattle.kdwalk.specs.Reply.{walk, walk_after}
use Rattle.kdwalk.specs.laws.Cursor.{head_of}
use Rattle.kdslots.specs.laws.Members.{split, no-nil, when-all}
use Rattle.kdwalk.specs.laws.Walk.{rest-follows, scanned-rest, walk-follows, goes}

-- ---- what is ahead

-- what a walk has from where it goes on
abbrev pub onward_of : Query → ℕ → ℕ → List Float → Onward → List ℕ
onward_of q size n co Start = walk q size n co
onward_of q size n co (After c) = walk_after q size n co c
onward_of q size n co Nothing = []

-- what is left to read of the page, and then what the walk has after the page
unfoldable pub ahead_of : Query → ℕ → ℕ → List Float → List ℕ → Pages → List ℕ
ahead_of q size n co page p = drop p.at (take p.len page) ++ onward_of q size n co p.onward

-- all but the first
abbrev pub tail_of : List ℕ → List ℕ
tail_of [] = []
tail_of (i ∷ l) = l

-- a walk that begins
abbrev pub begun : Pages
begun = record { len = 0; at = 0; onward = Start }

-- with an empty page: the walk goes on after the slot, or is done
abbrev pub stepped_of : Option ℕ → Pages
stepped_of (Some i) = record { len = 0; at = 0; onward = After i }
stepped_of None = record { len = 0; at = 0; onward = Nothing }

-- how many slots a page has, beside the page
pub data Stored : Type 0 where
  stored : ℕ → List ℕ → Stored

-- the slots of a list one after the other, the page having `at` before them: each goes to its position, until the page is full
unfoldable pub store : ℕ → List ℕ → List ℕ → Stored
store at [] page = stored at page
store at (i ∷ l) page =
    elim (ltb at (length page)) [
      | true ↦ store (at + 1) l (set page at i)
      | false ↦ stored at page
    ]

-- ---- what a caller's loop goes by

pub ahead-begun : (q : Query) (size n : ℕ) (co : List Float) (page : List ℕ) → ahead_of q size n co page begun ≡ walk q size n co
unfolding ahead_of
ahead-begun q size n co page = refl

-- a step at a slot: what was ahead is the slot, and then what is ahead now
pub next-slot : (l l' : List ℕ) (s : Option ℕ) (c : ℕ) → s ≡ Some c → s ≡ head_of l → l' ≡ tail_of l → l ≡ c ∷ l'
next-slot [] l' s c e f g = let z : Some c ≡ None = sym e ∙ f in absurd (let z : ◌≡◌ {A = ℕ} 0 1 = cc in omega arith)
next-slot (i ∷ l) l' s c e f g =
    let z : Some c ≡ Some i = sym e ∙ f in
    let y : i ≡ c = cc in
    ap (λ (k : ℕ). k ∷ l) y ∙ ap (λ (m : List ℕ). c ∷ m) (sym g)

-- a step that is no slot: nothing was ahead
pub next-end : (l : List ℕ) (s : Option ℕ) → ((i : ℕ) → s ≡ Some i → ⊥) → s ≡ head_of l → l ≡ []
next-end [] s h e = refl
next-end (i ∷ l) s h e = absurd (h i e)

-- the slot is below n, and so is what is ahead now
pub below_next : (n : ℕ) (l : List ℕ) (c : ℕ) (l' : List ℕ) → l ≡ c ∷ l' → AllBelow n l → (c < n) × AllBelow n l'
unfolding All
below_next n l c l' e a = subst (λ (m : List ℕ). AllBelow n m) e a

-- each slot of a walk is below n
pub walk-below : (q : Query) (size n : ℕ) (co : List Float) → AllBelow n (walk q size n co)
unfolding All
walk-below q size n co = go [] (walk q size n co) refl
  where
    go : (pre l : List ℕ) → walk q size n co ≡ pre ++ l → AllBelow n l
    go pre [] e = tt
    go pre (c ∷ l) e = ((walk-follows q size n co pre c l e).0, go (pre ++ (c ∷ [])) l (e ∙ sym (append_snoc pre c l)))

-- ---- what follows a slot that follows a slot

scanned-again : (s : Search) (i hi : ℕ) (pre : List ℕ) (c : ℕ) (post : List ℕ) → i ≤ hi → scanned s i (hi - i) ≡ pre ++ c ∷ post
    → (i ≤ c) × (c < hi) × (scanned s (c + 1) (hi - (c + 1)) ≡ post)
scanned-again s i hi pre c post h e =
    let w = scanned-rest s i (hi - i) pre c post e in
    let k : i + (hi - i) - (c + 1) ≡ hi - (c + 1) = omega arith in
    (w.0, omega (arith, w.1), rw k at w.2)

-- where what follows a slot d of the interval has a slot c, `rest` is what follows c
pub rest-again : (s : Search) (ax lo hi : ℕ) (t : Shape) → Spans lo hi t → (d : ℕ) → lo ≤ d → d < hi
    → (pre : List ℕ) (c : ℕ) (post : List ℕ) → rest s ax t d ≡ pre ++ c ∷ post
    → (lo ≤ c) × (c < hi) × (rest s ax t c ≡ post)
unfolding rest slots
rest-again s ax lo hi _ all d h k pre c post e =
    let w = scanned-again s (d + 1) hi pre c post (omega arith) e in
    (omega (arith, w.0), w.1, w.2)
rest-again s ax lo hi _ (both {m = m} {r = r} {l = l} a b p q) d h k pre c post e =
    go (eqb d m) (ltb m d) refl refl (rest-again s (1 - ax) (m + 1) hi r p d) (rest-again s (1 - ax) lo m l q d)
  where
    C : List ℕ
    C = when (s.left ax m) (slots s (1 - ax) l)

    in_right : (x : List ℕ) → (m + 1 ≤ c) × (c < hi) × (rest s (1 - ax) r c ≡ x) → post ≡ x ++ C → (lo ≤ c) × (c < hi)
        × (rest s ax (node m r l) c ≡ post)
    in_right x w z =
        let g : m < c = omega (arith, w.0) in
        (omega arith, w.1, rw (ne_eqb c m (λ f. omega arith), lt-ltb m c g, rest) (ap (λ (y : List ℕ). y ++ C) w.2 ∙ sym z))

    in_left : (lo ≤ c) × (c < m) × (rest s (1 - ax) l c ≡ post) → (lo ≤ c) × (c < hi) × (rest s ax (node m r l) c ≡ post)
    in_left w =
        let g : c < m = w.1 in
        (w.0, omega arith, rw (ne_eqb c m (λ f. omega arith), le-ltb m c (omega arith), rest) w.2)

    left-part : (x : List ℕ) → C ≡ x ++ c ∷ post → (lo ≤ c) × (c < hi) × (rest s ax (node m r l) c ≡ post)
    left-part x f = in_left (rest-follows s (1 - ax) lo m l q x c post (when-all (s.left ax m) (slots s (1 - ax) l) x c post f))

    go : (x y : Bool) → eqb d m ≡ x → ltb m d ≡ y
        → (m + 1 ≤ d → d < hi → (pre : List ℕ) (c : ℕ) (post : List ℕ) → rest s (1 - ax) r d ≡ pre ++ c ∷ post → (m + 1 ≤ c) × (c < hi)
        × (rest s (1 - ax) r c ≡ post))
        → (lo ≤ d → d < m → (pre : List ℕ) (c : ℕ) (post : List ℕ) → rest s (1 - ax) l d ≡ pre ++ c ∷ post → (lo ≤ c) × (c < m)
        × (rest s (1 - ax) l c ≡ post))
        → (lo ≤ c) × (c < hi) × (rest s ax (node m r l) c ≡ post)
    go true y f g R L =
        let B = when (s.right ax m) (slots s (1 - ax) r) in
        let e' : B ++ C ≡ pre ++ c ∷ post = rw (f, rest) at e in
        ⊎_elim
        (λ w. in_right w.0 (rest-follows s (1 - ax) (m + 1) hi r p pre c w.0
        (when-all (s.right ax m) (slots s (1 - ax) r) pre c w.0 w.1)) w.2)
        (λ w. left-part w.0 w.1)
        (split B C pre c post e')
    go false true f g R L =
        let e' : rest s (1 - ax) r d ++ C ≡ pre ++ c ∷ post = rw (f, g, rest) at e in
        let u : m < d = ltb-true m d g in
        ⊎_elim
        (λ w. in_right w.0 (R (omega arith) k pre c w.0 w.1) w.2)
        (λ w. left-part w.0 w.1)
        (split (rest s (1 - ax) r d) C pre c post e')
    go false false f g R L =
        let e' : rest s (1 - ax) l d ≡ pre ++ c ∷ post = rw (f, g, rest) at e in
        let ne = eqb-false d m f in
        let le = ltb-false m d g in
        in_left (L h (omega (arith, ne, le)) pre c post e')

-- ---- the page

module _ (q : Query) (size n : ℕ) (co : List Float) where
  -- a walk goes on after each of its slots with what follows it
  pub onward-follows : (from : Onward) (pre : List ℕ) (c : ℕ) (post : List ℕ) → onward_of q size n co from ≡ pre ++ c ∷ post
      → walk_after q size n co c ≡ post
  onward-follows Start pre c post e =
      let w = walk-follows q size n co pre c post e in
      let b : (coords_ok size n (length co) && query_ok q && ltb c n) ≡ true = rw (goes q size n co pre c post e, lt-ltb c n w.0) in
      ap (λ (t : Bool). cond t (rest_of q co size n c) []) b ∙ w.1
  onward-follows (After d) pre c post e = go (coords_ok size n (length co) && query_ok q) (ltb d n) refl refl e
    where
      go : (a b : Bool) → (coords_ok size n (length co) && query_ok q) ≡ a → ltb d n ≡ b
          → cond (a && b) (rest_of q co size n d) [] ≡ pre ++ c ∷ post → walk_after q size n co c ≡ post
      go true true f g x =
          let w = rest-again (over q co) 0 0 n (shape (size + 1) 0 n) (spans (size + 1) 0 n) d (omega arith)
          (ltb-true d n g) pre c post x in
          let b : (coords_ok size n (length co) && query_ok q && ltb c n) ≡ true = rw (f, lt-ltb c n w.1) in
          ap (λ (t : Bool). cond t (rest_of q co size n c) []) b ∙ w.2
      go true false f g x = absurd (no-nil pre c post x)
      go false b f g x = absurd (no-nil pre c post x)
  onward-follows Nothing pre c post e = absurd (no-nil pre c post e)
