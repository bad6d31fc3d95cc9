-- Of an index built from its points, what every search answers, in places, `range` and `within` alike: exactly the points that pass its
-- test, each once, in one order of all places that no query changes (`answered-kept`). The own place of a query that is a point of the
-- index is among them, and no search of such an index is refused as spoiled. Assumes nothing.
use Rattle.std.specs.Prelude.{◌≡◌, refl, Bool, true, false, ◌&&◌, List, [], ◌∷◌, ◌++◌, ℕ, ◌≤◌, ◌<◌, T, get_or, drop, Float, Ok}
use Rattle.std.proofs.Common.{sym, ap, ◌∙◌, subst, arith}
use borrow.Author.Tests.{lt-ltb, le-leb}
use Rattle.std.proofs.Math.ListN.{length}
use Rattle.std.proofs.Math.Seq.{take_all}
use Rattle.std.specs.Float.{nan}
use Rattle.std.specs.Float.Ieee.Scale.{finite}
use Rattle.floats.specs.laws.Fraction.{is_true}
use Rattle.floats.specs.laws.Distance.{passes-self}
use Rattle.kdsort.specs.Cols.{IndexCols, key}
use Rattle.kdsort.specs.Tree.{Index}
use Rattle.kdslots.specs.declared.Query.{Query}
use Rattle.kdslots.specs.declared.Query.TheVariants.{Within}
use Rattle.kdslots.specs.Query.{passes_q, query_ok}
use Rattle.kdslots.specs.Slots.{answers}
use Rattle.kdbush.specs.Run.{places, sound, whole}
use Rattle.kdbush.specs.laws.Run.{places-length}
use Rattle.kdslots.specs.Bounds.{coords_ok}
use Rattle.kdbush.specs.Reply.{found, listed, listed_column, searched, column_after}
use Rattle.kdslots.specs.laws.Members.{no-nil, In, NotIn, Distinct, BetweenSlots}
use Rattle.kdslots.specs.laws.Intervals.{answers-length}
use Rattle.kdslots.specs.laws.All.{All, AllBelow}
use Rattle.kdslots.specs.laws.Sound.{answers-sound, answers-between, answers-distinct}
use Rattle.kdslots.specs.Keep.{put, keep}
use Rattle.kdslots.specs.laws.Keep.{keep-both}
use Rattle.kdslots.specs.laws.Order.{order, order-between}
use Rattle.kdslots.specs.laws.Complete.{passes_at}
use Rattle.kdslots.proofs.Complete.{answers-complete, answers-kept}

-- ---- slots and their places

-- a place that is answered is that of an answered slot
from-slot : (ids l pre : List ℕ) (q : ℕ) (post : List ℕ) → places ids l ≡ pre ++ q ∷ post → (i : ℕ) × In i l × (q ≡ get_or ids i 0)
unfolding places
from-slot ids [] pre q post e = absurd (no-nil pre q post e)
from-slot ids (i ∷ l) [] q post e = (i, ([], l, refl), cc)
from-slot ids (i ∷ l) (y ∷ pre) q post e =
    let f : places ids l ≡ pre ++ q ∷ post = cc in
    let w = from-slot ids l pre q post f in
    (w.0, (i ∷ w.1.0, w.1.1, ap (λ (z : List ℕ). i ∷ z) w.1.2), w.2)

to-place : (ids pre : List ℕ) (i : ℕ) (post : List ℕ) → In (get_or ids i 0) (places ids (pre ++ i ∷ post))
unfolding places
to-place ids [] i post = ([], places ids post, refl)
to-place ids (y ∷ pre) i post =
    let w = to-place ids pre i post in
    (get_or ids y 0 ∷ w.0, w.1, ap (λ (z : List ℕ). get_or ids y 0 ∷ z) w.2)

places-below : (ids : List ℕ) (n : ℕ) → ((p : ℕ) → p < n → get_or ids p 0 < n) → (l : List ℕ) → BetweenSlots 0 n l → AllBelow n (places ids l)
unfolding places BetweenSlots All
places-below ids n f [] w = tt
places-below ids n f (k ∷ ks) w = (f k w.1, places-below ids n f ks w.2)

notin-places : (ids : List ℕ) (n : ℕ) → ((p q : ℕ) → p < n → q < n → get_or ids p 0 ≡ get_or ids q 0 → p ≡ q) → (k : ℕ) → k < n → (l : List ℕ)
    → BetweenSlots 0 n l → NotIn k l
    → NotIn (get_or ids k 0) (places ids l)
unfolding places BetweenSlots
notin-places ids n f k h [] w d = tt
notin-places ids n f k h (j ∷ js) w d = ((λ e. d.0 (f k j h w.1 e)), notin-places ids n f k h js w.2 d.1)

distinct-places : (ids : List ℕ) (n : ℕ) → ((p q : ℕ) → p < n → q < n → get_or ids p 0 ≡ get_or ids q 0 → p ≡ q) → (l : List ℕ)
    → BetweenSlots 0 n l → Distinct l → Distinct (places ids l)
unfolding places BetweenSlots
distinct-places ids n f [] w d = tt
distinct-places ids n f (k ∷ ks) w d = (notin-places ids n f k w.1 ks w.2 d.0, distinct-places ids n f ks w.2 d.1)

-- what passes is kept before its places are taken, or after
places-kept : (ids : List ℕ) (p q : ℕ → Bool) (n : ℕ) → ((i : ℕ) → i < n → q i ≡ p (get_or ids i 0)) → (l : List ℕ) → BetweenSlots 0 n l
    → places ids (keep q l) ≡ keep p (places ids l)
unfolding places BetweenSlots
places-kept ids p q n f [] w = refl
places-kept ids p q n f (k ∷ ks) w =
    rw (f k w.1) (go (p (get_or ids k 0)) (keep q ks) (keep p (places ids ks)) (places-kept ids p q n f ks w.2))
  where
    go : (b : Bool) (u v : List ℕ) → places ids u ≡ v → places ids (put b k u) ≡ put b (get_or ids k 0) v
    go true u v e = ap (λ (z : List ℕ). get_or ids k 0 ∷ z) e
    go false u v e = e

pub all_whole : (n : ℕ) (l : List ℕ) → AllBelow n l → whole n l ≡ true
unfolding All whole
all_whole n [] w = refl
all_whole n (k ∷ ks) w = rw (lt-ltb k n w.0, whole) (all_whole n ks w.1)

pub all_sound : (n : ℕ) (l : List ℕ) → AllBelow n l → sound n l ≡ l
unfolding All sound
all_sound n [] w = refl
all_sound n (k ∷ ks) w = rw (lt-ltb k n w.0, sound) (ap (λ (z : List ℕ). k ∷ z) (all_sound n ks w.1))

-- ---- an index built from the points

-- whether the point p passes
abbrev pub passes_in : Query → List Float → List Float → ℕ → Bool
passes_in q xs ys p = passes_q q (get_or xs p nan) (get_or ys p nan)

-- all places, in the order in which a search of the index comes to them
abbrev pub tree_order : ℕ → ℕ → List ℕ → List ℕ
tree_order size n ids = places ids (order size n)

module _ (size : ℕ) (xs ys : List Float) (s S : IndexCols) (I : Index size xs ys s S) (q : Query) where
  -- the places that the query answers
  abbrev pub answered : List ℕ
  answered = found q size (length xs) S.ids S.co

  apart : (p r : ℕ) → p < length xs → r < length xs → get_or S.ids p 0 ≡ get_or S.ids r 0 → p ≡ r
  apart p r h k e = sym (I.slot-back p h) ∙ ap I.slot_of e ∙ I.slot-back r k

  pub answered-below : AllBelow (length xs) answered
  answered-below = places-below S.ids (length xs) I.id-in (answers q S.co size (length xs))
      (answers-between q S.co size (length xs))

  -- no place twice
  pub answered-once : Distinct answered
  answered-once = distinct-places S.ids (length xs) apart (answers q S.co size (length xs))
      (answers-between q S.co size (length xs)) (answers-distinct q S.co size (length xs))

  pub answered-length : length answered ≤ length xs
  answered-length = omega (arith, places-length S.ids (answers q S.co size (length xs)), answers-length q S.co size (length xs))

  -- each answer is a point that passes the test
  pub answered-sound : (p : ℕ) → In p answered → (p < length xs) × (passes_in q xs ys p ≡ true)
  answered-sound p m =
      let w = from-slot S.ids (answers q S.co size (length xs)) m.0 p m.1 m.2 in
      let v = answers-sound q S.co size (length xs) w.0 w.1 in
      let c : passes_q q (get_or xs (get_or S.ids w.0 0) nan) (get_or ys (get_or S.ids w.0 0) nan) ≡ true =
      subst (λ (u : Float). passes_q q (get_or xs (get_or S.ids w.0 0) nan) u ≡ true) (I.y_of w.0 v.0)
      (subst (λ (u : Float). passes_q q u (key 1 S.co w.0) ≡ true) (I.x-of w.0 v.0) v.1) in
      subst (λ (k : ℕ). (k < length xs) × (passes_q q (get_or xs k nan) (get_or ys k nan) ≡ true)) (sym w.2) (I.id-in w.0 v.0, c)

  x-at : (p : ℕ) → p < length xs → get_or xs p nan ≡ key 0 S.co (I.slot_of p)
  x-at p h = ap (λ (k : ℕ). get_or xs k nan) (sym (I.id-back p h)) ∙ sym (I.x-of (I.slot_of p) (I.slot-in p h))

  y-at : (p : ℕ) → p < length xs → get_or ys p nan ≡ key 1 S.co (I.slot_of p)
  y-at p h = ap (λ (k : ℕ). get_or ys k nan) (sym (I.id-back p h)) ∙ sym (I.y_of (I.slot_of p) (I.slot-in p h))

  -- each point that passes the test is answered
  pub answered-complete : (p : ℕ) → p < length xs → passes_in q xs ys p ≡ true → In p answered
  answered-complete p h e =
      let f : passes_at q S.co (I.slot_of p) ≡ true =
      subst (λ (u : Float). passes_q q (key 0 S.co (I.slot_of p)) u ≡ true) (y-at p h)
      (subst (λ (u : Float). passes_q q u (get_or ys p nan) ≡ true) (x-at p h) e) in
      let m = answers-complete q S.co size (length xs) I.tree (I.slot_of p) (I.slot-in p h) f in
      let t = to-place S.ids m.0 (I.slot_of p) m.1 in
      subst (λ (l : List ℕ). In p (places S.ids l)) (sym m.2)
      (subst (λ (k : ℕ). In k (places S.ids (m.0 ++ I.slot_of p ∷ m.1))) (I.id-back p h) t)

  -- the one law of both searches: those places of the tree's order that pass, in that order
  pub answered-kept : answered ≡ keep (passes_in q xs ys) (tree_order size (length xs) S.ids)
  answered-kept =
      ap (places S.ids) (answers-kept q S.co size (length xs) I.tree)
      ∙ places-kept S.ids (passes_in q xs ys) (passes_at q S.co) (length xs) (λ i h. rw (I.x-of i h, I.y_of i h))
      (order size (length xs)) (order-between size (length xs))

-- whatever the node size is, and whatever stood in the columns before, a query has the same members
module _ (size more : ℕ) (xs ys : List Float) (s t S U : IndexCols) (I : Index size xs ys s S) (J : Index more xs ys t U) (q : Query) where
  pub same-members : (p : ℕ) → In p (answered size xs ys s S I q) → In p (answered more xs ys t U J q)
  same-members p m = let w = answered-sound size xs ys s S I q p m in answered-complete more xs ys t U J q p w.0 w.1

-- a query that passes what two others pass answers what the one answers of the other's answers, in the same order
module _ (size : ℕ) (xs ys : List Float) (s S : IndexCols) (I : Index size xs ys s S) (p q b : Query)
    (both : (x y : Float) → passes_q b x y ≡ (passes_q p x y && passes_q q x y)) where
  pub answered-both : answered size xs ys s S I b ≡ keep (passes_in q xs ys) (answered size xs ys s S I p)
  answered-both =
      answered-kept size xs ys s S I b
      ∙ keep-both (passes_in p xs ys) (passes_in q xs ys) (passes_in b xs ys) (λ k. both (get_or xs k nan) (get_or ys k nan))
      (tree_order size (length xs) S.ids)
      ∙ ap (keep (passes_in q xs ys)) (sym (answered-kept size xs ys s S I p))

-- ---- what the clustering rests on: an index of n places, whose answers name each of them at most once, and nothing else

pub record Promised (size n : ℕ) (ids : List ℕ) (co : List Float) : Type 0 where
  pub ok : coords_ok size n (length co) ≡ true
  pub wide : n ≤ length ids
  pub below : (q : Query) → AllBelow n (found q size n ids co)
  pub once : (q : Query) → Distinct (found q size n ids co)
  pub short : (q : Query) → length (found q size n ids co) ≤ n

pub promised : (size : ℕ) (xs ys : List Float) (s S : IndexCols) → Index size xs ys s S → coords_ok size (length xs) (length S.co) ≡ true
    → length xs ≤ length S.ids
    → Promised size (length xs) S.ids S.co
promised size xs ys s S I ok wide =
    record {
      ok = ok;
      wide = wide;
      below = answered-below size xs ys s S I;
      once = answered-once size xs ys s S I;
      short =
          answered-length size xs ys s S I;
    }

-- a search of it with room for all its places is answered: no refusal, and the places at the front of the column
module _ (size n : ℕ) (ids : List ℕ) (co : List Float) (P : Promised size n ids co) (q : Query) where
  module _ (out : List ℕ) (room : n ≤ length out) where
    pub promised-listed : listed q size n ids co (length out) ≡ Ok (length (found q size n ids co))
    unfolding listed
    promised-listed =
        rw (
          P.ok,
          le-leb n (length ids) P.wide,
          all_whole n (found q size n ids co) (P.below q),
          le-leb (length (found q size n ids co)) (length out) (omega (arith, P.short q)),
        )

    pub promised-listed-column : listed_column q size n ids co out ≡ found q size n ids co ++ drop (length (found q size n ids co)) out
    unfolding listed_column
    promised-listed-column =
        let h : length (found q size n ids co) ≤ length out = omega (arith, P.short q) in
        rw (
          P.ok,
          le-leb n (length ids) P.wide,
          all_sound n (found q size n ids co) (P.below q),
          take_all (length out) (found q size n ids co) h,
        )

  module _ (fine : query_ok q ≡ true) (out : List ℕ) (room : n ≤ length out) where
    pub promised-searched : searched q size n ids co (length out) ≡ Ok (length (found q size n ids co))
    unfolding searched
    promised-searched = rw (P.ok, le-leb n (length ids) P.wide, fine) (promised-listed out room)

    pub promised-column : column_after q size n ids co out ≡ found q size n ids co ++ drop (length (found q size n ids co)) out
    unfolding column_after
    promised-column = rw fine (promised-listed-column out room)

-- ---- the own place of a query that is a point of the index, for finite coordinates and a finite radius

module _ (size : ℕ) (xs ys : List Float) (s S : IndexCols) (I : Index size xs ys s S) (p : ℕ) (h : p < length xs) (r : Float)
    (x : T (finite (get_or xs p nan))) (y : T (finite (get_or ys p nan))) (fr : T (finite r)) where
  pub own-place : In p (found (Within (get_or xs p nan) (get_or ys p nan) r) size (length xs) S.ids S.co)
  own-place = answered-complete size xs ys s S I (Within (get_or xs p nan) (get_or ys p nan) r) p h
      (is_true _ (passes-self (get_or xs p nan) (get_or ys p nan) r x y fr))
