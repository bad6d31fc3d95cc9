-- What `list_kids` and `next_child` say of a ring: its children all at once, and one at a time, where what is ahead of a walk is searched
-- for the next child and after it lie the children that follow. Around an entry these are the children of the definition. Assumes nothing.
use Rattle.std.specs.Prelude.{Bool, ◌≡◌, ℕ, ◌<◌, ◌≤◌, length, Option, Some, None, Result, Ok, Err}
use Rattle.std.proofs.Math.Bool.{true, false}
use Rattle.std.proofs.Math.Path.{refl, sym, ap, subst}
use Rattle.std.proofs.Common.{ap₂, ◌∙◌, arith}
use mathlib.Core.List.{List, [], ◌∷◌}
use borrow.Author.Tests.{lt-ltb, le-ltb, eq-eqb, ne_eqb, ltb-true}
use Rattle.std.proofs.Math.Dec.{ltb, eqb}
use Rattle.std.proofs.Math.ListN.{get_or}
use Rattle.kdpages.specs.declared.Pages.{Pages}
use Rattle.kdslots.specs.laws.All.{All, AllBelow}
use Rattle.kdbush.specs.Run.{places, sound, whole, filled}
use Rattle.kdslots.specs.laws.Members.{no-nil}
use Rattle.build_tables.specs.declared.Entry.{Entry}
use Rattle.build_tables.specs.declared.State.{State}
use Rattle.build_tables.specs.State.{len_of}
use Rattle.build_tables.specs.Entries.{Table, entry}
use Rattle.refusals.specs.declared.Refusal.{Refusal}
use Rattle.refusals.specs.declared.Refusal.TheVariants.{Spoiled}
use Rattle.ask_base.specs.Answers.{Answer}
use Rattle.build_tables.specs.Room.{Columns, room_of}
use Rattle.ask_base.specs.Columns.{table_at}
use Rattle.ask_base.specs.laws.Reached.{Reached}
use Rattle.ask_base.specs.laws.Around.{Around, ring_at, slots_of, ahead_in}
use Rattle.ask_child_walk.specs.declared.Child.{Child}
use Rattle.ask_child_walk.specs.Kids.{kids_of, kids_at, clean_at}
use Rattle.ask_child_walk.specs.laws.Within.{around-places}

-- ---- a ring's table, and its children

-- the children among slots of the ring, and whether each slot names a place of the table
abbrev pub kids_in : Around → ℕ → List ℕ → List ℕ
kids_in g id is = kids_of g.table id (sound g.len (places g.ids is))

abbrev pub clean_in : Around → List ℕ → Bool
clean_in g is = whole g.len (places g.ids is)

-- what a search for children comes to: how many there are; or refusal 11, where a slot names a place past the table
abbrev pub kids_reply : Bool → ℕ → Answer
kids_reply true k = Ok k
kids_reply false k = Err Spoiled

-- all children of the ring are listed: the reply is r, and where out was stands out'
abbrev pub Listed : Around → ℕ → List ℕ → Answer → List ℕ → Type 0
Listed g id out r out' =
    let l = slots_of g in
    (r ≡ kids_reply (clean_in g l) (length (kids_in g id l))) × (out' ≡ filled (kids_in g id l) out)

-- those of the ring around an entry are the children around it: the ring goes over what `within` answers
module _ (s : State) (c : Columns) (cap z o : ℕ) (r : Reached s cap z o) (h : cap ≤ room_of c) (g : Around)
    (e : g ≡ ring_at s c z o) where
  pub kids-around : (id : ℕ) → kids_in g id (slots_of g) ≡ kids_at s c id z o
  unfolding kids_at
  kids-around id =
      ap (λ (v : Around). kids_in v id (slots_of v)) e
      ∙ ap (λ (ps : List ℕ). kids_of (table_at s c z) id (sound (len_of s z) ps)) (around-places s c cap z o r h)

  pub clean-around : clean_in g (slots_of g) ≡ clean_at s c z o
  unfolding clean_at
  clean-around =
      ap (λ (v : Around). clean_in v (slots_of v)) e
      ∙ ap (λ (ps : List ℕ). whole (len_of s z) ps) (around-places s c cap z o r h)

  -- and what is listed of the ring is listed of them
  pub listed-around : (id : ℕ) (out : List ℕ) (r : Answer) (out' : List ℕ) → Listed g id out r out'
      → (r ≡ kids_reply (clean_at s c z o) (length (kids_at s c id z o))) × (out' ≡ filled (kids_at s c id z o) out)
  listed-around id out r out' w = (
    w.0 ∙ ap₂ (λ (b : Bool) (ks : List ℕ). kids_reply b (length ks)) clean-around (kids-around id),
    w.1 ∙ ap (λ (ks : List ℕ). filled ks out) (kids-around id),
  )

-- a child is a place of the table
pub kids-below : (t : Table) (id n : ℕ) (ps : List ℕ) (p : ℕ) (l : List ℕ) → kids_of t id (sound n ps) ≡ p ∷ l → p < n
unfolding sound
kids-below t id n [] p l e = absurd (no-nil [] p l e)
kids-below t id n (q ∷ ps) p l e = go (ltb q n) refl (eqb (entry t q).parent id) refl (kids-below t id n ps p l) e
  where
    go : (a : Bool) → ltb q n ≡ a → (b : Bool) → eqb (entry t q).parent id ≡ b → (kids_of t id (sound n ps) ≡ p ∷ l → p < n)
        → kids_of t id (sound n (q ∷ ps)) ≡ p ∷ l → p < n
    go false u b v h e = let z : [] ≡ p ∷ l = rw (u, sound) at e in absurd (no-nil [] p l z)
    go true u false v h e = h (rw (u, sound, v) at e)
    go true u true v h e =
        let z : q ∷ kids_of t id (sound n ps) ≡ p ∷ l = rw (u, sound, v) at e in
        let y : q ≡ p = cc in
        omega (arith, ltb-true q n u)

-- what a reply says
pub all-is : (b : Bool) (n k : ℕ) → Ok k ≡ kids_reply b n → (b ≡ true) × (k ≡ n)
all-is true n k e = (refl, cc)
all-is false n k e = cc

pub refused-is : (b : Bool) (n : ℕ) (x : Refusal) → Err x ≡ kids_reply b n → (b ≡ false) × (x ≡ Spoiled)
refused-is true n x e = cc
refused-is false n x e = (refl, cc)

-- what a search among slots for the next child comes to: the child's place and entry, with the slots after it; or there is none; or a slot
-- that names a place past the table comes before it, which is a refusal
pub data NextChild : Type 0 where
  child : ℕ → Entry → List ℕ → NextChild
  no_child : NextChild
  past : Refusal → NextChild

-- the first child among slots of a table of n entries, whose slots name the places ids
unfoldable pub next_of : Table → List ℕ → ℕ → ℕ → List ℕ → NextChild
next_of t ids n id [] = no_child
next_of t ids n id (i ∷ is) =
    elim (ltb (get_or ids i 0) n) [
      | true ↦
          elim (eqb (entry t (get_or ids i 0)).parent id) [
            | true ↦ child (get_or ids i 0) (entry t (get_or ids i 0)) is
            | false ↦ next_of t ids n id is
          ]
      | false ↦ past Spoiled
    ]

abbrev pub next_in : Around → ℕ → List ℕ → NextChild
next_in g id is = next_of g.table g.ids g.len id is

-- what the code's reply says, with the page that it leaves and where the walk stands: after the child lies what is ahead
abbrev pub child_in : Around → List ℕ → Pages → Result (Option Child) Refusal → NextChild
child_in g page at (Ok (Some k)) = child k.place k.entry (ahead_in g page at)
child_in g page at (Ok None) = no_child
child_in g page at (Err e) = past e

module _ (t : Table) (ids : List ℕ) (n id : ℕ) where
  abbrev K : List ℕ → List ℕ
  K is = kids_of t id (sound n (places ids is))

  abbrev C : List ℕ → Bool
  C is = whole n (places ids is)

  pub next-none : next_of t ids n id [] ≡ no_child
  unfolding next_of
  next-none = refl

  -- the slot i names the place p
  module _ (i : ℕ) (is : List ℕ) (p : ℕ) (e : p ≡ get_or ids i 0) where
    pub next_past : n ≤ p → next_of t ids n id (i ∷ is) ≡ past Spoiled
    unfolding next_of
    next_past h = rw (le-ltb (get_or ids i 0) n (rw e at h), next_of)

    -- where its entry is y
    module _ (y : Entry) (q : y ≡ entry t p) (h : p < n) where
      there : y ≡ entry t (get_or ids i 0)
      there = q ∙ ap (entry t) e

      low : ltb (get_or ids i 0) n ≡ true
      low = lt-ltb (get_or ids i 0) n (rw e at h)

      pub next-kid : y.parent ≡ id → next_of t ids n id (i ∷ is) ≡ child p y is
      unfolding next_of
      next-kid k =
          let b = eq-eqb (entry t (get_or ids i 0)).parent id (ap (λ (z : Entry). z.parent) (sym there) ∙ k) in
          rw (low, b, next_of) (rw (sym there, sym e))

      pub next-other : (y.parent ≡ id → ⊥)
          → (next_of t ids n id (i ∷ is) ≡ next_of t ids n id is) × (K (i ∷ is) ≡ K is) × (C (i ∷ is) ≡ C is)
      unfolding next_of sound whole places
      next-other k =
          let b = ne_eqb (entry t (get_or ids i 0)).parent id (λ m. k (ap (λ (z : Entry). z.parent) there ∙ m)) in
          (rw (low, b, next_of), rw (low, sound, b), rw (low, whole))

  -- the child p, whose entry is e, comes first among slots, and the children after it are those of the slots l
  pub record Follows (is : List ℕ) (p : ℕ) (e : Entry) (l : List ℕ) : Type 0 where
    pub less : length l < length is
    pub below : AllBelow n is → AllBelow n l
    pub kids : K is ≡ p ∷ K l
    pub clean : C is ≡ C l
    pub found : e ≡ entry t p

  -- what a search for the next child says of the slots
  abbrev pub ToldChild : NextChild → List ℕ → Type 0
  ToldChild (child p e l) is = Follows is p e l
  ToldChild no_child is = (K is ≡ []) × (C is ≡ true)
  ToldChild (past e) is = (e ≡ Spoiled) × (K is ≡ []) × (C is ≡ false)

  lift : (i : ℕ) (is : List ℕ) → K (i ∷ is) ≡ K is → C (i ∷ is) ≡ C is → (r : NextChild) → ToldChild r is → ToldChild r (i ∷ is)
  unfolding All
  lift i is k c (child p e l) w =
      record { less = omega (arith, w.less); below = λ b. w.below b.1; kids = k ∙ w.kids; clean = c ∙ w.clean; found = w.found }
  lift i is k c no_child w = (k ∙ w.0, c ∙ w.1)
  lift i is k c (past e) w = (w.0, k ∙ w.1, c ∙ w.2)

  pub told : (is : List ℕ) → ToldChild (next_of t ids n id is) is
  unfolding next_of sound whole places All
  told [] = (refl, refl)
  told (i ∷ is) = go (ltb (get_or ids i 0) n) refl (eqb (entry t (get_or ids i 0)).parent id) refl (told is)
    where
      go : (a : Bool) → ltb (get_or ids i 0) n ≡ a → (b : Bool) → eqb (entry t (get_or ids i 0)).parent id ≡ b
          → ToldChild (next_of t ids n id is) is
          → ToldChild (next_of t ids n id (i ∷ is)) (i ∷ is)
      go false e b f w =
          let r : past Spoiled ≡ next_of t ids n id (i ∷ is) = rw (e, next_of) in
          let k : K (i ∷ is) ≡ [] = rw (e, sound) in
          let c : C (i ∷ is) ≡ false = rw (e, whole) in
          subst (λ (x : NextChild). ToldChild x (i ∷ is)) r (refl, k, c)
      go true e true f w =
          let r : child (get_or ids i 0) (entry t (get_or ids i 0)) is ≡ next_of t ids n id (i ∷ is) = rw (e, f, next_of) in
          let k : K (i ∷ is) ≡ get_or ids i 0 ∷ K is = rw (e, sound, f) in
          let c : C (i ∷ is) ≡ C is = rw (e, whole) in
          subst (λ (x : NextChild). ToldChild x (i ∷ is)) r
          (record { less = omega arith; below = λ b. b.1; kids = k; clean = c; found = refl })
      go true e false f w =
          let r : next_of t ids n id is ≡ next_of t ids n id (i ∷ is) = rw (e, f, next_of) in
          let k : K (i ∷ is) ≡ K is = rw (e, sound, f) in
          let c : C (i ∷ is) ≡ C is = rw (e, whole) in
          subst (λ (x : NextChild). ToldChild x (i ∷ is)) r (lift i is k c (next_of t ids n id is) w)

-- what an answer to slots of a ring says of them
pub next-told : (g : Around) (id : ℕ) (l : List ℕ) (r : NextChild) → next_in g id l ≡ r
    → ToldChild g.table g.ids g.len id r l
next-told g id l r e =
    subst (λ (q : NextChild). ToldChild g.table g.ids g.len id q l) e (told g.table g.ids g.len id l)

-- ---- a walk over them that is read a page at a time

-- the child p, whose entry is e, is the first among slots of a ring, and the children after it are those of the slots l'
abbrev pub Further : Around → ℕ → List ℕ → ℕ → Entry → List ℕ → Type 0
Further g id l p e l' = Follows g.table g.ids g.len id l p e l'

-- what a reply says of the slots l, which were ahead, and of those that are ahead with the page that it leaves
module _ (g : Around) (id : ℕ) (l page : List ℕ) (at : Pages) (r : Result (Option Child) Refusal)
    (w : child_in g page at r ≡ next_in g id l) where
  said : (x : Result (Option Child) Refusal) → r ≡ x → ToldChild g.table g.ids g.len id (child_in g page at x) l
  said x e = next-told g id l (child_in g page at x) (sym w ∙ ap (child_in g page at) e)

  pub kid-next : (k : Child) → r ≡ Ok (Some k) → Further g id l k.place k.entry (ahead_in g page at)
  kid-next k e = said (Ok (Some k)) e

  pub kid-done : r ≡ Ok None → (kids_in g id l ≡ []) × (clean_in g l ≡ true)
  kid-done e = said (Ok None) e

  pub kid-refused : (x : Refusal) → r ≡ Err x → (x ≡ Spoiled) × (kids_in g id l ≡ []) × (clean_in g l ≡ false)
  kid-refused x e = said (Err x) e
