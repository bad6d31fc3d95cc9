-- The tally as the code takes it, with a mark for what is counted. Where each place has a mark of its own, a place is marked just where
-- it was counted before, and the tally is the sum over the distinct places. Where marks are few, a place has that of its remainder: one
-- that is not marked was not counted before; where it is marked, or many are counted, the tally ends unsure. Where it is sure, it is the
-- sum over the distinct places too. Assumes nothing.
use Rattle.std.specs.Prelude.{◌≡◌, Bool, cond, ◌&&◌, ◌||◌, Result, Ok, Err, ℕ, ◌+◌, ◌*◌, ◌%◌, ◌≤◌, leb, ltb, length}
use Rattle.std.proofs.Math.Path.{refl}
use Rattle.std.proofs.Common.{sym, ap, ◌∙◌}
use Rattle.std.proofs.Math.Bool.{true, false}
use mathlib.Core.List.{List, [], ◌∷◌, ◌++◌, map}
use Rattle.floats.specs.Unit.{in01}
use Rattle.kdslots.specs.laws.Bounds.{and_both}
use Rattle.build_tables.specs.declared.Entry.{Entry}
use Rattle.build_tables.specs.Entries.{Table, entry}
use Rattle.ask_tile_table.specs.declared.TileSearch.{TileSearch}
use Rattle.ask_tile_table.specs.declared.Running.{Running}
use Rattle.ask_tile_table.specs.declared.Cut.{Cut}
use Rattle.ask_tile_table.specs.declared.Cut.TheVariants.{Unlisted, Unsure}
use Rattle.ask_tile_table.specs.Tile.{Visit, visits_of, listable, tile_listed, whole_tile}
use Rattle.ask_tile_table.specs.laws.Marks.{marked_places, mark_place}
use Rattle.ask_tile_table.specs.Tally.{tally_of}

-- a tally on its way, or what cuts it short, beside the marks
pub data HeldMarks : Type 0 where
  held_marks : Result Running Cut → List ℕ → HeldMarks

-- the marks, by a contract that says what is held
abbrev pub marks_held : {r : Result Running Cut} {m : List ℕ} {h : HeldMarks} → held_marks r m ≡ h → List ℕ
marks_held {m = m} e = m

-- so many are listed, with this sum
abbrev pub running : ℕ → ℕ → Running
running k s = record { count = k; sum = s }

-- the tally, cut short or not
abbrev pub tallied_in : Result Running Cut → Running
tallied_in (Ok a) = a
tallied_in (Err (Unlisted a)) = a
tallied_in (Err (Unsure a)) = a

-- a tally of at most n, whose sum the nums allow
abbrev pub Within : ℕ → Result Running Cut → Type 0
Within n r =
    let a = tallied_in r in
    (a.count ≤ n) × (a.sum ≤ a.count * 4294967295)

-- the places of visits
abbrev pub places_in : List Visit → List ℕ
places_in vs = map (λ v. v.place) vs

pub places_of : (g : TileSearch) (ps : List ℕ) → places_in (visits_of g ps) ≡ ps
places_of g [] = refl
places_of g (p ∷ ps) = ap (λ (l : List ℕ). p ∷ l) (places_of g ps)

pub places-append : (a b : List Visit) → places_in (a ++ b) ≡ places_in a ++ places_in b
places-append [] b = refl
places-append (v ∷ a) b = ap (λ (l : List ℕ). v.place ∷ l) (places-append a b)

-- ---- a mark for what is counted

-- the mark of the place p: its own, or, where marks are few, that of its remainder; and how many marks there are for n places
abbrev pub mark_of : Bool → ℕ → ℕ
mark_of few p = cond few (p % 8192) p

abbrev pub marks_for : Bool → ℕ → ℕ
marks_for few n = cond few 8192 n

-- few marks cannot tell, k being listed: many are, or the mark is there already
abbrev pub doubt : Bool → ℕ → Bool → Bool
doubt few k there = few && (leb 16 k || there)

-- what a place weighs, added where its mark q is not there; and q marked
abbrev pub added : ℕ → ℕ → ℕ → List ℕ → ℕ
added n q s m = cond (marked_places m q) s (s + n)

abbrev pub marking_place : ℕ → List ℕ → List ℕ
marking_place q m = cond (marked_places m q) m (mark_place m q)

-- the places one after the other, k listed before with the tally s. The first that cannot be listed ends it, and so does the first in
-- doubt.
unfoldable pub counted : Bool → (Entry → ℕ) → Table → ℕ → ℕ → List ℕ → List ℕ → HeldMarks
counted few w t k s [] m = held_marks (Ok (running k s)) m
counted few w t k s (p ∷ ps) m =
    elim (listable t p) [
      | true ↦
          elim (doubt few k (marked_places m (mark_of few p))) [
            | true ↦ held_marks (Err (Unsure (running k s))) m
            | false ↦ counted few w t (k + 1) (added (w (entry t p)) (mark_of few p) s m) ps (marking_place (mark_of few p) m)
          ]
      | false ↦ held_marks (Err (Unlisted (running k s))) m
    ]

-- ---- one after the other

-- what follows, where it goes on
abbrev onward : HeldMarks → (ℕ → ℕ → List ℕ → HeldMarks) → HeldMarks
onward (held_marks (Ok r) m) f = f r.count r.sum m
onward (held_marks (Err e) m) f = held_marks (Err e) m

module _ (few : Bool) (w : Entry → ℕ) (t : Table) where
  counted-append : (k s : ℕ) (ps qs m : List ℕ)
      → counted few w t k s (ps ++ qs) m ≡ onward (counted few w t k s ps m) (λ a u o. counted few w t a u qs o)
  unfolding counted
  counted-append k s [] qs m = refl
  counted-append k s (p ∷ ps) qs m =
      go (listable t p) refl (doubt few k (marked_places m (mark_of few p))) refl
      (counted-append (k + 1) (added (w (entry t p)) (mark_of few p) s m) ps qs (marking_place (mark_of few p) m))
    where
      go : (b : Bool) → listable t p ≡ b → (d : Bool) → doubt few k (marked_places m (mark_of few p)) ≡ d
          → counted few w t (k + 1) (added (w (entry t p)) (mark_of few p) s m) (ps ++ qs) (marking_place (mark_of few p) m)
          ≡ onward (counted few w t (k + 1) (added (w (entry t p)) (mark_of few p) s m) ps (marking_place (mark_of few p) m))
          (λ a u o. counted few w t a u qs o)
          → counted few w t k s (p ∷ (ps ++ qs)) m ≡ onward (counted few w t k s (p ∷ ps) m) (λ a u o. counted few w t a u qs o)
      go true e true d h = rw (e, counted) (rw d)
      go true e false d h = rw (e, counted) (rw d h)
      go false e d f h = rw (e, counted)

  pub counted-more : (k s : ℕ) (ps qs m : List ℕ) (a : Running) (o : List ℕ) → held_marks (Ok a) o ≡ counted few w t k s ps m
      → counted few w t k s (ps ++ qs) m ≡ counted few w t a.count a.sum qs o
  counted-more k s ps qs m a o e = rw (counted-append, ← e)

  pub counted-ends : (k s : ℕ) (ps qs m : List ℕ) (c : Cut) (o : List ℕ) → held_marks (Err c) o ≡ counted few w t k s ps m
      → held_marks (Err c) o ≡ counted few w t k s (ps ++ qs) m
  counted-ends k s ps qs m c o e = rw (counted-append, ← e)

  -- ---- a place

  pub counted_none : (k s : ℕ) (m : List ℕ) → held_marks (Ok (running k s)) m ≡ counted few w t k s [] m
  unfolding counted
  counted_none k s m = refl

  pub counted-bad : (k s p : ℕ) (m : List ℕ) → listable t p ≡ false → held_marks (Err (Unlisted (running k s))) m ≡ counted few w t k s (p ∷ []) m
  unfolding counted
  counted-bad k s p m e = rw (e, counted)

  pub counted-doubt : (k s p : ℕ) (m : List ℕ) → listable t p ≡ true → doubt few k (marked_places m (mark_of few p)) ≡ true
      → held_marks (Err (Unsure (running k s))) m ≡ counted few w t k s (p ∷ []) m
  unfolding counted
  counted-doubt k s p m e d = rw (e, counted) (rw d)

  pub counted-one : (k s p : ℕ) (m : List ℕ) → listable t p ≡ true → doubt few k (marked_places m (mark_of few p)) ≡ false
      → held_marks (Ok (running (k + 1) (added (w (entry t p)) (mark_of few p) s m))) (marking_place (mark_of few p) m)
      ≡ counted few w t k s (p ∷ []) m
  unfolding counted
  counted-one k s p m e d = rw (e, counted) (rw d)

  -- ---- a turn of the walk

  module _ (k s : ℕ) (l m : List ℕ) where
    -- what is still to be counted, k being listed
    abbrev pub remains : HeldMarks
    remains = counted few w t k s l m

    pub count-end : l ≡ [] → held_marks (Ok (running k s)) m ≡ remains
    unfolding counted
    count-end e = rw e

    module _ (p : ℕ) (r : List ℕ) (q : l ≡ p ∷ r) (o : List ℕ) where
      pub count-stop : (f : Cut) → held_marks (Err f) o ≡ counted few w t k s (p ∷ []) m → held_marks (Err f) o ≡ remains
      count-stop f g = rw q (counted-ends k s (p ∷ []) r m f o g)

      pub count_next : (a : Running) → held_marks (Ok a) o ≡ counted few w t k s (p ∷ []) m → counted few w t a.count a.sum r o ≡ remains
      count_next a g = rw q (sym (counted-more k s (p ∷ []) r m a o g))

-- only what can be listed is weighed
pub counted_same : (few : Bool) (w v : Entry → ℕ) → ((e : Entry) → in01 e.x ≡ true → in01 e.y ≡ true → w e ≡ v e)
    → (t : Table) (k s : ℕ) (ps m : List ℕ)
    → counted few w t k s ps m ≡ counted few v t k s ps m
unfolding counted
counted_same few w v f t k s [] m = refl
counted_same few w v f t k s (p ∷ ps) m =
    go (listable t p) refl (doubt few k (marked_places m (mark_of few p))) refl
    (counted_same few w v f t (k + 1) (added (w (entry t p)) (mark_of few p) s m) ps (marking_place (mark_of few p) m))
  where
    go : (b : Bool) → listable t p ≡ b → (d : Bool) → doubt few k (marked_places m (mark_of few p)) ≡ d
        → counted few w t (k + 1) (added (w (entry t p)) (mark_of few p) s m) ps (marking_place (mark_of few p) m)
        ≡ counted few v t (k + 1) (added (w (entry t p)) (mark_of few p) s m) ps (marking_place (mark_of few p) m)
        → counted few w t k s (p ∷ ps) m ≡ counted few v t k s (p ∷ ps) m
    go true e true d h = rw (e, counted) (rw d)
    go true e false d h =
        let a = (and_both (ltb p (length t)) _ e).1 in
        let b = and_both (in01 (entry t p).x) (in01 (entry t p).y) a in
        let q : w (entry t p) ≡ v (entry t p) = f (entry t p) b.0 b.1 in
        rw (e, counted) (rw d (h ∙ ap (λ (n : ℕ). counted few v t (k + 1) (added n (mark_of few p) s m) ps (marking_place (mark_of few p) m))
        q))
    go false e d i h = rw (e, counted)

-- what the tally of a list of visits comes to: where an entry cannot be listed, the tally of those before it
abbrev pub running_of : (Entry → ℕ) → Table → List Visit → Result Running Running
running_of w t vs =
    let r = running (length (tile_listed t vs)) (tally_of w t vs) in
    cond (whole_tile t vs) (Ok r) (Err r)

-- whether the marks could not tell; and a tally that was sure
abbrev pub is_unsure : Result Running Cut → Bool
is_unsure (Ok a) = false
is_unsure (Err (Unlisted a)) = false
is_unsure (Err (Unsure a)) = true

abbrev pub settled : Result Running Cut → Result Running Running
settled (Ok a) = Ok a
settled (Err (Unlisted a)) = Err a
settled (Err (Unsure a)) = Err a
