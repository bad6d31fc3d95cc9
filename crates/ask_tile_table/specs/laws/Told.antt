-- What is counted with marks is the tally: where each place has a mark of its own always, and where marks are few unless it ended
-- unsure. Assumes nothing.
use Rattle.std.specs.Prelude.{◌≡◌, Bool, cond, Result, Ok, Err, ◌&&◌, ◌||◌, List, [], ◌∷◌, ◌++◌, ℕ, suc, ◌+◌, ◌*◌, ◌/◌, ◌%◌, ◌^◌, ◌≤◌, ◌<◌, leb, ltb, length, get_or, replicate}
use Rattle.std.proofs.Math.Path.{refl}
use Rattle.std.proofs.Common.{sym, ap, ◌∙◌, arith, add-zero, zero-add, add_assoc, eqb-true, ltb-true}
use Rattle.std.proofs.Math.Bool.{true, false}
use Rattle.std.proofs.Math.Dec.{eqb}
use Rattle.std.proofs.Math.ListN.{length-set}
use Rattle.std.proofs.lemmas.List.{length-replicate}
use Rattle.std.proofs.lemmas.Bool.{eqb-false}
use Rattle.kdslots.specs.laws.Bounds.{and_both}
use Rattle.build_tables.specs.declared.Entry.{Entry}
use Rattle.build_tables.specs.Entries.{Table, entry}
use Rattle.ask_tile_table.specs.declared.Running.{Running}
use Rattle.ask_tile_table.specs.declared.Cut.{Cut}
use Rattle.ask_tile_table.specs.declared.Cut.TheVariants.{Unlisted, Unsure}
use Rattle.ask_tile_table.specs.Tile.{Visit, listable, tile_listed, whole_tile}
use Rattle.ask_tile_table.specs.laws.Marks.{marked_places, mark_place, fresh, mark-same, mark-other}
use Rattle.ask_tile_table.specs.Tally.{member, distinct, total, tally_of}
use Rattle.ask_tile_table.specs.laws.Counting.{HeldMarks, held_marks, running, places_in, places-append, mark_of, marks_for, doubt}
use Rattle.ask_tile_table.specs.laws.Counting.{added, marking_place, counted}
use Rattle.ask_tile_table.specs.laws.Counting.{counted-more, counted-ends, running_of, is_unsure, settled}

-- ---- the marks are those of the places counted

-- there are marks for n places, and none is there
pub record Blank (few : Bool) (n : ℕ) (m : List ℕ) : Type 0 where
  pub reach : marks_for few n ≤ 8 * length m
  pub clear : (q : ℕ) → q < marks_for few n → marked_places m q ≡ false

pub blank : (few : Bool) (n k : ℕ) → marks_for few n ≤ 8 * k → Blank few n (replicate k 0)
blank few n k h = record { reach = omega (arith, length-replicate {A = ℕ} k 0); clear = λ q l. fresh k q (omega arith) }

pub mark-below : (few : Bool) (n p : ℕ) → p < n → mark_of few p < marks_for few n
mark-below true n p h = omega arith
mark-below false n p h = h

-- what was counted is marked; and where each place has its own mark, nothing else is
record Agree (few : Bool) (n : ℕ) (m seen : List ℕ) : Type 0 where
  long : marks_for few n ≤ 8 * length m
  keeps : (p : ℕ) → member p seen ≡ true → marked_places m (mark_of few p) ≡ true
  only : few ≡ false → (p : ℕ) → p < n → marked_places m p ≡ true → member p seen ≡ true

no : true ≡ false → ⊥
no e = let y : ◌≡◌ {A = ℕ} 0 1 = cc in omega arith

agree-blank : (few : Bool) (n : ℕ) (m : List ℕ) → Blank few n m → Agree few n m []
unfolding member
agree-blank true n m b = record { long = b.reach; keeps = λ p e. absurd (no (sym e)); only = λ e p h f. absurd (no e) }
agree-blank false n m b = record {
  long = b.reach;
  keeps = λ p e. absurd (no (sym e));
  only = λ e p h f. absurd (no (sym f ∙ b.clear p h));
}

module _ (few : Bool) (n : ℕ) (m seen : List ℕ) (p : ℕ) (h : p < n) (e : marked_places m (mark_of few p) ≡ false)
    (a : Agree few n m seen) where
  reached : mark_of few p / 8 < length m
  reached = let b = mark-below few n p h in omega (arith, a.long)

  keeps-one : (q : ℕ) → member q (p ∷ seen) ≡ true → marked_places (mark_place m (mark_of few p)) (mark_of few q) ≡ true
  unfolding member
  keeps-one q i = go (eqb (mark_of few q) (mark_of few p)) refl
    where
      old : (b : Bool) → eqb q p ≡ b → member q (p ∷ seen) ≡ true → (mark_of few q ≡ mark_of few p → ⊥) → member q seen ≡ true
      old true g i f = absurd (f (ap (mark_of few) (eqb-true q p g)))
      old false g i f = rw (g, member) at i

      go : (b : Bool) → eqb (mark_of few q) (mark_of few p) ≡ b → marked_places (mark_place m (mark_of few p)) (mark_of few q) ≡ true
      go true g = ap (marked_places (mark_place m (mark_of few p))) (eqb-true (mark_of few q) (mark_of few p) g)
          ∙ mark-same m (mark_of few p) reached e
      go false g =
          let f = eqb-false (mark_of few q) (mark_of few p) g in
          mark-other m (mark_of few p) (mark_of few q) reached f e ∙ a.keeps q (old (eqb q p) refl i f)

  only_one : few ≡ false → (q : ℕ) → q < n → marked_places (mark_place m (mark_of few p)) q ≡ true → member q (p ∷ seen) ≡ true
  unfolding member
  only_one z q l i = go (eqb q p) refl
    where
      own : mark_of few p ≡ p
      own = rw z

      go : (b : Bool) → eqb q p ≡ b → member q (p ∷ seen) ≡ true
      go true g = rw (g, member)
      go false g =
          let f : q ≡ mark_of few p → ⊥ = λ k. eqb-false q p g (k ∙ own) in
          rw (g, member) (a.only z q l (sym (mark-other m (mark_of few p) q reached f e) ∙ i))

  agree-mark : Agree few n (mark_place m (mark_of few p)) (p ∷ seen)
  unfolding mark_place
  agree-mark = record {
    long = omega (arith, a.long, length-set m (mark_of few p / 8) (get_or m (mark_of few p / 8) 0 + 2 ^ (mark_of few p % 8)));
    keeps = keeps-one;
    only = only_one;
  }

-- ---- what is counted

-- whether everything was tallied, how many are listed and their tally; but few marks may leave it unsure
data Good : Bool → HeldMarks → Bool → ℕ → ℕ → Type 0 where
  good : {few : Bool} {k s : ℕ} {m : List ℕ} → Good few (held_marks (Ok (running k s)) m) true k s
  spoiled : {few : Bool} {k s : ℕ} {m : List ℕ} → Good few (held_marks (Err (Unlisted (running k s))) m) false k s
  unsure : {b : Bool} {i u : ℕ} {r : Running} {m : List ℕ} → Good true (held_marks (Err (Unsure r)) m) b i u

good-is : (few : Bool) (r : Result Running Cut) (m : List ℕ) (h : HeldMarks) (b : Bool) (i u : ℕ) → held_marks r m ≡ h → Good few h b i u
    → (few && is_unsure r) ≡ false → settled r ≡ cond b (Ok (running i u)) (Err (running i u))
good-is few r m _ b i u e good f = ap settled (let q : r ≡ Ok (running i u) = cc in q)
good-is few r m _ b i u e spoiled f = ap settled (let q : r ≡ Err (Unlisted (running i u)) = cc in q)
good-is few r m _ b i u e (unsure {r = x}) f = absurd (let q : r ≡ Err (Unsure x) = cc in no (sym (ap is_unsure q) ∙ f))

-- what is counted of vs after k listed with the tally s
abbrev Counts : Bool → (Entry → ℕ) → Table → ℕ → ℕ → List Visit → List ℕ → List ℕ → Type 0
Counts few w t k s vs m seen = Good few (counted few w t k s (places_in vs) m) (whole_tile t vs) (k + length (tile_listed t vs))
    (s + total w t (distinct seen (places_in (tile_listed t vs))))

-- no doubt: the place has no mark, or it has its own
certain : (few : Bool) (k : ℕ) (there : Bool) → doubt few k there ≡ false → there ≡ true → few ≡ false
certain true k there d e = absurd (no (sym (or-true (leb 16 k) there e) ∙ d))
  where
    or-true : (a b : Bool) → b ≡ true → (a || b) ≡ true
    or-true true b e = refl
    or-true false b e = e
certain false k there d e = refl

counts : (few : Bool) (w : Entry → ℕ) (t : Table) (k s : ℕ) (vs : List Visit) (m seen : List ℕ) → Agree few (length t) m seen
    → Counts few w t k s vs m seen
unfolding counted whole_tile tile_listed total distinct
counts few w t k s [] m seen a = rw (add-zero, add-zero) good
counts few w t k s (v ∷ vs) m seen a =
    at (listable t v.place) refl (counts few w t (k + 1) s vs m seen a)
    (λ h e. counts few w t (k + 1) (s + w (entry t v.place)) vs (mark_place m (mark_of few v.place)) (v.place ∷ seen)
    (agree-mark few (length t) m seen v.place h e a))
  where
    more : (i : ℕ) → k + 1 + i ≡ k + suc i
    more i = omega arith

    inside : listable t v.place ≡ true → v.place < length t
    inside e = ltb-true v.place (length t) (and_both (ltb v.place (length t)) _ e).0

    new : marked_places m (mark_of few v.place) ≡ false → (b : Bool) → member v.place seen ≡ b → member v.place seen ≡ false
    new e true f = absurd (no (sym (a.keeps v.place f) ∙ e))
    new e false f = f

    old : doubt few k (marked_places m (mark_of few v.place)) ≡ false → marked_places m (mark_of few v.place) ≡ true → v.place < length t
        → member v.place seen ≡ true
    old d e l = let z = certain few k _ d e in a.only z v.place l (rw z at e)

    go : (b : Bool) → marked_places m (mark_of few v.place) ≡ b → doubt few k (marked_places m (mark_of few v.place)) ≡ false
        → v.place < length t
        → Counts few w t (k + 1) s vs m seen
        → (marked_places m (mark_of few v.place) ≡ false → Counts few w t (k + 1) (s + w (entry t v.place)) vs
        (mark_place m (mark_of few v.place)) (v.place ∷ seen))
        → Good few (counted few w t (k + 1) (cond b s (s + w (entry t v.place))) (places_in vs)
        (cond b m (mark_place m (mark_of few v.place)))) (whole_tile t vs) (k + suc (length (tile_listed t vs)))
        (s + total w t (distinct seen (v.place ∷ places_in (tile_listed t vs))))
    go true e d l c f = let g = old d e l in rw (g, distinct) (rw (more (length (tile_listed t vs))) at c)
    go false e d l c f =
        let g = new e (member v.place seen) refl in
        rw (g, distinct) (rw (more (length (tile_listed t vs)), add_assoc) at (f e))

    sifted : (d : Bool) → doubt few k (marked_places m (mark_of few v.place)) ≡ d → v.place < length t
        → Counts few w t (k + 1) s vs m seen
        → (marked_places m (mark_of few v.place) ≡ false → Counts few w t (k + 1) (s + w (entry t v.place)) vs
        (mark_place m (mark_of few v.place)) (v.place ∷ seen))
        → Good few (elim d [
          | true ↦ held_marks (Err (Unsure (running k s))) m
          | false ↦ counted few w t (k + 1) (added (w (entry t v.place)) (mark_of few v.place) s m) (places_in vs)
              (marking_place (mark_of few v.place) m)
        ])
        (whole_tile t vs) (k + suc (length (tile_listed t vs))) (s + total w t (distinct seen (v.place ∷ places_in (tile_listed t vs))))
    sifted true d l c f = doubted few d
      where
        doubted : (few : Bool) → doubt few k (marked_places m (mark_of few v.place)) ≡ true → {b : Bool} {i u : ℕ}
            → Good few (held_marks (Err (Unsure (running k s))) m) b i u
        doubted true d = unsure
        doubted false d = absurd (no (sym d))
    sifted false d l c f = go (marked_places m (mark_of few v.place)) refl d l c f

    at : (b : Bool) → listable t v.place ≡ b → Counts few w t (k + 1) s vs m seen
        → (v.place < length t → marked_places m (mark_of few v.place) ≡ false
        → Counts few w t (k + 1) (s + w (entry t v.place)) vs (mark_place m (mark_of few v.place)) (v.place ∷ seen))
        → Counts few w t k s (v ∷ vs) m seen
    at true e c f = rw (e, counted, whole_tile, tile_listed)
        (sifted (doubt few k (marked_places m (mark_of few v.place))) refl (inside e) c (f (inside e)))
    at false e c f = rw (e, counted, whole_tile, tile_listed) (rw (add-zero, add-zero) spoiled)

-- from no marks; few may leave it unsure
pub counted_is : (few : Bool) (w : Entry → ℕ) (t : Table) (z : List ℕ) → Blank few (length t) z
    → (vs : List Visit) (r : Result Running Cut) (m : List ℕ)
    → held_marks r m ≡ counted few w t 0 0 (places_in vs) z → (few && is_unsure r) ≡ false → settled r ≡ running_of w t vs
unfolding tally_of
counted_is few w t z n vs r m e f =
    good-is few r m _ _ _ _ e (rw (zero-add, zero-add) at (counts few w t 0 0 vs z [] (agree-blank few (length t) z n))) f

-- ---- three searches, one after the other

module _ (few : Bool) (w : Entry → ℕ) (t : Table) (M : List ℕ) (n : Blank few (length t) M) (A B C : List Visit) where
  joined : places_in (A ++ (B ++ C)) ≡ places_in A ++ (places_in B ++ places_in C)
  joined = places-append A (B ++ C) ∙ ap (λ (l : List ℕ). places_in A ++ l) (places-append B C)

  -- a tally that is sure
  abbrev pub Sure : Result Running Cut → Type 0
  Sure r = (few && is_unsure r) ≡ false → settled r ≡ running_of w t (A ++ (B ++ C))

  done : (r : Result Running Cut) (m : List ℕ) → held_marks r m ≡ counted few w t 0 0 (places_in A ++ (places_in B ++ places_in C)) M
      → Sure r
  done r m e = counted_is few w t M n (A ++ (B ++ C)) r m (e ∙ ap (λ (l : List ℕ). counted few w t 0 0 l M) (sym joined))

  -- it ends with the first, the second or the third
  pub tally-first : (c : Cut) (m : List ℕ) → held_marks (Err c) m ≡ counted few w t 0 0 (places_in A) M → Sure (Err c)
  tally-first c m e = done (Err c) m (counted-ends few w t 0 0 (places_in A) (places_in B ++ places_in C) M c m e)

  module _ (a : Running) (m : List ℕ) (e : held_marks (Ok a) m ≡ counted few w t 0 0 (places_in A) M) where
    rest : counted few w t 0 0 (places_in A ++ (places_in B ++ places_in C)) M
        ≡ counted few w t a.count a.sum (places_in B ++ places_in C) m
    rest = counted-more few w t 0 0 (places_in A) (places_in B ++ places_in C) M a m e

    pub tally-second : (c : Cut) (o : List ℕ) → held_marks (Err c) o ≡ counted few w t a.count a.sum (places_in B) m → Sure (Err c)
    tally-second c o f = done (Err c) o (counted-ends few w t a.count a.sum (places_in B) (places_in C) m c o f ∙ sym rest)

    pub tally-third : (b : Running) (o : List ℕ) → held_marks (Ok b) o ≡ counted few w t a.count a.sum (places_in B) m
        → (r : Result Running Cut) (q : List ℕ) → held_marks r q ≡ counted few w t b.count b.sum (places_in C) o → Sure r
    tally-third b o f r q j = done r q (j ∙ sym (counted-more few w t a.count a.sum (places_in B) (places_in C) m b o f) ∙ sym rest)
