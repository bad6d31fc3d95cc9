-- Two searches one after the other are a walk over their joined places: how it ends, how many it counts, and what the column holds when
-- the second search is lent what the first has left of it. Assumes nothing.
use Rattle.std.specs.Prelude.{◌≡◌, refl, Bool, true, false, List, [], ◌∷◌, ◌++◌, ℕ, zero, suc, ◌+◌, ◌-◌, ◌≤◌, min, ltb, length, take, drop, Float, Ok, Err}
use Rattle.std.proofs.Common.{sym, ap, ◌∙◌, true≢false, append-nil, arith, length-drop, length-append, drop_of_length-le}
use Rattle.std.proofs.Math.Seq.{drop-nil}
use Rattle.kdslots.specs.declared.Query.{Query}
use Rattle.kdslots.specs.Slots.{answers}
use Rattle.kdbush.specs.laws.Run.{places-length}
use Rattle.kdbush.specs.Run.{sound, whole, filled}
use Rattle.kdbush.specs.Reply.{found}
use Rattle.kdslots.specs.laws.Intervals.{answers-length}
use Rattle.build_tables.specs.laws.Columns.{from_part, from-drop, back}
use Rattle.refusals.specs.declared.Refusal.{Refusal}
use Rattle.refusals.specs.declared.Refusal.TheVariants.{Spoiled}
use Rattle.ask_base.specs.Answers.{Answer, fitted}
use Rattle.ask_base.specs.Asked.{answer_of, column_of}
use Rattle.ask_base.specs.laws.Filled.{filled_none}
use Rattle.ask_box.specs.Lists.{walked}

-- ---- one search

-- how one search came out: k places, or refusal 11 where one is past the table
abbrev pub part_of : Bool → ℕ → Answer
part_of true k = Ok k
part_of false k = Err Spoiled

pub part-all : (b : Bool) (k j : ℕ) → Ok j ≡ part_of b k → (b ≡ true) × (j ≡ k)
part-all true k j e = (refl, cc)
part-all false k j e = cc

pub part-past : (b : Bool) (k : ℕ) (x : Refusal) → Err x ≡ part_of b k → (b ≡ false) × (x ≡ Spoiled)
part-past true k x e = cc
part-past false k x e = (refl, cc)

-- a search finds each slot at most once
pub found-length : (q : Query) (size n : ℕ) (ids : List ℕ) (co : List Float) → length (found q size n ids co) ≤ n
found-length q size n ids co = omega (arith, places-length ids (answers q co size n), answers-length q co size n)

-- ---- the walk over joined places

whole-stops : (n : ℕ) (a b : List ℕ) → whole n a ≡ false → (whole n (a ++ b) ≡ false) × (sound n (a ++ b) ≡ sound n a)
unfolding whole sound
whole-stops n [] b e = absurd (true≢false e)
whole-stops n (p ∷ a) b e = go (ltb p n) refl (whole-stops n a b)
  where
    go : (t : Bool) → ltb p n ≡ t → (whole n a ≡ false → (whole n (a ++ b) ≡ false) × (sound n (a ++ b) ≡ sound n a))
        → (whole n (p ∷ (a ++ b)) ≡ false) × (sound n (p ∷ (a ++ b)) ≡ sound n (p ∷ a))
    go true g f =
        let w = f (rw (g, whole) at e) in
        (rw (g, whole) w.0, rw (g, sound) (ap (λ (l : List ℕ). p ∷ l) w.1))
    go false g f = (rw (g, whole), rw (g, sound))

whole-goes : (n : ℕ) (a b : List ℕ) → whole n a ≡ true → (whole n (a ++ b) ≡ whole n b) × (sound n (a ++ b) ≡ a ++ sound n b)
unfolding whole sound
whole-goes n [] b e = (refl, refl)
whole-goes n (p ∷ a) b e = go (ltb p n) refl (whole-goes n a b)
  where
    go : (t : Bool) → ltb p n ≡ t → (whole n a ≡ true → (whole n (a ++ b) ≡ whole n b) × (sound n (a ++ b) ≡ a ++ sound n b))
        → (whole n (p ∷ (a ++ b)) ≡ whole n b) × (sound n (p ∷ (a ++ b)) ≡ p ∷ (a ++ sound n b))
    go true g f =
        let w = f (rw (g, whole) at e) in
        (rw (g, whole) w.0, rw (g, sound) (ap (λ (l : List ℕ). p ∷ l) w.1))
    go false g f = absurd (true≢false (sym (rw (g, whole) at e)))

pub whole-sound : (n : ℕ) (a : List ℕ) → whole n a ≡ true → sound n a ≡ a
unfolding sound
whole-sound n a e = ap (sound n) (sym (append-nil a)) ∙ (whole-goes n a [] e).1 ∙ append-nil a

-- ---- the column

-- the second list goes into what the first leaves of the column
filled-append : (s : ℕ) (a b out : List ℕ) → s ≡ min (length a) (length out)
    → filled (a ++ b) out ≡ take s (filled a out) ++ filled b (drop s (filled a out))
filled-append zero [] b out e = ap (filled b) (sym (filled_none out))
filled-append zero (x ∷ a) b [] e = simp drop-nil
filled-append zero (x ∷ a) b (y ∷ out) e = absurd (omega arith)
filled-append (suc s) [] b out e = absurd (omega arith)
filled-append (suc s) (x ∷ a) b [] e = absurd (omega arith)
filled-append (suc s) (x ∷ a) b (y ∷ out) e =
    let k : s ≡ min (length a) (length out) = omega arith in
    ap (λ (l : List ℕ). x ∷ l) (filled-append s a b out k)

back_whole : (s : ℕ) (l p : List ℕ) → back s l p ≡ take s l ++ p
back_whole s l p =
    let h : length (drop s l) ≤ length l - s = rw (length-drop s l) (omega arith) in
    rw (drop_of_length-le (drop s l) {i = length l - s} h) (ap (λ (q : List ℕ). take s l ++ q) (append-nil p))

-- as it comes back, when the part from s on is lent to the second search
pub filled-back : (s : ℕ) (a b out : List ℕ) → s ≡ min (length a) (length out)
    → back s (filled a out) (filled b (from_part s (filled a out))) ≡ filled (a ++ b) out
filled-back s a b out e =
    back_whole s (filled a out) (filled b (from_part s (filled a out)))
    ∙ ap (λ (l : List ℕ). take s (filled a out) ++ filled b l) (from-drop s (filled a out)) ∙ sym (filled-append s a b out e)

-- ---- the ways out: the places a of the first search, and b of the second

module _ (n : ℕ) (a b out : List ℕ) where
  -- the first search meets a place past the table
  pub first_past : whole n a ≡ false → (Err Spoiled ≡ answer_of (walked n (a ++ b)) (length out))
      × (filled (sound n a) out ≡ column_of (walked n (a ++ b)) out)
  first_past e = let w = whole-stops n a b e in (rw w.0, rw w.1)

  module _ (e : whole n a ≡ true) where
    -- there is no second
    pub only-first : (fitted (length a) (length out) ≡ answer_of (walked n (a ++ [])) (length out))
        × (filled (sound n a) out ≡ column_of (walked n (a ++ [])) out)
    only-first = simp (append-nil, e, whole-sound n a e) (refl, refl)

    -- where the second list begins
    module _ (s : ℕ) (f : s ≡ min (length a) (length out)) where
      came : back s (filled (sound n a) out) (filled (sound n b) (from_part s (filled (sound n a) out))) ≡ column_of (walked n (a ++ b)) out
      came = rw (whole-sound n a e, (whole-goes n a b e).1) (filled-back s a (sound n b) out f)

      -- the second search meets a place past the table
      pub second_past : whole n b ≡ false → (Err Spoiled ≡ answer_of (walked n (a ++ b)) (length out))
          × (back s (filled (sound n a) out) (filled (sound n b) (from_part s (filled (sound n a) out))) ≡ column_of (walked n (a ++ b)) out)
      second_past g = (rw ((whole-goes n a b e).0 ∙ g), came)

      -- both go to their end
      pub both-whole : whole n b ≡ true → (fitted (length a + length b) (length out) ≡ answer_of (walked n (a ++ b)) (length out))
          × (back s (filled (sound n a) out) (filled (sound n b) (from_part s (filled (sound n a) out))) ≡ column_of (walked n (a ++ b)) out)
      both-whole g = (rw ((whole-goes n a b e).0 ∙ g, (whole-goes n a b e).1, whole-sound n b g, length-append a b), came)
