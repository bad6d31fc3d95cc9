-- How a page is filled: slot by slot, from the median to the right part and the left, and after a slot. Assumes nothing.
use mathlib.Core.Bool.{Bool, true, false}
use mathlib.Core.Path.{◌≡◌, refl, sym, ap, ◌∙◌, subst}
use mathlib.Core.List.{List, [], ◌∷◌, ◌++◌}
use Prim.Native.Nat.{ℕ, ◌+◌, ◌-◌, ◌≤◌, ◌<◌}
use native.Mathlib.Numerals.{add-one}
use native.Mathlib.Omega.{arith}
use borrow.Author.Tests.{le-ltb, lt-ltb, ltb-true, ltb-false}
use lib.Dec.{ltb}
use lib.ListN.{length, set, take, length-set}
use lib.Seq.{take-suc-set, append_snoc}
use Rattle.kdsort.specs.Shape.{shape, mid}
use Rattle.kdslots.specs.Slots.{Search, when, scanned, slots}
use Rattle.kdslots.specs.laws.Intervals.{below}
use Rattle.kdpages.specs.Pages.{Stored, stored, store}
use Rattle.kdslots.specs.laws.Intervals.{scanned-suc, slots-leaf, slots-node}

-- ---- one slot, and one list after another

pub same_store : (l : List ℕ) {k j : ℕ} {page o : List ℕ} → k ≡ j → page ≡ o → store k l page ≡ store j l o
same_store l e f = cc

-- a full page stays as it is
pub full : (k : ℕ) (l page : List ℕ) → length page ≤ k → stored k page ≡ store k l page
unfolding store
full k [] page h = refl
full k (i ∷ l) page h = rw (le-ltb k (length page) h, store)

pub one_more : (k i : ℕ) (l page : List ℕ) → k < length page → store k (i ∷ l) page ≡ store (k + 1) l (set page k i)
unfolding store
one_more k i l page h = rw (lt-ltb k (length page) h, store)

pub none_more : (k : ℕ) (page : List ℕ) → stored k page ≡ store k [] page
unfolding store
none_more k page = refl

-- what follows, on the page that is left
abbrev go_on : Stored → List ℕ → Stored
go_on (stored k o) l = store k l o

store-append : (k : ℕ) (a b page : List ℕ) → store k (a ++ b) page ≡ go_on (store k a page) b
unfolding store
store-append k [] b page = refl
store-append k (i ∷ a) b page = go (ltb k (length page)) refl (store-append (k + 1) a b (set page k i))
  where
    go : (t : Bool) → ltb k (length page) ≡ t → store (k + 1) (a ++ b) (set page k i) ≡ go_on (store (k + 1) a (set page k i)) b
        → store k ((i ∷ a) ++ b) page ≡ go_on (store k (i ∷ a) page) b
    go true e h = rw (e, store) h
    go false e h = rw (e, store) (full k b page (ltb-false k (length page) e))

pub more : (k j : ℕ) (a b page o : List ℕ) → stored j o ≡ store k a page → store k (a ++ b) page ≡ store j b o
more k j a b page o e = store-append k a b page ∙ ap (λ (x : Stored). go_on x b) (sym e)

-- ---- slot by slot

module _ (s : Search) (i hi : ℕ) where
  pub scan-skips : (k : ℕ) (page : List ℕ) → i < hi → s.test i ≡ false
      → store k (scanned s i (hi - i)) page ≡ store k (scanned s (i + 1) (hi - (i + 1))) page
  scan-skips k page h e = ap (λ (l : List ℕ). store k l page)
      (scanned-suc s i hi h ∙ ap (λ (b : Bool). when b (i ∷ []) ++ scanned s (i + 1) (hi - (i + 1))) e)

  pub scan-stores : (k : ℕ) (page : List ℕ) → i < hi → s.test i ≡ true → k < length page
      → store k (scanned s i (hi - i)) page ≡ store (k + 1) (scanned s (i + 1) (hi - (i + 1))) (set page k i)
  scan-stores k page h e l =
      ap (λ (m : List ℕ). store k m page) (scanned-suc s i hi h ∙ ap (λ (b : Bool). when b (i ∷ []) ++ scanned s (i + 1) (hi - (i + 1))) e)
      ∙ one_more k i (scanned s (i + 1) (hi - (i + 1))) page l

  pub scan-over : (k : ℕ) (page : List ℕ) → hi ≤ i → stored k page ≡ store k (scanned s i (hi - i)) page
  unfolding store scanned
  scan-over k page h = go (hi - i) (omega arith)
    where
      go : (a : ℕ) → a ≡ 0 → stored k page ≡ store k (scanned s i a) page
      go a e = rw e

-- ---- an interval

pub in_leaf : (s : Search) (ax most lo hi at : ℕ) (page : List ℕ) (x : Stored) → hi - lo ≤ most → x ≡ store at (scanned s lo (hi - lo)) page
    → x ≡ store at (slots s ax (shape most lo hi)) page
in_leaf s ax most lo hi at page x h e = e ∙ ap (λ (l : List ℕ). store at l page) (sym (slots-leaf s ax most lo hi h))

module _ (s : Search) (ax most lo hi at : ℕ) (page : List ℕ) (x : Stored) where
  split : most < hi - lo → (b : Bool) → s.test (mid lo hi) ≡ b
      → slots s ax (shape most lo hi) ≡ when b (mid lo hi ∷ []) ++ below s ax most lo hi
  split h b e = slots-node s ax most lo hi h ∙ ap (λ (t : Bool). when t (mid lo hi ∷ []) ++ below s ax most lo hi) e

  pub in-median : most < hi - lo → s.test (mid lo hi) ≡ true → at < length page
      → x ≡ store (at + 1) (below s ax most lo hi) (set page at (mid lo hi))
      → x ≡ store at (slots s ax (shape most lo hi)) page
  in-median h e l f = f ∙ sym (ap (λ (m : List ℕ). store at m page) (split h true e)
      ∙ one_more at (mid lo hi) (below s ax most lo hi) page l)

  pub in_parts : most < hi - lo → s.test (mid lo hi) ≡ false → x ≡ store at (below s ax most lo hi) page
      → x ≡ store at (slots s ax (shape most lo hi)) page
  in_parts h e f = f ∙ sym (ap (λ (m : List ℕ). store at m page) (split h false e))

  abbrev rights : List ℕ
  rights = slots s (1 - ax) (shape most (mid lo hi + 1) hi)

  abbrev lefts : List ℕ
  lefts = when (s.left ax (mid lo hi)) (slots s (1 - ax) (shape most lo (mid lo hi)))

  -- the right part is gone into, and then the left
  pub below_both : s.right ax (mid lo hi) ≡ true → (k : ℕ) (o : List ℕ) → stored k o ≡ store at rights page → x ≡ store k lefts o
      → x ≡ store at (below s ax most lo hi) page
  below_both e k o f g = g ∙ sym (ap (λ (b : Bool). store at (when b rights ++ lefts) page) e ∙ more at k rights lefts page o f)

  -- only the left may be
  pub below_left : s.right ax (mid lo hi) ≡ false → x ≡ store at lefts page → x ≡ store at (below s ax most lo hi) page
  below_left e f = f ∙ sym (ap (λ (b : Bool). store at (when b rights ++ lefts) page) e)

pub left_in : (b : Bool) (at : ℕ) (l page : List ℕ) (x : Stored) → b ≡ true → x ≡ store at l page → x ≡ store at (when b l) page
left_in b at l page x e f = f ∙ sym (ap (λ (t : Bool). store at (when t l) page) e)

pub left_out : (b : Bool) (at : ℕ) (l page : List ℕ) → b ≡ false → stored at page ≡ store at (when b l) page
left_out b at l page e = none_more at page ∙ sym (ap (λ (t : Bool). store at (when t l) page) e)

-- ---- what a page holds that was filled

-- the page and then what did not fit is what was there and then the list; nothing did not fit where the page is not full
pub record Fills (at : ℕ) (l page : List ℕ) (k : ℕ) (o : List ℕ) : Type 0 where
  pub over : List ℕ
  pub joins : take at page ++ l ≡ take k o ++ over
  pub room : k ≤ length o
  pub same : length o ≡ length page
  pub whole : k < length o → over ≡ []

abbrev Holds : ℕ → List ℕ → List ℕ → Stored → Type 0
Holds at l page (stored k o) = Fills at l page k o

holds_more : (at i : ℕ) (l page : List ℕ) → at < length page → (x : Stored) → Holds (at + 1) l (set page at i) x → Holds at (i ∷ l) page x
holds_more at i l page h (stored k o) w =
    let e : take (at + 1) (set page at i) ≡ take at page ++ (i ∷ []) = rw (add-one at) (take-suc-set page at i h) in
    record {
      over = w.over;
      joins = sym (append_snoc (take at page) i l) ∙ sym (ap (λ (m : List ℕ). m ++ l) e) ∙ w.joins;
      room = w.room;
      same = w.same ∙ length-set page at i;
      whole = w.whole;
    }

holds : (at : ℕ) (l page : List ℕ) → at ≤ length page → Holds at l page (store at l page)
unfolding store
holds at [] page h = record { over = []; joins = refl; room = h; same = refl; whole = λ _. refl }
holds at (i ∷ l) page h = go (ltb at (length page)) refl (λ k. holds (at + 1) l (set page at i) (omega (arith, k, length-set page at i)))
  where
    go : (b : Bool) → ltb at (length page) ≡ b → (at < length page → Holds (at + 1) l (set page at i) (store (at + 1) l (set page at i)))
        → Holds at (i ∷ l) page (store at (i ∷ l) page)
    go true e f = let k = ltb-true at (length page) e in rw (e, store) (holds_more at i l page k (store (at + 1) l (set page at i)) (f k))
    go false e f =
        let k = ltb-false at (length page) e in
        rw (e, store) (record { over = i ∷ l; joins = refl; room = h; same = refl; whole = λ j. absurd (omega arith) })

pub page-filled : (l page : List ℕ) (k : ℕ) (o : List ℕ) → stored k o ≡ store 0 l page → Fills 0 l page k o
page-filled l page k o e = subst (λ (x : Stored). Holds 0 l page x) (sym e) (holds 0 l page (omega arith))
