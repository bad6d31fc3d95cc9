-- Each way out of a public function is its definition's case: a refusal, or the answer that the search left. Assumes nothing.
use mathlib.Core.Path.{◌≡◌, refl, sym, ap, ◌∙◌}
use mathlib.Core.Bool.{Bool, true, false, cond, ◌&&◌}
use mathlib.Core.List.{List}
use Prim.Native.Nat.{ℕ, ◌+◌, ◌*◌, ◌≤◌, ◌<◌}
use native.Mathlib.Numerals.{add-one}
use native.Mathlib.Omega.{arith}
use borrow.Author.Tests.{le-leb, lt-leb}
use lib.Dec.{leb, eqb}
use lib.ListN.{length, get_or, drop}
use lib.Seq.{drop-cons}
use lib.Ieee.{Float, nan}
use Rattle.floats.specs.Unit.{in01}
use Rattle.kdsort.specs.Cols.{IndexCols}
use Rattle.kdsort.specs.Sort.{indexed}
use Rattle.kdslots.specs.declared.Query.{Query}
use Rattle.std.specs.Prelude.{Option, Some, None, Result, Ok, Err}
use Rattle.refusals.specs.declared.Refusal.{Refusal}
use Rattle.refusals.specs.declared.Refusal.TheVariants.{Options, Count, Point, Tables, Box, NoRoom, Spoiled}
use Rattle.kdslots.specs.Query.{query_ok}
use Rattle.kdslots.specs.Bounds.{node_size_ok, count_ok}
use Rattle.kdslots.specs.laws.Bounds.{yes, no}
use Rattle.kdbush.specs.laws.Run.{ran, run, pick_reply}
use Rattle.kdbush.specs.Run.{sound, whole, filled}
use Rattle.kdbush.specs.Reply.{first_outside, index_pointed, index_checked, built_by, built, found, told_search, index_ok, listed}
use Rattle.kdbush.specs.Reply.{listed_column, searched}
use Rattle.kdbush.specs.Reply.{column_after}
use Rattle.kdbush.proofs.Runs.{ends}

-- ---- the searches

module _ (q : Query) (size n : ℕ) (ids : List ℕ) (co : List Float) (out : List ℕ) where
  -- the index is refused
  pub search-spoiled : index_ok size n ids co ≡ false → (Err Spoiled ≡ listed q size n ids co (length out))
      × (out ≡ listed_column q size n ids co out)
  unfolding listed listed_column
  search-spoiled e = (sym (no _ _ _ e), sym (no _ _ _ e))

  module _ (e : index_ok size n ids co ≡ true) where
    listed-told : (b : Bool) → whole n (found q size n ids co) ≡ b
        → listed q size n ids co (length out) ≡ told_search b (length (found q size n ids co)) (length out)
    unfolding listed
    listed-told b g = yes _ _ _ e ∙ ap (λ (x : Bool). told_search x (length (found q size n ids co)) (length out)) g

    column-is : listed_column q size n ids co out ≡ filled (sound n (found q size n ids co)) out
    unfolding listed_column
    column-is = yes _ _ _ e

    -- a slot names a place past the table
    pub search-past : (o : List ℕ) → ran None o ≡ run n 0 (found q size n ids co) out
        → (Err Spoiled ≡ listed q size n ids co (length out)) × (o ≡ listed_column q size n ids co out)
    search-past o g =
        let w = ends n (found q size n ids co) out None o g in (
          sym (listed-told false (not-whole (whole n (found q size n ids co)) (length (found q size n ids co)) w.0)),
          w.1
              ∙ sym column-is,
        )
      where
        not-whole : (b : Bool) (k : ℕ) → None ≡ pick_reply b k → b ≡ false
        not-whole true k h = absurd (let z : ◌≡◌ {A = ℕ} 0 1 = cc in omega arith)
        not-whole false k h = refl

    all_found : (k : ℕ) (o : List ℕ) → ran (Some k) o ≡ run n 0 (found q size n ids co) out → (whole n (found q size n ids co) ≡ true)
        × (k ≡ length (found q size n ids co)) × (o ≡ listed_column q size n ids co out)
    all_found k o g =
        let w = ends n (found q size n ids co) out (Some k) o g in
        let v = is_whole (whole n (found q size n ids co)) k (length (found q size n ids co)) w.0 in
        (v.0, v.1, w.1 ∙ sym column-is)
      where
        is_whole : (b : Bool) (k j : ℕ) → Some k ≡ pick_reply b j → (b ≡ true) × (k ≡ j)
        is_whole true k j h = (refl, cc)
        is_whole false k j h = absurd (let z : ◌≡◌ {A = ℕ} 0 1 = cc in omega arith)

    -- the answer is longer than the column
    pub search-no-room : (k : ℕ) (o : List ℕ) → ran (Some k) o ≡ run n 0 (found q size n ids co) out → length out < k
        → (Err (NoRoom k) ≡ listed q size n ids co (length out)) × (o ≡ listed_column q size n ids co out)
    search-no-room k o g h =
        let w = all_found k o g in (
          ap (λ (j : ℕ). Err (NoRoom j)) w.1 ∙ sym (listed-told true w.0
              ∙ no _ _ _ (lt-leb (length (found q size n ids co)) (length out) (omega (arith, w.1)))),
          w.2,
        )

    -- and where it is not
    pub search-found : (k : ℕ) (o : List ℕ) → ran (Some k) o ≡ run n 0 (found q size n ids co) out → k ≤ length out
        → (Ok k ≡ listed q size n ids co (length out)) × (o ≡ listed_column q size n ids co out)
    search-found k o g h =
        let w = all_found k o g in (
          ap Ok w.1 ∙ sym (listed-told true w.0
              ∙ yes _ _ _ (le-leb (length (found q size n ids co)) (length out) (omega (arith, w.1)))),
          w.2,
        )

  -- ---- by numbers that are looked at

  -- an index that is refused is so by both
  searched-listed : (b : Bool) → index_ok size n ids co ≡ b
      → cond b (listed q size n ids co (length out)) (Err Spoiled) ≡ listed q size n ids co (length out)
  searched-listed true e = refl
  searched-listed false e = (search-spoiled e).0

  -- the query is fine
  pub finite-fine : query_ok q ≡ true → (r : Result ℕ Refusal) (o : List ℕ) → r ≡ listed q size n ids co (length out)
      → o ≡ listed_column q size n ids co out
      → (r ≡ searched q size n ids co (length out)) × (o ≡ column_after q size n ids co out)
  unfolding searched column_after
  finite-fine f r o g h = (
    g ∙ sym (ap (λ (x : Result ℕ Refusal). cond (index_ok size n ids co) x (Err Spoiled)) (yes _ _ _ f)
        ∙ searched-listed (index_ok size n ids co) refl),
    h ∙ sym (yes _ _ _ f),
  )

  -- the index is refused, whatever the query is
  pub finite-spoiled : index_ok size n ids co ≡ false → (r : Result ℕ Refusal) (o : List ℕ) → r ≡ listed q size n ids co (length out)
      → o ≡ listed_column q size n ids co out
      → (r ≡ searched q size n ids co (length out)) × (o ≡ column_after q size n ids co out)
  unfolding searched column_after
  finite-spoiled e r o g h = (g ∙ sym (search-spoiled e).0 ∙ sym (no _ _ _ e), either (query_ok q))
    where
      either : (b : Bool) → o ≡ cond b (listed_column q size n ids co out) out
      either true = h
      either false = h ∙ sym (search-spoiled e).1

  -- the query is refused
  pub finite-box : query_ok q ≡ false → index_ok size n ids co ≡ true → (Err Box ≡ searched q size n ids co (length out))
      × (out ≡ column_after q size n ids co out)
  unfolding searched column_after
  finite-box f e = (sym (yes _ _ _ e ∙ no _ _ _ f), sym (no _ _ _ f))

-- ---- the build

-- one point: the rest is looked at, or it is the first outside
pub outside-step : (xs ys : List Float) (i : ℕ) → i < length xs → i < length ys → (in01 (get_or xs i nan) && in01 (get_or ys i nan)) ≡ true
    → first_outside (drop i xs) (drop i ys) i ≡ first_outside (drop (i + 1) xs) (drop (i + 1) ys) (i + 1)
unfolding first_outside
outside-step xs ys i h k e = rw (add-one i) (rw (drop-cons xs i nan h, drop-cons ys i nan k, e, first_outside))

pub outside-here : (xs ys : List Float) (i : ℕ) → i < length xs → i < length ys → (in01 (get_or xs i nan) && in01 (get_or ys i nan)) ≡ false
    → Some i ≡ first_outside (drop i xs) (drop i ys) i
unfolding first_outside
outside-here xs ys i h k e = rw (drop-cons xs i nan h, drop-cons ys i nan k, e, first_outside)

module _ (size : ℕ) (xs ys : List Float) (s : IndexCols) where
  leaves : (r : Result (Unit {0}) Refusal) → index_checked size xs ys s ≡ r → built_by r size xs ys s ≡ built size xs ys s
  leaves r e = ap (λ (x : Result (Unit {0}) Refusal). built_by x size xs ys s) (sym e)

  pub build-options : node_size_ok size ≡ false → (Err Options ≡ index_checked size xs ys s) × (s ≡ built size xs ys s)
  unfolding index_checked
  build-options e = let c : index_checked size xs ys s ≡ Err Options = no _ _ _ e in (sym c, leaves (Err Options) c)

  pub build-count : node_size_ok size ≡ true → (count_ok (length xs) && eqb (length ys) (length xs)) ≡ false
      → (Err Count ≡ index_checked size xs ys s) × (s ≡ built size xs ys s)
  unfolding index_checked
  build-count e f = let c : index_checked size xs ys s ≡ Err Count = yes _ _ _ e ∙ no _ _ _ f in (sym c, leaves (Err Count) c)

  module _ (e : node_size_ok size ≡ true) (f : (count_ok (length xs) && eqb (length ys) (length xs)) ≡ true) where
    past-count : index_checked size xs ys s ≡ index_pointed (first_outside xs ys 0)
        (cond (leb (length xs) (length s.ids) && leb (2 * length xs) (length s.co)) (Ok tt) (Err Tables))
    unfolding index_checked
    past-count = yes _ _ _ e ∙ yes _ _ _ f

    pub build-point : (i : ℕ) → Some i ≡ first_outside xs ys 0 → (Err (Point i) ≡ index_checked size xs ys s) × (s ≡ built size xs ys s)
    build-point i g =
        let c : index_checked size xs ys s ≡ Err (Point i) = past-count
        ∙ ap (λ (x : Option ℕ). index_pointed x
        (cond (leb (length xs) (length s.ids) && leb (2 * length xs) (length s.co)) (Ok tt) (Err Tables))) (sym g) in
        (sym c, leaves (Err (Point i)) c)

    past_points : None ≡ first_outside xs ys 0
        → index_checked size xs ys s ≡ cond (leb (length xs) (length s.ids) && leb (2 * length xs) (length s.co)) (Ok tt) (Err Tables)
    past_points g = past-count ∙ ap
        (λ (x : Option ℕ). index_pointed x
        (cond (leb (length xs) (length s.ids) && leb (2 * length xs) (length s.co)) (Ok tt) (Err Tables))) (sym g)

    pub build-tables : None ≡ first_outside xs ys 0 → (leb (length xs) (length s.ids) && leb (2 * length xs) (length s.co)) ≡ false
        → (Err Tables ≡ index_checked size xs ys s) × (s ≡ built size xs ys s)
    build-tables g h = let c : index_checked size xs ys s ≡ Err Tables = past_points g ∙ no _ _ _ h in (sym c, leaves (Err Tables) c)

    pub build-done : None ≡ first_outside xs ys 0 → (leb (length xs) (length s.ids) && leb (2 * length xs) (length s.co)) ≡ true
        → (Ok tt ≡ index_checked size xs ys s) × (indexed size xs ys s ≡ built size xs ys s)
    build-done g h = let c : index_checked size xs ys s ≡ Ok tt = past_points g ∙ yes _ _ _ h in (sym c, leaves (Ok tt) c)
