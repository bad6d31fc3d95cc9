-- How a search with an allowance goes on: test by test, slot by slot, and from the median to the right part and the left. Assumes nothing.
use mathlib.Core.Bool.{Bool, true, false}
use mathlib.Core.Path.{◌≡◌, sym, ap, ◌∙◌}
use mathlib.Core.List.{List, [], ◌∷◌, ◌++◌}
use Prim.Native.Nat.{ℕ, ◌+◌, ◌-◌, ◌≤◌, ◌<◌}
use native.Mathlib.Omega.{arith}
use lib.Dec.{ltb, eqb}
use lib.ListN.{length, get_or}
use lib.Seq.{set_out}
use Rattle.std.specs.Prelude.{Result, Ok, Err}
use Rattle.kdsort.specs.Shape.{shape, mid}
use Rattle.kdslots.specs.Slots.{Search, when, scanned, slots}
use Rattle.kdslots.specs.laws.Intervals.{scanned-suc, slots-leaf, slots-node}
use Rattle.ask_effort_tests.specs.declared.Spent.{Spent}
use Rattle.ask_effort_tests.specs.declared.End.{End}
use Rattle.ask_effort_tests.specs.Tested.{testing}
use Rattle.ask_effort_tests.specs.Trials.{Mark, marks}
use Rattle.ask_effort_tests.specs.laws.Trials.{marks-append}
use Rattle.ask_effort_tests.specs.laws.Spend.{Went, went_tests, due, then_spent, spend, spend-append, spend-then, spend-ended}

pub same_went : {x y : Result Spent End} {o p : List ℕ} → x ≡ y → o ≡ p → went_tests x o ≡ went_tests y p
same_went e f = cc

module _ (S : Search) (ids : List ℕ) (n : ℕ) where
  -- one test, by what it comes to
  pub put_is : (i : ℕ) (s : Spent) (out : List ℕ) {z v l : Bool} → eqb s.left 0 ≡ z → S.test i ≡ v → ltb (get_or ids i 0) n ≡ l
      → then_spent (due z v l (get_or ids i 0) s out) (λ t p. went_tests (Ok t) p) ≡ spend n (marks S ids (i ∷ [])) s out
  unfolding spend marks
  put_is i s out {z} {v} {l} f g h =
      sym (ap (λ (x : Bool). then_spent (due x (S.test i) (ltb (get_or ids i 0) n) (get_or ids i 0) s out) (λ t p. went_tests (Ok t) p)) f
      ∙ ap (λ (x : Bool). then_spent (due z x (ltb (get_or ids i 0) n) (get_or ids i 0) s out) (λ t p. went_tests (Ok t) p)) g
      ∙ ap (λ (x : Bool). then_spent (due z v x (get_or ids i 0) s out) (λ t p. went_tests (Ok t) p)) h)

  -- a test that passes, where the column does not reach so far
  pub put-past : (i : ℕ) (s : Spent) (out : List ℕ) → eqb s.left 0 ≡ false → S.test i ≡ true → ltb (get_or ids i 0) n ≡ true
      → length out ≤ s.found
      → went_tests (Ok (record { found = s.found + 1; left = s.left - 1 })) out ≡ spend n (marks S ids (i ∷ [])) s out
  put-past i s out f g h l =
      ap (went_tests (Ok (record { found = s.found + 1; left = s.left - 1 }))) (sym (set_out out s.found (get_or ids i 0) l))
      ∙ put_is i s out f g h

  -- what follows, of the slots of two lists
  both_marks : (a b : List ℕ) (s : Spent) (out : List ℕ) → spend n (marks S ids a ++ marks S ids b) s out ≡ spend n (marks S ids (a ++ b)) s out
  both_marks a b s out = ap (λ (ms : List Mark). spend n ms s out) (sym (marks-append S ids a b))

  then_more : (a b : List ℕ) (s k : Spent) (r : Result Spent End) (out o p : List ℕ) → went_tests (Ok k) o ≡ spend n (marks S ids a) s out
      → went_tests r p ≡ spend n (marks S ids b) k o → went_tests r p ≡ spend n (marks S ids (a ++ b)) s out
  then_more a b s k r out o p e f = spend-then n (marks S ids a) (marks S ids b) s k r out o p e f ∙ both_marks a b s out

  then_none : (a b : List ℕ) (s : Spent) (x : End) (out o : List ℕ) → went_tests (Err x) o ≡ spend n (marks S ids a) s out
      → went_tests (Err x) o ≡ spend n (marks S ids (a ++ b)) s out
  then_none a b s x out o e = spend-ended n (marks S ids a) (marks S ids b) s x out o e ∙ both_marks a b s out

  -- ---- slot by slot

  pub scan-more : (i hi : ℕ) (k j : Spent) (out o : List ℕ) → i < hi → went_tests (Ok j) o ≡ spend n (marks S ids (i ∷ [])) k out
      → spend n (marks S ids (scanned (testing S) i (hi - i))) k out
      ≡ spend n (marks S ids (scanned (testing S) (i + 1) (hi - (i + 1)))) j o
  scan-more i hi k j out o h e =
      let rest = scanned (testing S) (i + 1) (hi - (i + 1)) in
      ap (λ (l : List ℕ). spend n (marks S ids l) k out) (scanned-suc (testing S) i hi h)
      ∙ sym (both_marks (i ∷ []) rest k out) ∙ rw (spend-append n (marks S ids (i ∷ [])) (marks S ids rest) k out, ← e)

  pub scan-ends : (i hi : ℕ) (k : Spent) (x : End) (out o : List ℕ) → i < hi → went_tests (Err x) o ≡ spend n (marks S ids (i ∷ [])) k out
      → went_tests (Err x) o ≡ spend n (marks S ids (scanned (testing S) i (hi - i))) k out
  scan-ends i hi k x out o h e =
      then_none (i ∷ []) (scanned (testing S) (i + 1) (hi - (i + 1))) k x out o e
      ∙ sym (ap (λ (l : List ℕ). spend n (marks S ids l) k out) (scanned-suc (testing S) i hi h))

  scanned-none : (i hi : ℕ) → hi ≤ i → scanned (testing S) i (hi - i) ≡ []
  unfolding scanned
  scanned-none i hi h = go (hi - i) (omega arith)
    where
      go : (a : ℕ) → a ≡ 0 → scanned (testing S) i a ≡ []
      go a e = rw e

  pub scan-done : (i hi : ℕ) (k : Spent) (out : List ℕ) → hi ≤ i
      → went_tests (Ok k) out ≡ spend n (marks S ids (scanned (testing S) i (hi - i))) k out
  unfolding spend marks
  scan-done i hi k out h = sym (ap (λ (l : List ℕ). spend n (marks S ids l) k out) (scanned-none i hi h))

  -- ---- an interval

  -- a part that is gone into, and one that is not
  pub gone : (go : Bool) (l : List ℕ) (s : Spent) (x : Result Spent End) (out o : List ℕ) → go ≡ true
      → went_tests x o ≡ spend n (marks S ids l) s out → went_tests x o ≡ spend n (marks S ids (when go l)) s out
  gone go l s x out o e f = rw e f

  pub skipped : (go : Bool) (l : List ℕ) (s : Spent) (out : List ℕ) → go ≡ false
      → went_tests (Ok s) out ≡ spend n (marks S ids (when go l)) s out
  unfolding spend marks
  skipped go l s out e = rw e

  pub part-leaf : (ax most lo hi : ℕ) (s : Spent) (r : Result Spent End) (out o : List ℕ) → hi - lo ≤ most
      → went_tests r o ≡ spend n (marks S ids (scanned (testing S) lo (hi - lo))) s out
      → went_tests r o ≡ spend n (marks S ids (slots (testing S) ax (shape most lo hi))) s out
  part-leaf ax most lo hi s r out o h e =
      e ∙ sym (ap (λ (l : List ℕ). spend n (marks S ids l) s out) (slots-leaf (testing S) ax most lo hi h))

  -- a node, whose median is m
  module _ (ax most lo hi m : ℕ) (s : Spent) (out : List ℕ) (h : most < hi - lo) (median : m ≡ mid lo hi) where
    abbrev rights : List ℕ
    rights = when (S.right ax m) (slots (testing S) (1 - ax) (shape most (m + 1) hi))

    abbrev lefts : List ℕ
    lefts = when (S.left ax m) (slots (testing S) (1 - ax) (shape most lo m))

    whole : (x : Went) → x ≡ spend n (marks S ids ((m ∷ []) ++ (rights ++ lefts))) s out
        → x ≡ spend n (marks S ids (slots (testing S) ax (shape most lo hi))) s out
    whole x e = rw (slots-node (testing S) ax most lo hi h) (rw median at e)

    -- the search ends at the median
    pub node-put : (x : End) (o : List ℕ) → went_tests (Err x) o ≡ spend n (marks S ids (m ∷ [])) s out
        → went_tests (Err x) o ≡ spend n (marks S ids (slots (testing S) ax (shape most lo hi))) s out
    node-put x o e = whole _ (then_none (m ∷ []) (rights ++ lefts) s x out o e)

    -- in the right part
    pub node-right : (k : Spent) (x : End) (o p : List ℕ) → went_tests (Ok k) o ≡ spend n (marks S ids (m ∷ [])) s out
        → went_tests (Err x) p ≡ spend n (marks S ids rights) k o
        → went_tests (Err x) p ≡ spend n (marks S ids (slots (testing S) ax (shape most lo hi))) s out
    node-right k x o p e f = whole _ (then_more (m ∷ []) (rights ++ lefts) s k (Err x) out o p e (then_none rights lefts k x o p f))

    -- and otherwise with the left part
    pub node-left : (k j : Spent) (r : Result Spent End) (o p y : List ℕ) → went_tests (Ok k) o ≡ spend n (marks S ids (m ∷ [])) s out
        → went_tests (Ok j) p ≡ spend n (marks S ids rights) k o → went_tests r y ≡ spend n (marks S ids lefts) j p
        → went_tests r y ≡ spend n (marks S ids (slots (testing S) ax (shape most lo hi))) s out
    node-left k j r o p y e f g =
        whole _ (then_more (m ∷ []) (rights ++ lefts) s k r out o y e (then_more rights lefts k j r o p y f g))
