-- A search with an allowance, test by test, as the code has it: what it has found, may still test, and leaves in the column. The first say
-- what the code's own functions do, and then the laws by which it goes from test to test. Assumes nothing.
use Rattle.std.specs.Prelude.{Bool, true, false, ◌≡◌, refl, List, [], ◌∷◌, ◌++◌, ℕ, ◌+◌, ◌-◌, ◌≤◌, ltb, eqb, set, Result, Ok, Err}
use Rattle.std.proofs.Common.{ap, ◌∙◌, arith}
use Rattle.std.proofs.lemmas.Bool.{eqb-false}
use Rattle.ask_effort_tests.specs.declared.EffortRefusal.TheVariants.{Spoiled}
use Rattle.ask_effort_tests.specs.declared.Spent.{Spent}
use Rattle.ask_effort_tests.specs.declared.End.{End}
use Rattle.ask_effort_tests.specs.declared.End.TheVariants.{Stopped, Spoiled as End-as-Spoiled}
use Rattle.ask_effort_tests.specs.Trials.{Mark, mark}
use Rattle.ask_effort_tests.specs.Reply.{EffortReply, effort_fitted}

-- how far a search came, or how it ended, beside what the column holds
pub data Went : Type 0 where
  went_tests : Result Spent End → List ℕ → Went

-- a search that begins with an allowance
abbrev pub fresh : ℕ → Spent
fresh a = record { found = 0; left = a }

-- the reply by how far a search came that was allowed a tests; where it stopped all of them are made
abbrev pub settled_tests : Result Spent End → ℕ → ℕ → EffortReply
settled_tests (Ok s) a room = effort_fitted (record { items = s.found; tested = a - s.left; stopped = false }) room
settled_tests (Err (Stopped k)) a room = effort_fitted (record { items = k; tested = a; stopped = true }) room
settled_tests (Err End-as-Spoiled) a room = Err Spoiled

-- a test that is made: it passes or not, and its place p is below the number of slots or not. A place goes to the next position, if that
-- is within the column.
abbrev pub made_tests : Bool → Bool → ℕ → Spent → List ℕ → Went
made_tests false low p s out = went_tests (Ok (record { found = s.found; left = s.left - 1 })) out
made_tests true true p s out = went_tests (Ok (record { found = s.found + 1; left = s.left - 1 })) (set out s.found p)
made_tests true false p s out = went_tests (Err End-as-Spoiled) out

-- a test that is due: where nothing is left of the allowance the search stops
abbrev pub due : Bool → Bool → Bool → ℕ → Spent → List ℕ → Went
due true passes low p s out = went_tests (Err (Stopped s.found)) out
due false passes low p s out = made_tests passes low p s out

abbrev pub step : ℕ → Mark → Spent → List ℕ → Went
step n (mark b p) s out = due (eqb s.left 0) b (ltb p n) p s out

-- what follows, where the search has not ended
abbrev pub then_spent : Went → (Spent → List ℕ → Went) → Went
then_spent (went_tests (Ok s) out) f = f s out
then_spent (went_tests (Err e) out) f = went_tests (Err e) out

-- the tests of a list, one after the other, over an index of n
unfoldable pub spend : ℕ → List Mark → Spent → List ℕ → Went
spend n [] s out = went_tests (Ok s) out
spend n (m ∷ ms) s out = then_spent (step n m s out) (λ t o. spend n ms t o)

-- ---- one list after the other

pub spend-append : (n : ℕ) (ms ps : List Mark) (s : Spent) (out : List ℕ)
    → spend n (ms ++ ps) s out ≡ then_spent (spend n ms s out) (λ t o. spend n ps t o)
unfolding spend
spend-append n [] ps s out = refl
spend-append n (m ∷ ms) ps s out = go (step n m s out) (λ t o. spend-append n ms ps t o)
  where
    go : (w : Went) → ((t : Spent) (o : List ℕ) → spend n (ms ++ ps) t o ≡ then_spent (spend n ms t o) (λ t o. spend n ps t o))
        → then_spent w (λ t o. spend n (ms ++ ps) t o) ≡ then_spent (then_spent w (λ t o. spend n ms t o)) (λ t o. spend n ps t o)
    go (went_tests (Ok t) o) h = h t o
    go (went_tests (Err e) o) h = refl

pub spend-then : (n : ℕ) (ms ps : List Mark) (s k : Spent) (r : Result Spent End) (out o p : List ℕ)
    → went_tests (Ok k) o ≡ spend n ms s out → went_tests r p ≡ spend n ps k o
    → went_tests r p ≡ spend n (ms ++ ps) s out
spend-then n ms ps s k r out o p e f = f ∙ rw (spend-append n ms ps s out, ← e)

-- a search that has ended tests no more
pub spend-ended : (n : ℕ) (ms ps : List Mark) (s : Spent) (e : End) (out o : List ℕ) → went_tests (Err e) o ≡ spend n ms s out
    → went_tests (Err e) o ≡ spend n (ms ++ ps) s out
spend-ended n ms ps s e out o f = rw (spend-append n ms ps s out, ← f)

-- ---- what is found and what is left never exceed what they were

-- what a search has found and what is left of its allowance, however it ended: nothing is left where it stopped
abbrev pub found_left : Result Spent End → ℕ
found_left (Ok s) = s.found + s.left
found_left (Err (Stopped k)) = k
found_left (Err End-as-Spoiled) = 0

sum : Went → ℕ
sum (went_tests r out) = found_left r

sum_step : (n : ℕ) (m : Mark) (s : Spent) (out : List ℕ) → sum (step n m s out) ≤ s.found + s.left
unfolding sum
sum_step n (mark b p) s out = go (eqb s.left 0) refl b (ltb p n)
  where
    go : (z : Bool) → eqb s.left 0 ≡ z → (b l : Bool) → sum (due z b l p s out) ≤ s.found + s.left
    go true e b l = omega arith
    go false e false l = omega arith
    go false e true true = omega (arith, eqb-false s.left 0 e)
    go false e true false = omega arith

sum-spend : (n : ℕ) (ms : List Mark) (s : Spent) (out : List ℕ) → sum (spend n ms s out) ≤ s.found + s.left
unfolding spend sum
sum-spend n [] s out = omega arith
sum-spend n (m ∷ ms) s out = go (step n m s out) (sum_step n m s out) (λ t o. sum-spend n ms t o)
  where
    go : (w : Went) → sum w ≤ s.found + s.left → ((t : Spent) (o : List ℕ) → sum (spend n ms t o) ≤ t.found + t.left)
        → sum (then_spent w (λ t o. spend n ms t o)) ≤ s.found + s.left
    go (went_tests (Ok t) o) h f = omega (arith, f t o)
    go (went_tests (Err e) o) h f = h

pub spend-sum : (n : ℕ) (ms : List Mark) (s : Spent) (r : Result Spent End) (out o : List ℕ) → went_tests r o ≡ spend n ms s out
    → found_left r ≤ s.found + s.left
unfolding sum
spend-sum n ms s r out o e = omega (arith, ap sum e, sum-spend n ms s out)
