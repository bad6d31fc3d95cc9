-- What an allowance promises, over any columns: the items of a smaller one begin those of a larger; as many tests are made as the
-- definition has, or as are allowed; one that is not used up, or just used up, gives the full answer; and the tests of queries find
-- what these answer. Assumes nothing.
use Rattle.std.specs.Prelude.{Bool, true, false, ◌≡◌, ltb, length, take, drop, Float}
use Rattle.std.proofs.Math.Path.{refl, ap₂}
use Rattle.std.proofs.Common.{sym, ap, ◌∙◌, ltb-false, le-ltb, take-append-drop, take_all, take-add}
use mathlib.Core.List.{List, [], ◌∷◌, ◌++◌, flat_map}
use Prim.Native.Nat.{ℕ, zero, suc, ◌+◌, ◌-◌, ◌*◌, ◌≤◌}
use Rattle.std.proofs.Math.Nat.{min-eq_right, suc-mul}
use native.Mathlib.Omega.{arith}
use Rattle.std.proofs.Math.ListN.{length-append}
use Rattle.kdslots.specs.declared.Query.{Query}
use Rattle.kdslots.specs.Slots.{over}
use Rattle.kdbush.specs.Run.{places, sound}
use Rattle.kdbush.specs.Reply.{found}
use Rattle.ask_effort_tests.specs.Tested.{tests}
use Rattle.ask_effort_tests.specs.laws.Tested.{answers-tested, tests-length}
use Rattle.ask_effort_tests.specs.Trials.{Mark, marks, hits, trials, items}
use Rattle.ask_effort_tests.specs.laws.Trials.{marks-length, hits-append, hits-marks}
use Rattle.ask_effort_tests.specs.Reply.{effort_of}

-- ---- any tests

-- a smaller allowance gives a beginning of what a larger one gives: the items already given never change
pub items-begin : (a b : ℕ) (ms : List Mark) → a ≤ b → (more : List ℕ) × (items b ms ≡ items a ms ++ more)
items-begin a b ms h =
    let e : b ≡ a + (b - a) = omega arith in (
      hits (take (b - a) (drop a ms)),
      ap (λ (k : ℕ). hits (take k ms)) e ∙ ap hits (take-add a (b - a) ms) ∙ hits-append (take a ms) (take (b - a) (drop a ms)),
    )

-- and so of the full list
pub items-of-all : (a : ℕ) (ms : List Mark) → (more : List ℕ) × (hits ms ≡ items a ms ++ more)
items-of-all a ms = (hits (drop a ms), ap hits (sym (take-append-drop a ms)) ∙ hits-append (take a ms) (drop a ms))

-- the places before the first that is past the table, of a beginning and of the whole
sound-begin : (n : ℕ) (l r : List ℕ) → (more : List ℕ) × (sound n (l ++ r) ≡ sound n l ++ more)
unfolding sound
sound-begin n [] r = (sound n r, refl)
sound-begin n (p ∷ l) r = go (ltb p n) refl (sound-begin n l r)
  where
    go : (b : Bool) → ltb p n ≡ b → ((more : List ℕ) × (sound n (l ++ r) ≡ sound n l ++ more))
        → (more : List ℕ) × (sound n (p ∷ (l ++ r)) ≡ sound n (p ∷ l) ++ more)
    go true e h = (h.0, rw (e, sound) (ap (λ (z : List ℕ). p ∷ z) h.1))
    go false e h = ([], rw (e, sound))

-- so what is written for a smaller allowance begins what is written for a larger one, over any index of n
pub given-begin : (n a b : ℕ) (ms : List Mark) → a ≤ b → (more : List ℕ) × (sound n (items b ms) ≡ sound n (items a ms) ++ more)
given-begin n a b ms h =
    let w = items-begin a b ms h in
    let v = sound-begin n (items a ms) w.0 in
    (v.0, ap (sound n) w.1 ∙ v.1)

-- and of the full list
pub given-of-all : (n a : ℕ) (ms : List Mark) → (more : List ℕ) × (sound n (hits ms) ≡ sound n (items a ms) ++ more)
given-of-all n a ms =
    let w = items-of-all a ms in
    let v = sound-begin n (items a ms) w.0 in
    (v.0, ap (sound n) w.1 ∙ v.1)

-- a search that does not stop made every test and gives the full list
pub not_stopped : (a : ℕ) (ms : List Mark) → (effort_of a ms).stopped ≡ false → (items a ms ≡ hits ms) × ((effort_of a ms).tested ≡ length ms)
not_stopped a ms e =
    let h : length ms ≤ a = ltb-false a (length ms) e in
    (ap hits (take_all a ms h), min-eq_right h)

-- exactly enough is enough
pub enough : (ms : List Mark) → (effort_of (length ms) ms).stopped ≡ false
enough ms = le-ltb (length ms) (length ms) (omega arith)

-- an allowance of 0 finds nothing and tests nothing
pub none : (ms : List Mark) → (items 0 ms ≡ []) × ((effort_of 0 ms).tested ≡ 0)
unfolding hits
none ms = (refl, omega arith)

-- ---- the tests of queries

module _ (size n : ℕ) (ids : List ℕ) (co : List Float) where
  one_found : (q : Query) → hits (marks (over q co) ids (tests q co size n)) ≡ found q size n ids co
  one_found q = hits-marks (over q co) ids (tests q co size n) ∙ sym (ap (places ids) (answers-tested q co size n))

  -- they find what the queries find, one after the other
  pub trials-found : (qs : List Query) → hits (trials qs size n ids co) ≡ flat_map (λ q. found q size n ids co) qs
  unfolding flat_map hits
  trials-found [] = refl
  trials-found (q ∷ qs) =
      hits-append (marks (over q co) ids (tests q co size n)) (trials qs size n ids co)
      ∙ ap₂ (λ (u v : List ℕ). u ++ v) (one_found q) (trials-found qs)

  -- for each query there are as many as the definition has, at most the slots
  pub trials-most : (k : ℕ) (qs : List Query) → length qs ≤ k → length (trials qs size n ids co) ≤ k * n
  unfolding flat_map
  trials-most k [] h = omega arith
  trials-most zero (q ∷ qs) h = absurd (omega arith)
  trials-most (suc k) (q ∷ qs) h =
      omega (
        arith,
        suc-mul k n,
        length-append (marks (over q co) ids (tests q co size n)) (trials qs size n ids co),
        marks-length (over q co) ids (tests q co size n),
        tests-length q co size n,
        trials-most k qs (omega arith),
      )
