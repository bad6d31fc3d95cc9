-- How a search with an allowance ends, without going test by test. Assumes nothing.
use Rattle.std.specs.Prelude.{Bool, true, false, ◌≡◌, refl, List, [], ◌∷◌, ◌++◌, ℕ, zero, suc, ◌+◌, ◌-◌, ◌≤◌, min, ltb, length, set, Result, Ok, Err, IfOk}
use Rattle.std.proofs.Common.{sym, ap, ap₂, ◌∙◌, append-nil, append_assoc, arith, lt-ltb, le-ltb, ltb-true, ltb-false, length-append}
use Rattle.std.proofs.Math.Dec.{eqb-suc-zero}
use Rattle.kdbush.specs.Run.{sound, whole, filled}
use Rattle.ask_base.specs.laws.Filled.{filled_none, filled_next}
use Rattle.ask_effort_tests.specs.declared.Spent.{Spent}
use Rattle.ask_effort_tests.specs.declared.End.{End}
use Rattle.ask_effort_tests.specs.declared.End.TheVariants.{Stopped, Spoiled}
use Rattle.ask_effort_tests.specs.Trials.{Mark, mark, hits, items}
use Rattle.ask_effort_tests.specs.Reply.{answer, column}
use Rattle.ask_effort_tests.specs.laws.Spend.{Went, went_tests, fresh, settled_tests, made_tests, due, then_spent, spend, spend-sum}

-- a search that has found k and has the allowance b
abbrev from : ℕ → ℕ → Spent
from k b = record { found = k; left = b }

-- how far it came, if no place is past the table: it found k, l is left of the allowance, and d says whether a test is due
abbrev end_with : Bool → ℕ → ℕ → Bool → List ℕ → Went
end_with true k l false out = went_tests (Ok (from k l)) out
end_with true k l true out = went_tests (Err (Stopped k)) out
end_with false k l d out = went_tests (Err Spoiled) out

-- so after the tests ms with the allowance b, where the places `done` were found before
abbrev end_of : ℕ → List ℕ → ℕ → List Mark → List ℕ → Went
end_of n done b ms out =
    end_with (whole n (items b ms)) (length (done ++ items b ms)) (b - length ms) (ltb b (length ms))
    (filled (done ++ sound n (items b ms)) out)

same : (w : Bool) (k k' l l' : ℕ) (d d' : Bool) (o o' : List ℕ) → k ≡ k' → l ≡ l' → d ≡ d' → o ≡ o'
    → end_with w k l d o ≡ end_with w k' l' d' o'
same w k k' l l' d d' o o' e f g h = cc

ltb-suc : (b k : ℕ) → ltb b k ≡ ltb (suc b) (suc k)
ltb-suc b k = go (ltb b k) refl
  where
    go : (x : Bool) → ltb b k ≡ x → ltb b k ≡ ltb (suc b) (suc k)
    go true e = e ∙ sym (lt-ltb (suc b) (suc k) (omega (arith, ltb-true b k e)))
    go false e = e ∙ sym (le-ltb (suc b) (suc k) (omega (arith, ltb-false b k e)))

-- where nothing is found any more
no_more : (done : List ℕ) (l l' : ℕ) (d d' : Bool) (out : List ℕ) → l ≡ l' → d ≡ d'
    → end_with true (length done) l d (filled done out) ≡ end_with true (length (done ++ [])) l' d' (filled (done ++ []) out)
no_more done l l' d d' out e f =
    same true (length done) (length (done ++ [])) l l' d d' (filled done out) (filled (done ++ []) out)
    (ap length (sym (append-nil done))) e f (ap (λ (x : List ℕ). filled x out) (sym (append-nil done)))

spend-end : (n : ℕ) (done : List ℕ) (b : ℕ) (ms : List Mark) (out : List ℕ)
    → spend n ms (from (length done) b) (filled done out) ≡ end_of n done b ms out
unfolding spend hits whole sound
spend-end n done zero [] out = no_more done 0 (0 - 0) false (ltb 0 0) out (omega arith) refl
spend-end n done (suc b) [] out =
    no_more done (suc b) (suc b - 0) false (ltb (suc b) 0) out (omega arith) (sym (le-ltb (suc b) 0 (omega arith)))
spend-end n done zero (mark v p ∷ ms) out =
    no_more done 0 (0 - suc (length ms)) true (ltb 0 (suc (length ms))) out (omega arith) (sym (lt-ltb 0 (suc (length ms)) (omega arith)))
spend-end n done (suc b) (mark false p ∷ ms) out =
    let e : suc b - 1 ≡ b = omega arith in
    let w = whole n (items b ms) in
    let k = length (done ++ items b ms) in
    let o = filled (done ++ sound n (items b ms)) out in
    ap (λ (z : Bool). then_spent (due z false (ltb p n) p (from (length done) (suc b)) (filled done out)) (λ t o. spend n ms t o))
    (eqb-suc-zero b)
    ∙ ap (λ (k : ℕ). spend n ms (from (length done) k) (filled done out)) e ∙ spend-end n done b ms out
    ∙ same w k k (b - length ms) (suc b - suc (length ms)) (ltb b (length ms)) (ltb (suc b) (suc (length ms))) o o refl (omega arith)
    (ltb-suc b (length ms)) refl
spend-end n done (suc b) (mark true p ∷ ms) out =
    ap (λ (z : Bool). then_spent (due z true (ltb p n) p (from (length done) (suc b)) (filled done out)) (λ t o. spend n ms t o))
    (eqb-suc-zero b)
    ∙ go (ltb p n) refl (spend-end n (done ++ (p ∷ [])) b ms out)
  where
    joined : (l : List ℕ) → (done ++ (p ∷ [])) ++ l ≡ done ++ (p ∷ l)
    joined l = append_assoc done (p ∷ []) l

    go : (l : Bool) → ltb p n ≡ l
        → spend n ms (from (length (done ++ (p ∷ []))) b) (filled (done ++ (p ∷ [])) out) ≡ end_of n (done ++ (p ∷ [])) b ms out
        → then_spent (made_tests true l p (from (length done) (suc b)) (filled done out)) (λ t o. spend n ms t o)
        ≡ end_of n done (suc b) (mark true p ∷ ms) out
    go true f h =
        let e : suc b - 1 ≡ b = omega arith in
        let k : length done + 1 ≡ length (done ++ (p ∷ [])) = sym (length-append done (p ∷ [])) in
        rw (f, whole, sound) (ap (λ (j : ℕ). spend n ms (from (length done + 1) j) (set (filled done out) (length done) p)) e
        ∙ ap₂ (λ (j : ℕ) (o : List ℕ). spend n ms (from j b) o) k (filled_next done p out) ∙ h
        ∙ same (whole n (items b ms)) (length ((done ++ (p ∷ [])) ++ items b ms)) (length (done ++ (p ∷ items b ms))) (b - length ms)
        (suc b - suc (length ms)) (ltb b (length ms)) (ltb (suc b) (suc (length ms)))
        (filled ((done ++ (p ∷ [])) ++ sound n (items b ms)) out) (filled (done ++ (p ∷ sound n (items b ms))) out)
        (ap length (joined (items b ms))) (omega arith) (ltb-suc b (length ms))
        (ap (λ (x : List ℕ). filled x out) (joined (sound n (items b ms)))))
    go false f h =
        rw (f, whole, sound) (ap (λ (x : List ℕ). went_tests (Err Spoiled) (filled x out)) (sym (append-nil done)))

-- ---- a whole search

-- as many tests are made as are allowed, or all
made-tests : (a k : ℕ) → a - (a - k) ≡ min a k
made-tests a k = omega arith

pub ends : (n a : ℕ) (ms : List Mark) (r : Result Spent End) (out o : List ℕ) (room : ℕ) → went_tests r o ≡ spend n ms (fresh a) out
    → (settled_tests r a room ≡ answer n ms a room) × (o ≡ column n ms a out)
ends n a ms r out o room e =
    go (whole n (items a ms)) (ltb a (length ms)) refl refl (e ∙ ap (spend n ms (fresh a)) (sym (filled_none out)) ∙ spend-end n [] a ms out)
  where
    go : (w d : Bool) → whole n (items a ms) ≡ w → ltb a (length ms) ≡ d → went_tests r o ≡ end_of n [] a ms out
        → (settled_tests r a room ≡ answer n ms a room) × (o ≡ column n ms a out)
    go true false g k f =
        let h : went_tests r o ≡ end_with true (length (items a ms)) (a - length ms) false (filled (sound n (items a ms)) out) =
        rw (g, k) at f in
        let x : r ≡ Ok (from (length (items a ms)) (a - length ms)) = cc in
        let y : o ≡ filled (sound n (items a ms)) out = cc in
        (ap (λ (s : Result Spent End). settled_tests s a room) x ∙ rw (g, k, made-tests), y)
    go true true g k f =
        let h : went_tests r o ≡ end_with true (length (items a ms)) (a - length ms) true (filled (sound n (items a ms)) out) =
        rw (g, k) at f in
        let x : r ≡ Err (Stopped (length (items a ms))) = cc in
        let y : o ≡ filled (sound n (items a ms)) out = cc in
        let all : min a (length ms) ≡ a = omega (arith, ltb-true a (length ms) k) in
        (ap (λ (s : Result Spent End). settled_tests s a room) x ∙ rw (g, k, all), y)
    go false d g k f =
        let h : went_tests r o ≡ end_with false (length (items a ms)) (a - length ms) (ltb a (length ms))
        (filled (sound n (items a ms)) out) = rw g at f in
        let x : r ≡ Err Spoiled = cc in
        let y : o ≡ filled (sound n (items a ms)) out = cc in
        (ap (λ (s : Result Spent End). settled_tests s a room) x ∙ rw g, y)

-- what is left is no more than the allowance
pub left-small : (n a : ℕ) (ms : List Mark) (r : Result Spent End) (out o : List ℕ) → went_tests r o ≡ spend n ms (fresh a) out
    → IfOk r (λ s. s.left ≤ a)
left-small n a ms (Ok s) out o e = omega (arith, spend-sum n ms (fresh a) (Ok s) out o e)
left-small n a ms (Err x) out o e = tt
