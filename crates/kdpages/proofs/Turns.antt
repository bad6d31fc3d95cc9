-- How a page is turned: each way out of a reader's step is its definition's case. Assumes nothing.
use mathlib.Core.Path.{◌≡◌, refl, sym, ap, ◌∙◌}
use mathlib.Core.Bool.{Bool, true, false, cond, ◌&&◌}
use mathlib.Core.List.{List, [], ◌∷◌, ◌++◌}
use Prim.Native.Nat.{ℕ, suc, ◌+◌, ◌-◌, ◌≤◌, ◌<◌}
use native.Mathlib.Omega.{arith}
use Rattle.std.proofs.Common.{◌⊎◌}
use native.Mathlib.Numerals.{add-one}
use lib.ListN.{length, get_or, take, drop, length-take, drop_of_length-le}
use lib.Seq.{drop-cons, get_or-take, take-suc, append_snoc}
use borrow.Author.Tests.{lt-ltb, le-ltb}
use lib.Ieee.{Float}
use Rattle.kdslots.specs.declared.Query.{Query}
use Rattle.std.specs.Prelude.{Option, Some, None, Ok, Err}
use Rattle.std.specs.Option.{option_flatten}
use Rattle.std.specs.Result.{result_ok}
use Rattle.refusals.specs.declared.Refusal.TheVariants.{Box, Spoiled}
use Rattle.kdpages.specs.declared.Onward.{Onward}
use Rattle.kdpages.specs.declared.Onward.TheVariants.{Start, After, Nothing}
use Rattle.kdpages.specs.declared.Pages.{Pages}
use Rattle.kdslots.specs.Query.{query_ok}
use Rattle.kdslots.specs.Bounds.{coords_ok}
use Rattle.kdslots.specs.laws.Bounds.{both_true, second-false}
use Rattle.kdwalk.specs.Reply.{Step, next_step, walk, walk_after, first_step, after_step}
use Rattle.kdwalk.specs.laws.Cursor.{head_of}
use Rattle.kdslots.specs.Slots.{answers}
use Rattle.kdwalk.specs.Cursor.{rest_of}
use Rattle.kdpages.specs.Pages.{onward_of, ahead_of, tail_of, stepped_of, Stored, stored, store, onward-follows}
use Rattle.kdpages.proofs.Stores.{none_more, page-filled}

-- ---- by the cursor

-- the slot of a step, where it has one
abbrev pub slot_of : Step → Option ℕ
slot_of (Ok o) = o
slot_of (Err e) = None

pub slot-is : (s : Step) → option_flatten (result_ok s) ≡ slot_of s
slot-is (Ok o) = refl
slot-is (Err e) = refl

-- however the walk ends, it is done
slot-ending : (a b : Bool) (l : List ℕ) → slot_of (next_step (cond a (cond b (Ok None) (Err Box)) (Err Spoiled)) l) ≡ head_of l
slot-ending a b (i ∷ l) = refl
slot-ending true true [] = refl
slot-ending true false [] = refl
slot-ending false b [] = refl

module _ (q : Query) (size n : ℕ) (co : List Float) where
  pub slot-first : (s : Step) → s ≡ first_step q size n co → slot_of s ≡ head_of (walk q size n co)
  unfolding first_step
  slot-first s e = ap slot_of e ∙ slot-ending (coords_ok size n (length co)) (query_ok q) (walk q size n co)

  pub slot-after : (c : ℕ) (s : Step) → s ≡ after_step q size n co c → slot_of s ≡ head_of (walk_after q size n co c)
  unfolding after_step
  slot-after c s e = ap slot_of e ∙ slot-ending (coords_ok size n (length co)) (query_ok q) (walk_after q size n co c)

  -- with no page
  pub stepped-ahead : (from : Onward) (page l : List ℕ) → onward_of q size n co from ≡ l
      → ahead_of q size n co page (stepped_of (head_of l)) ≡ tail_of l
  unfolding ahead_of
  stepped-ahead from page [] e = refl
  stepped-ahead from page (i ∷ l) e = onward-follows q size n co from [] i l e

  -- ---- the page

  -- the page is read: what is ahead is what the walk has after it
  pub read_out : (page : List ℕ) (p : Pages) → (p.len ≤ p.at) ⊎ (length page ≤ p.at)
      → ahead_of q size n co page p ≡ onward_of q size n co p.onward
  unfolding ahead_of
  read_out page p h =
      ap (λ (l : List ℕ). l ++ onward_of q size n co p.onward)
      (drop_of_length-le (take p.len page) {i = p.at} (omega (arith, length-take p.len page)))

  -- a step on the page
  pub on-page : (page : List ℕ) (p : Pages) → p.at < p.len → p.at < length page
      → (Some (get_or page p.at 0) ≡ head_of (ahead_of q size n co page p))
      × (ahead_of q size n co page (record { len = p.len; at = p.at + 1; onward = p.onward })
      ≡ tail_of (ahead_of q size n co page p))
  unfolding ahead_of
  on-page page p h k =
      let a = drop-cons (take p.len page) p.at 0 (omega (arith, length-take p.len page)) in
      let b : drop p.at (take p.len page) ≡ get_or page p.at 0 ∷ drop (p.at + 1) (take p.len page) =
      rw (add-one p.at, ← get_or-take p.len page p.at 0 h) a in
      let f = ap (λ (l : List ℕ). l ++ onward_of q size n co p.onward) b in
      (sym (ap head_of f), sym (ap tail_of f))

  -- ---- a new page

  -- what a walk has that is refused
  refused : (coords_ok size n (length co) && query_ok q) ≡ false → (from : Onward) → onward_of q size n co from ≡ []
  refused e Start = rw e
  refused e (After d) = rw e
  refused e Nothing = refl

  pub page-refused : (coords_ok size n (length co) && query_ok q) ≡ false → (from : Onward) (page : List ℕ)
      → stored 0 page ≡ store 0 (onward_of q size n co from) page
  page-refused e from page = none_more 0 page ∙ sym (ap (λ (l : List ℕ). store 0 l page) (refused e from))

  pub page-start : (coords_ok size n (length co) && query_ok q) ≡ true → (page : List ℕ) (x : Stored) → x ≡ store 0 (answers q co size n) page
      → x ≡ store 0 (walk q size n co) page
  page-start e page x f = f ∙ sym (ap (λ (b : Bool). store 0 (cond b (answers q co size n) []) page) e)

  pub page-after : (coords_ok size n (length co) && query_ok q) ≡ true → (c : ℕ) → c < n → (page : List ℕ) (x : Stored)
      → x ≡ store 0 (rest_of q co size n c) page
      → x ≡ store 0 (walk_after q size n co c) page
  page-after e c h page x f = f ∙ sym (ap (λ (b : Bool). store 0 (cond b (rest_of q co size n c) []) page) (both_true e (lt-ltb c n h)))

  pub page-past : (coords_ok size n (length co) && query_ok q) ≡ true → (c : ℕ) → n ≤ c → (page : List ℕ)
      → stored 0 page ≡ store 0 (walk_after q size n co c) page
  page-past e c h page = none_more 0 page
      ∙ sym (ap (λ (b : Bool). store 0 (cond b (rest_of q co size n c) []) page) (second-false e (le-ltb c n h)))

  -- a page that holds the front of a list, where the walk goes on with the rest: its first slot, and what is ahead then
  page-opens : (l o : List ℕ) (k : ℕ) (more : List ℕ) (onward : Onward) → 0 < k → k ≤ length o → l ≡ take k o ++ more
      → onward_of q size n co onward ≡ more
      → (Some (get_or o 0 0) ≡ head_of l) × (ahead_of q size n co o (record { len = k; at = 1; onward = onward }) ≡ tail_of l)
  unfolding ahead_of
  page-opens l o k more onward h r e f =
      let a = drop-cons (take k o) 0 0 (omega (arith, length-take k o)) in
      let b : take k o ≡ get_or o 0 0 ∷ drop 1 (take k o) = rw (← get_or-take k o 0 0 h) a in
      let g : l ≡ get_or o 0 0 ∷ (drop 1 (take k o) ++ more) = e ∙ ap (λ (m : List ℕ). m ++ more) b in
      (sym (ap head_of g), ap (λ (m : List ℕ). drop 1 (take k o) ++ m) f ∙ sym (ap tail_of g))

  module _ (from : Onward) (page o : List ℕ) (k : ℕ) (e : stored k o ≡ store 0 (onward_of q size n co from) page) where
    abbrev todo : List ℕ
    todo = onward_of q size n co from

    -- nothing is left
    pub turn-none : k ≡ 0 → 0 < length page → (None ≡ head_of todo) × (ahead_of q size n co o (stepped_of None) ≡ tail_of todo)
    unfolding ahead_of
    turn-none z h =
        let w = page-filled todo page k o e in
        let y : todo ≡ [] = w.joins ∙ ap (λ (j : ℕ). take j o ++ w.over) z ∙ w.whole (omega (arith, w.same)) in
        (sym (ap head_of y), sym (ap tail_of y))

    -- the page has the rest of the walk
    pub turn-part : 0 < k → k < length o → (Some (get_or o 0 0) ≡ head_of todo)
        × (ahead_of q size n co o (record { len = k; at = 1; onward = Nothing }) ≡ tail_of todo)
    turn-part h r = let w = page-filled todo page k o e in page-opens todo o k w.over Nothing h w.room w.joins (sym (w.whole r))

    -- the page is full, and the walk goes on after its last slot
    pub turn-full : 0 < k → (Some (get_or o 0 0) ≡ head_of todo)
        × (ahead_of q size n co o (record { len = k; at = 1; onward = After (get_or o (k - 1) 0) }) ≡ tail_of todo)
    turn-full h =
        let w = page-filled todo page k o e in
        let j : suc (k - 1) ≡ k = omega arith in
        let a : take k o ≡ take (k - 1) o ++ (get_or o (k - 1) 0 ∷ []) = ap (λ (i : ℕ). take i o) (sym j)
        ∙ take-suc o (k - 1) 0 (omega (arith, w.room)) in
        let b : todo ≡ take (k - 1) o ++ get_or o (k - 1) 0 ∷ w.over = w.joins ∙ ap (λ (m : List ℕ). m ++ w.over) a
        ∙ append_snoc (take (k - 1) o) (get_or o (k - 1) 0) w.over in
        page-opens todo o k w.over (After (get_or o (k - 1) 0)) h w.room w.joins
        (onward-follows q size n co from (take (k - 1) o) (get_or o (k - 1) 0) w.over b)

    pub page-room : k ≤ length o
    page-room = (page-filled todo page k o e).room
