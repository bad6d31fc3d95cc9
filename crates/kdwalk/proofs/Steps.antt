-- Each way out of the cursor is its definition's case: a refusal, or the slot that the search of an interval found. Assumes nothing.
use Rattle.std.specs.Prelude.{◌≡◌, refl, Bool, true, false, cond, ◌&&◌, List, [], ◌∷◌, ℕ, ltb, length, Float, Option, None, Result, Ok, Err}
use Rattle.std.proofs.Common.{sym, ap, ◌∙◌}
use Rattle.refusals.specs.declared.Refusal.{Refusal}
use Rattle.refusals.specs.declared.Refusal.TheVariants.{Box, Spoiled}
use Rattle.kdslots.specs.declared.Query.{Query}
use Rattle.kdslots.specs.Query.{query_ok}
use Rattle.kdslots.specs.Bounds.{coords_ok}
use Rattle.kdslots.specs.laws.Bounds.{yes, no, first-false, second-false, both_true}
use Rattle.kdslots.specs.Slots.{answers}
use Rattle.kdwalk.specs.laws.Cursor.{head_of}
use Rattle.kdwalk.specs.Cursor.{rest_of}
use Rattle.kdwalk.specs.Reply.{Step, next_step, walk_checked, ending, first_step, after_step}

-- what an interval's search answers, as a step
step-head : (l : List ℕ) → Ok (head_of l) ≡ next_step (Ok None) l
step-head [] = refl
step-head (i ∷ l) = refl

module _ (q : Query) (size n : ℕ) (co : List Float) where
  -- what a walk that is refused ends with, and that it goes over no slot
  refused : (e : Refusal) → Err e ≡ walk_checked q size n co → ((coords_ok size n (length co) && query_ok q) ≡ false)
      × (Err e ≡ ending q size n co)
  refused e = go (coords_ok size n (length co)) (query_ok q)
    where
      go : (a b : Bool) → ◌≡◌ {A = Result (Unit {0}) Refusal} (Err e) (cond a (cond b (Ok tt) (Err Box)) (Err Spoiled)) → ((a && b) ≡ false)
          × ◌≡◌ {A = Step} (Err e) (cond a (cond b (Ok None) (Err Box)) (Err Spoiled))
      go true true h = cc
      go true false h = (refl, cc)
      go false b h = (refl, cc)

  -- and one that is not
  pub taken : Ok tt ≡ walk_checked q size n co → (coords_ok size n (length co) ≡ true) × (query_ok q ≡ true)
  taken = go (coords_ok size n (length co)) (query_ok q)
    where
      go : (a b : Bool) → ◌≡◌ {A = Result (Unit {0}) Refusal} (Ok tt) (cond a (cond b (Ok tt) (Err Box)) (Err Spoiled)) → (a ≡ true) × (b ≡ true)
      go true true h = (refl, refl)
      go true false h = cc
      go false b h = cc

  pub first-refused : (e : Refusal) → Err e ≡ walk_checked q size n co → Err e ≡ first_step q size n co
  unfolding first_step
  first-refused e h = let w = refused e h in w.1 ∙ sym (ap (next_step (ending q size n co)) (no _ _ _ w.0))

  pub first_found : Ok tt ≡ walk_checked q size n co → (x : Option ℕ) → x ≡ head_of (answers q co size n)
      → Ok x ≡ first_step q size n co
  unfolding first_step
  first_found h x g =
      let w = taken h in
      ap Ok g ∙ step-head (answers q co size n)
      ∙ sym (ap (next_step (ending q size n co)) (yes _ _ _ (both_true w.0 w.1))
      ∙ ap (λ (s : Step). next_step s (answers q co size n)) (yes _ _ _ w.0 ∙ yes _ _ _ w.1))

  module _ (c : ℕ) where
    pub after-refused : (e : Refusal) → Err e ≡ walk_checked q size n co → Err e ≡ after_step q size n co c
    unfolding after_step
    after-refused e h =
        let w = refused e h in
        w.1 ∙ sym (ap (next_step (ending q size n co)) (no _ _ _ (first-false (ltb c n) w.0)))

    pub after-past : Ok tt ≡ walk_checked q size n co → ltb c n ≡ false → Ok None ≡ after_step q size n co c
    unfolding after_step
    after-past h g =
        let w = taken h in
        sym (ap (next_step (ending q size n co)) (no _ _ _ (second-false (both_true w.0 w.1) g)) ∙ yes _ _ _ w.0 ∙ yes _ _ _ w.1)

    pub after-found : Ok tt ≡ walk_checked q size n co → ltb c n ≡ true → (x : Option ℕ) → x ≡ head_of (rest_of q co size n c)
        → Ok x ≡ after_step q size n co c
    unfolding after_step
    after-found h g x e =
        let w = taken h in
        ap Ok e ∙ step-head (rest_of q co size n c)
        ∙ sym (ap (next_step (ending q size n co)) (yes _ _ _ (both_true (both_true w.0 w.1) g))
        ∙ ap (λ (s : Step). next_step s (rest_of q co size n c)) (yes _ _ _ w.0 ∙ yes _ _ _ w.1))
