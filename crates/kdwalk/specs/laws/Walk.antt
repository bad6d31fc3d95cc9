-- A walk over the answers by the cursor: where an answer has a slot, `rest` is what follows it; and what a caller's loop goes by, which
-- is what is ahead of the cursor. Assumes nothing.
use Rattle.std.specs.Prelude.{Bool, false, ◌&&◌, ◌≡◌, ℕ, zero, suc, ◌+◌, ◌-◌, ◌≤◌, ◌<◌, Float, length, Some, None, Ok, Err}
use Rattle.std.proofs.Math.Bool.{true, cond}
use Rattle.std.proofs.Math.Dec.{ltb}
use Rattle.std.proofs.Math.Path.{refl, ap}
use Rattle.std.proofs.Common.{sym, ◌∙◌, ⊎_elim, arith}
use mathlib.Core.List.{List, [], ◌∷◌, ◌++◌}
use borrow.Author.Tests.{lt-ltb, le-ltb, eq-eqb, ne_eqb}
use Rattle.kdsort.specs.Shape.{Shape, shape}
use Rattle.kdsort.specs.laws.Shape.{Spans, all, both, spans}
use Rattle.kdslots.specs.declared.Query.{Query}
use Rattle.kdslots.specs.Slots.{Search, when, scanned, slots, over, answers}
use Rattle.std.proofs.Math.Seq.{append_snoc}
use Rattle.refusals.specs.declared.Refusal.TheVariants.{Box, Spoiled}
use Rattle.kdslots.specs.Query.{query_ok}
use Rattle.kdwalk.specs.Cursor.{rest, rest_of}
use Rattle.kdslots.specs.Bounds.{coords_ok}
use Rattle.kdslots.specs.laws.Bounds.{coords-is}
use Rattle.kdslots.specs.laws.Intervals.{answers-length}
use Rattle.kdslots.specs.laws.Members.{split, no-nil, when-all, sole}
use Rattle.kdwalk.specs.Reply.{Step, next_step, ending, walk, walk_after, first_step, after_step}

pub scanned-rest : (s : Search) (i k : ℕ) (pre : List ℕ) (c : ℕ) (post : List ℕ) → scanned s i k ≡ pre ++ c ∷ post
    → (i ≤ c) × (c < i + k) × (scanned s (c + 1) (i + k - (c + 1)) ≡ post)
unfolding scanned
scanned-rest s i zero pre c post e = absurd (no-nil pre c post e)
scanned-rest s i (suc k) pre c post e = ⊎_elim
    (λ w. let o = sole i pre c w.0 (when-all (s.test i) (i ∷ []) pre c w.0 w.1) in
    let n : i + suc k - (c + 1) ≡ k = omega arith in
    let q : c + 1 ≡ i + 1 = omega arith in
    (omega arith, omega arith, rw (n, q) (sym (w.2 ∙ ap (λ (l : List ℕ). l ++ scanned s (i + 1) k) o.1))))
    (λ w. let h = scanned-rest s (i + 1) k w.0 c post w.1 in
    let n : i + 1 + k - (c + 1) ≡ i + suc k - (c + 1) = omega arith in
    (omega arith, omega arith, rw n at h.2))
    (split (when (s.test i) (i ∷ [])) (scanned s (i + 1) k) pre c post e)

-- a slot of the answer lies in the interval, and `rest` is what follows it
pub rest-follows : (s : Search) (ax : ℕ) (lo hi : ℕ) (t : Shape) → Spans lo hi t → (pre : List ℕ) (c : ℕ) (post : List ℕ)
    → slots s ax t ≡ pre ++ c ∷ post
    → (lo ≤ c) × (c < hi) × (rest s ax t c ≡ post)
unfolding slots rest
rest-follows s ax lo hi _ all pre c post e =
    let h = scanned-rest s lo (hi - lo) pre c post e in
    let n : lo + (hi - lo) - (c + 1) ≡ hi - (c + 1) = omega (arith, h) in
    (h.0, omega (arith, h), rw n at h.2)
rest-follows s ax lo hi _ (both {m = m} {r = r} {l = l} a b p q) pre c post e =
    let A = when (s.test m) (m ∷ []) in
    let B = when (s.right ax m) (slots s (1 - ax) r) in
    let C = when (s.left ax m) (slots s (1 - ax) l) in
    ⊎_elim
    (λ w. let o = sole m pre c w.0 (when-all (s.test m) (m ∷ []) pre c w.0 w.1) in
    (omega arith, omega arith, rw (eq-eqb c m o.0, rest) (sym (w.2 ∙ ap (λ (z : List ℕ). z ++ (B ++ C)) o.1))))
    (λ w. ⊎_elim
    (λ v. let h = rest-follows s (1 - ax) (m + 1) hi r p w.0 c v.0
    (when-all (s.right ax m) (slots s (1 - ax) r) w.0 c v.0 v.1) in
    let g : m < c = omega (arith, h) in
    (omega arith, h.1, rw (ne_eqb c m (λ f. omega arith), lt-ltb m c g, rest) (ap (λ (z : List ℕ). z ++ C) h.2 ∙ sym v.2)))
    (λ v. let h = rest-follows s (1 - ax) lo m l q v.0 c post (when-all (s.left ax m) (slots s (1 - ax) l) v.0 c post v.1) in
    let g : c < m = h.1 in
    (h.0, omega arith, rw (ne_eqb c m (λ f. omega arith), le-ltb m c (omega arith), rest) h.2))
    (split B C w.0 c post w.1))
    (split A (B ++ C) pre c post e)

-- of a whole index: what a caller's loop goes ax
pub follows : (q : Query) (cs : List Float) (size n : ℕ) (pre : List ℕ) (c : ℕ) (post : List ℕ) → answers q cs size n ≡ pre ++ c ∷ post
    → (c < n) × (rest_of q cs size n c ≡ post)
follows q cs size n pre c post e =
    let h = rest-follows (over q cs) 0 0 n (shape (size + 1) 0 n) (spans (size + 1) 0 n) pre c post e in
    (h.1, h.2)

-- ---- a walk by the cursor: what is ahead of it

-- what is ahead of a step: its slot, and what follows it
abbrev pub ahead : Query → ℕ → ℕ → List Float → Step → List ℕ
ahead q size n co (Ok (Some c)) = c ∷ rest_of q co size n c
ahead q size n co (Ok None) = []
ahead q size n co (Err e) = []

-- the step stands in the walk: some slots are done, and it is the next of what is left, or how the walk ends
pub record On (q : Query) (size n : ℕ) (co : List Float) (cur : Step) : Type 0 where
  pub done : List ℕ
  pub todo : List ℕ
  pub joins : walk q size n co ≡ done ++ todo
  pub front : cur ≡ next_step (ending q size n co) todo

module _ (q : Query) (size n : ℕ) (co : List Float) where
  -- a walk that has a slot is not refused
  pub goes : (pre : List ℕ) (c : ℕ) (post : List ℕ) → walk q size n co ≡ pre ++ c ∷ post → (coords_ok size n (length co) && query_ok q) ≡ true
  goes pre c post e = go (coords_ok size n (length co) && query_ok q) refl e
    where
      go : (b : Bool) → (coords_ok size n (length co) && query_ok q) ≡ b → cond b (answers q co size n) [] ≡ pre ++ c ∷ post
          → (coords_ok size n (length co) && query_ok q) ≡ true
      go true h f = h
      go false h f = absurd (no-nil pre c post f)

  -- the slot is in the index, and what follows it is what is left
  pub walk-follows : (pre : List ℕ) (c : ℕ) (post : List ℕ) → walk q size n co ≡ pre ++ c ∷ post → (c < n) × (rest_of q co size n c ≡ post)
  walk-follows pre c post e =
      follows q co size n pre c post (sym (ap (λ (b : Bool). cond b (answers q co size n) []) (goes pre c post e)) ∙ e)

  ahead-ending : ahead q size n co (ending q size n co) ≡ []
  ahead-ending = go (coords_ok size n (length co)) (query_ok q)
    where
      go : (a b : Bool) → ahead q size n co (cond a (cond b (Ok None) (Err Box)) (Err Spoiled)) ≡ []
      go true true = refl
      go true false = refl
      go false b = refl

  ahead-next : (pre l : List ℕ) → walk q size n co ≡ pre ++ l → ahead q size n co (next_step (ending q size n co) l) ≡ l
  ahead-next pre [] e = ahead-ending
  ahead-next pre (x ∷ l) e = ap (λ (z : List ℕ). x ∷ z) (walk-follows pre x l e).1

  ending-no-slot : (i : ℕ) → ending q size n co ≡ Ok (Some i) → ⊥
  ending-no-slot i = go (coords_ok size n (length co)) (query_ok q)
    where
      go : (a b : Bool) → cond a (cond b (Ok None) (Err Box)) (Err Spoiled) ≡ Ok (Some i) → ⊥
      go true true e = let z : ◌≡◌ {A = ℕ} 0 1 = cc in omega arith
      go true false e = let z : ◌≡◌ {A = ℕ} 0 1 = cc in omega arith
      go false b e = let z : ◌≡◌ {A = ℕ} 0 1 = cc in omega arith

  -- the first step
  pub on-first : (cur : Step) → cur ≡ first_step q size n co → On q size n co cur × (ahead q size n co cur ≡ walk q size n co)
  unfolding first_step
  on-first cur e = (
    record { done = []; todo = walk q size n co; joins = refl; front = e },
    ap (ahead q size n co) e
        ∙ ahead-next [] (walk q size n co) refl,
  )

  -- a step at a slot: what is left begins with it
  at_slot : (cur : Step) (c : ℕ) → cur ≡ Ok (Some c) → (o : On q size n co cur) → (post : List ℕ) × (walk q size n co ≡ o.done ++ c ∷ post)
  at_slot cur c e o = go o.todo o.joins (sym e ∙ o.front)
    where
      go : (t : List ℕ) → walk q size n co ≡ o.done ++ t → Ok (Some c) ≡ next_step (ending q size n co) t → (post : List ℕ)
          × (walk q size n co ≡ o.done ++ c ∷ post)
      go [] j f = absurd (ending-no-slot c (sym f))
      go (x ∷ t) j f = let z : x ≡ c = cc in (t, j ∙ ap (λ (i : ℕ). o.done ++ i ∷ t) z)

  pub on-slot : (cur : Step) (c : ℕ) → cur ≡ Ok (Some c) → On q size n co cur → c < n
  on-slot cur c e o = let p = at_slot cur c e o in (walk-follows o.done c p.0 p.1).0

  after_is : (pre : List ℕ) (c : ℕ) (post : List ℕ) → walk q size n co ≡ pre ++ c ∷ post
      → after_step q size n co c ≡ next_step (ending q size n co) post
  unfolding after_step
  after_is pre c post e =
      let w = walk-follows pre c post e in
      let b : (coords_ok size n (length co) && query_ok q && ltb c n) ≡ true = rw (goes pre c post e, lt-ltb c n w.0) in
      let g : walk_after q size n co c ≡ post = ap (λ (t : Bool). cond t (rest_of q co size n c) []) b ∙ w.1 in
      ap (next_step (ending q size n co)) g

  -- one step: the slot, and then what is ahead of the next
  pub on-next : (cur : Step) (c : ℕ) (cur' : Step) → cur ≡ Ok (Some c) → On q size n co cur → cur' ≡ after_step q size n co c
      → On q size n co cur' × (ahead q size n co cur ≡ c ∷ ahead q size n co cur')
  on-next cur c cur' e o f =
      let p = at_slot cur c e o in
      let w = walk-follows o.done c p.0 p.1 in
      let j : walk q size n co ≡ (o.done ++ (c ∷ [])) ++ p.0 = p.1 ∙ sym (append_snoc o.done c p.0) in
      let g : cur' ≡ next_step (ending q size n co) p.0 = f ∙ after_is o.done c p.0 p.1 in
      let h : ahead q size n co cur' ≡ p.0 = ap (ahead q size n co) g ∙ ahead-next (o.done ++ (c ∷ [])) p.0 j in (
        record { done = o.done ++ (c ∷ []); todo = p.0; joins = j; front = g },
        ap (ahead q size n co) e ∙ ap (λ (z : List ℕ). c ∷ z) (w.1 ∙ sym h),
      )

  -- a step that is no slot is how the walk ends
  pub on-end : (cur : Step) → ((i : ℕ) → cur ≡ Ok (Some i) → ⊥) → On q size n co cur → cur ≡ ending q size n co
  on-end cur h o = go o.todo o.front
    where
      go : (t : List ℕ) → cur ≡ next_step (ending q size n co) t → cur ≡ ending q size n co
      go [] f = f
      go (x ∷ t) f = absurd (h x f)

  pub walk-length : length (walk q size n co) ≤ n
  walk-length = go (coords_ok size n (length co) && query_ok q)
    where
      go : (b : Bool) → length (cond b (answers q co size n) []) ≤ n
      go true = answers-length q co size n
      go false = omega arith

  -- whatever n is, since an index of more slots than SCOPE takes is refused
  pub walk-short : length (walk q size n co) ≤ 1048576
  walk-short = go (coords_ok size n (length co)) (query_ok q) refl
    where
      go : (a b : Bool) → coords_ok size n (length co) ≡ a → length (cond (a && b) (answers q co size n) []) ≤ 1048576
      go true true e = omega (arith, answers-length q co size n, (coords-is size n (length co) e).n-to)
      go true false e = omega arith
      go false b e = omega arith
