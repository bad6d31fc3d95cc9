-- How the code's steps at one child make a visit of the walk over lamps, and how a child cluster is entered. Assumes nothing.
use mathlib.Core.Bool.{Bool, true, false, cond}
use mathlib.Core.Path.{◌≡◌, refl, sym, ap, subst, ◌∙◌}
use mathlib.Core.List.{List}
use Prim.Native.Nat.{ℕ, ◌+◌, ◌<◌, ◌≤◌}
use native.Mathlib.Omega.{arith}
use lib.Dec.{ltb, leb}
use Rattle.build_tables.specs.declared.Entry.{Entry}
use Rattle.build_tables.specs.declared.State.{State}
use Rattle.std.specs.Prelude.{Ok, Err}
use Rattle.build_tables.specs.Room.{Columns}
use Rattle.refusals.specs.declared.Refusal.{Refusal}
use Rattle.ask_base.specs.declared.Origin.{Origin}
use Rattle.ask_base.specs.Ids.{Target, onward}
use Rattle.ask_cluster.specs.declared.Fate.{Fate}
use Rattle.ask_cluster.specs.declared.Fate.TheVariants.{Skipped, Entered, Listed}
use Rattle.ask_cluster.specs.Leaves.{Trip, broke, went, Into, enter, list_one, visit_child, leaf_walk}
use Rattle.ask_cluster.specs.laws.Column.{Walk, fate_of, Does, Opened, does-same, does-nothing}

-- a visit of the child e in zoom t's table, with n skipped and k listed, comes to r and leaves out', whatever bounds the definition
abbrev pub Visited : State → Columns → ℕ → ℕ → ℕ → Entry → ℕ → ℕ → List ℕ → Walk → List ℕ → Type 0
Visited s c limit offset t e n k out r out' =
    (f : ℕ) → 32 ≤ f + 1 + t → Does k out r out' (visit_child s c limit offset (leaf_walk s c limit offset f) t e n)

-- the child e in zoom t's table, with n skipped, by its fate
abbrev pub by_fate : State → Fate → Into → ℕ → Entry → ℕ → List ℕ → Trip
by_fate s (Skipped m) into t e n l = went m l
by_fate s Entered into t e n l = enter into (onward s t e.id) e.id n l
by_fate s Listed into t e n l = list_one s.count e.id n l

visit-fate : (s : State) (c : Columns) (limit offset : ℕ) (into : Into) (t : ℕ) (e : Entry) (n : ℕ) (l : List ℕ)
    → by_fate s (fate_of offset n e.num) into t e n l ≡ visit_child s c limit offset into t e n l
unfolding visit_child
visit-fate s c limit offset into t e n l = of (ltb 1 e.num) (leb (n + e.num) offset) (ltb n offset)
  where
    of : (a b d : Bool)
        → by_fate s (cond a (cond b (Skipped (n + e.num)) Entered) (cond d (Skipped (n + 1)) Listed)) into t e n l
        ≡ cond a (cond b (went (n + e.num) l) (enter into (onward s t e.id) e.id n l))
        (cond d (went (n + 1) l) (list_one s.count e.id n l))
    of true true d = refl
    of true false d = refl
    of false b true = refl
    of false b false = refl

module _ (s : State) (c : Columns) (limit offset t : ℕ) (e : Entry) (n k : ℕ) (out : List ℕ) (F : Fate) (q : F ≡ fate_of offset n e.num)
  where
    -- by its fate; the walk and the column go by other names where the ways meet
    pub visit-by : (x : Fate) → F ≡ x → (r : Walk) (out' : List ℕ)
        → ((f : ℕ) → 32 ≤ f + 1 + t → Does k out r out' (by_fate s x (leaf_walk s c limit offset f) t e n))
        → (r₁ : Walk) (out₁ : List ℕ) → out₁ ≡ out' → r₁ ≡ r → Visited s c limit offset t e n k out r₁ out₁
    visit-by x d r out' w r₁ out₁ i j f h =
        let into = leaf_walk s c limit offset f in
        subst (λ (o : List ℕ). Does k out r₁ o (visit_child s c limit offset into t e n)) (sym i)
        (subst (λ (y : Walk). Does k out y out' (visit_child s c limit offset into t e n)) (sym j)
        (does-same k out r out' (by_fate s x into t e n) (visit_child s c limit offset into t e n)
        (λ l. ap (λ (y : Fate). by_fate s y into t e n l) (sym d ∙ q) ∙ visit-fate s c limit offset into t e n l) (w f h)))

-- ---- a child cluster

-- a walk that is refused, whatever the refusal
pub refused-so : (k : ℕ) (out out' : List ℕ) (x y : Refusal) (trip : List ℕ → Trip)
    → Does k out (Err x) out' trip → Does k out (Err y) out' trip
refused-so k out out' x y trip d base l b =
    let q = d base l b in
    record { lamps = q.lamps; trip = q.trip; count = tt; left = q.left }

module _ (s : State) (c : Columns) (limit offset t id n k : ℕ) (out : List ℕ) (g : Target) (x : g ≡ onward s t id) where
  -- one that cannot be entered
  pub opened-lost : (e : Refusal) → g ≡ Err e → Opened s c limit offset t id n k out (Err e) out
  opened-lost e y f h =
      let into = leaf_walk s c limit offset f in
      does-same k out (Err e) out broke (enter into (onward s t id) id n)
      (λ m. ap (λ (z : Target). enter into z id n m) (sym y ∙ x)) (does-nothing k out (Err e) (λ m i. tt))

  pub opened_in : (a : Origin) → g ≡ Ok a → t < a.table → (r : Walk) (out' : List ℕ)
      → ((f : ℕ) → 32 ≤ f + a.table → Does k out r out' (leaf_walk s c limit offset f id a.table a.place n))
      → Opened s c limit offset t id n k out r out'
  opened_in a y l r out' w f h =
      let into = leaf_walk s c limit offset f in
      does-same k out r out' (into id a.table a.place n) (enter into (onward s t id) id n)
      (λ m. ap (λ (z : Target). enter into z id n m) (sym y ∙ x)) (w f (omega arith))
