-- The loop of the expansion zoom: from where it stands, the definition gives what it gave from the start. Assumes nothing.
use mathlib.Core.Bool.{Bool, true, false, cond}
use mathlib.Core.Path.{◌≡◌, refl, sym, ap, subst, ◌∙◌}
use mathlib.Core.List.{List, [], ◌∷◌}
use Prim.Native.Nat.{ℕ, suc, ◌+◌, ◌-◌, ◌<◌, ◌≤◌}
use native.Mathlib.Omega.{arith}
use lib.Dec.{ltb}
use Rattle.build_tables.specs.declared.State.{State}
use Rattle.build_tables.specs.Entries.{Table, entry}
use Rattle.std.specs.Prelude.{Result, Ok, Err}
use Rattle.build_tables.specs.Room.{Columns, room_of}
use Rattle.refusals.specs.declared.Refusal.{Refusal}
use Rattle.refusals.specs.declared.Refusal.TheVariants.{NoCluster, Spoiled}
use Rattle.ask_base.specs.declared.Origin.{Origin}
use Rattle.ask_base.specs.Columns.{table_at}
use Rattle.ask_base.specs.Ids.{Target, onward}
use Rattle.ask_base.specs.laws.Reached.{Reached, onward-reached, onward-refused}
use Rattle.ask_child_walk.specs.Kids.{kids_at, clean_at}
use Rattle.ask_cluster.specs.declared.Fetched.{Fetched}
use Rattle.ask_cluster.specs.declared.Fetched.TheVariants.{Cluster, Nobody, Others}
use Rattle.ask_cluster.specs.Expansion.{Expansion, fetched, expand}
use Rattle.ask_cluster.specs.laws.Fetch.{sole, fetched_at}

-- ---- a turn of the definition is a fetch

-- an expansion zoom after a fetch at zoom z
abbrev after_fetch : Result Fetched Refusal → Bool → ℕ → (ℕ → Expansion) → Expansion
after_fetch (Err e) first z on = Err e
after_fetch (Ok Nobody) first z on = cond first (Err NoCluster) (Err Spoiled)
after_fetch (Ok Others) first z on = Ok (z + 1)
after_fetch (Ok (Cluster v)) first z on = on v

after-fetch : (clean : Bool) (t : Table) (l : List ℕ) (first : Bool) (z : ℕ) (on : ℕ → Expansion)
    → cond clean (fetched t l first z on) (Err Spoiled) ≡ after_fetch (cond clean (Ok (sole t l)) (Err Spoiled)) first z on
after-fetch false t l first z on = refl
after-fetch true t [] first z on = refl
after-fetch true t (p ∷ []) first z on = of (ltb 1 (entry t p).num)
  where
    of : (b : Bool) → cond b (on (entry t p).id) (Ok (z + 1)) ≡ after_fetch (Ok (cond b (Cluster (entry t p).id) Others)) first z on
    of true = refl
    of false = refl
after-fetch true t (p ∷ q ∷ l) first z on = refl

-- one turn of the definition is one fetch
expand-fetched : (s : State) (c : Columns) (k : ℕ) (a : Origin) (id z : ℕ) (first : Bool) → expand s c (suc k) (Ok a) id z first
    ≡ after_fetch (fetched_at s c id a.table a.place) first z (λ v. expand s c k (onward s a.table v) v (z + 1) false)
unfolding expand fetched_at
expand-fetched s c k a id z first =
    after-fetch (clean_at s c a.table a.place) (table_at s c a.table) (kids_at s c id a.table a.place) first z _

-- ---- the loop

module _ (s : State) (c : Columns) (top : ℕ) (E : Expansion) where
  -- it stands at zoom z with the cluster `of`, whose origin is `a`
  pub record Climbing (z of : ℕ) (a : Origin) (first : Bool) : Type 0 where
    pub reach : Reached s (room_of c) a.table a.place
    pub low : z ≤ top
    pub whole : expand s c (top + 1 - z) (Ok a) of z first ≡ E

  -- before the turn that answers the zoom z at the most: the loop goes on, or it has come to its end
  pub record Rising (z of : ℕ) (a : Origin) (first : Bool) : Type 0 where
    pub some : 1 ≤ z
    pub most : z ≤ top + 2
    pub on : z ≤ top + 1 → Climbing (z - 1) of a first
    pub end : top + 1 < z → Ok (top + 1) ≡ E

  rising : (z of : ℕ) (a : Origin) (first : Bool) → Climbing z of a first → Rising (z + 1) of a first
  rising z of a first w =
      let l = w.low in
      let e : z ≡ z + 1 - 1 = omega arith in
      record {
        some = omega arith;
        most = omega arith;
        on = λ h. subst (λ (n : ℕ). Climbing n of a first) e w;
        end = λ h. absurd (omega (arith, l, h));
      }

  -- by other names
  pub renamed : (z z' of of' : ℕ) (a a' : Origin) (first first' : Bool) → z ≡ z' → of' ≡ of → a' ≡ a → first' ≡ first
      → Rising z of a first → Rising z' of' a' first'
  renamed z z' of of' a a' first first' e f g h w = rw (f, g, h) (subst (λ (n : ℕ). Rising n of a first) e w)

  pub rising-first : (z of : ℕ) (a : Origin) (first : Bool) → 1 ≤ z → Climbing (z - 1) of a first → Rising z of a first
  rising-first z of a first h w =
      let e : z - 1 + 1 ≡ z = omega arith in
      subst (λ (n : ℕ). Rising n of a first) e (rising (z - 1) of a first w)

  module _ (z of : ℕ) (a : Origin) (first : Bool) (w : Climbing z of a first) (r : Result Fetched Refusal)
      (q : r ≡ fetched_at s c of a.table a.place) where
    turn : (x : Result Fetched Refusal) → r ≡ x
        → after_fetch x first z (λ v. expand s c (top - z) (onward s a.table v) v (z + 1) false) ≡ E
    turn x d =
        let k = w.low in
        let e : suc (top - z) ≡ top + 1 - z = omega arith in
        ap (λ (y : Result Fetched Refusal). after_fetch y first z (λ v. expand s c (top - z) (onward s a.table v) v (z + 1) false))
        (sym d ∙ q)
        ∙ sym (expand-fetched s c (top - z) a of z first)
        ∙ ap (λ (n : ℕ). expand s c n (Ok a) of z first) e ∙ w.whole

    pub turn-refused : (x : Refusal) → r ≡ Err x → Err x ≡ E
    turn-refused x d = turn (Err x) d

    pub turn-nobody : r ≡ Ok Nobody → first ≡ true → Err NoCluster ≡ E
    turn-nobody d b = ap (λ (x : Bool). cond x (Err NoCluster) (Err Spoiled)) (sym b) ∙ turn (Ok Nobody) d

    pub turn-nobody-in : r ≡ Ok Nobody → first ≡ false → Err Spoiled ≡ E
    turn-nobody-in d b = ap (λ (x : Bool). cond x (Err NoCluster) (Err Spoiled)) (sym b) ∙ turn (Ok Nobody) d

    pub turn-others : r ≡ Ok Others → Ok (z + 1) ≡ E
    turn-others d = turn (Ok Others) d

    module _ (i : ℕ) (d : r ≡ Ok (Cluster i)) where
      -- no zoom is left to fetch at
      pub turn-top : top < z + 1 → (of' : ℕ) (a' : Origin) (first' : Bool) → Rising (z + 1 + 1) of' a' first'
      unfolding expand
      turn-top l of' a' first' =
          let k = w.low in
          let e : 0 ≡ top - z = omega arith in
          let n : top + 1 ≡ z + 1 = omega (arith, l, k) in
          record {
            some = omega arith;
            most = omega (arith, k);
            on = λ h. absurd (omega (arith, h, l));
            end = λ h. ap Ok n ∙ ap (λ (m : ℕ). expand s c m (onward s a.table i) i (z + 1) false) e ∙ turn (Ok (Cluster i)) d;
          }

      module _ (l : z + 1 ≤ top) (t : Target) (e : t ≡ onward s a.table i) where
        pub turn-lost : (x : Refusal) → t ≡ Err x → Err x ≡ E
        unfolding expand
        turn-lost x y =
            let n : suc (top - z - 1) ≡ top - z = omega arith in
            ap Err (onward-refused s a.table i x (sym e ∙ y))
            ∙ ap (λ (u : Target). expand s c (suc (top - z - 1)) u i (z + 1) false) (sym y ∙ e)
            ∙ ap (λ (m : ℕ). expand s c m (onward s a.table i) i (z + 1) false) n ∙ turn (Ok (Cluster i)) d

        pub turn_on : (b : Origin) → t ≡ Ok b → Rising (z + 1 + 1) i b false
        turn_on b y =
            let n : top + 1 - (z + 1) ≡ top - z = omega arith in
            rising (z + 1) i b false (record {
              reach = (onward-reached i b.table b.place w.reach (sym e ∙ y)).0;
              low = l;
              whole = ap (λ (m : ℕ). expand s c m (Ok b) i (z + 1) false) n
                  ∙ ap (λ (x : Target). expand s c (top - z) x i (z + 1) false) (sym y ∙ e) ∙ turn (Ok (Cluster i)) d;
            })
