-- The loop over the children of one cluster in the walk over lamps: whatever does what lies ahead of the loop, from where it stands, does
-- what all the children do from the start. Assumes nothing.
use mathlib.Core.Bool.{Bool, true, false, cond, ◌&&◌}
use mathlib.Core.Path.{◌≡◌, refl, sym, ap, subst, ◌∙◌}
use mathlib.Core.List.{List, [], ◌∷◌, map}
use Prim.Native.Nat.{ℕ, zero, suc, ◌+◌, ◌<◌, ◌≤◌}
use native.Mathlib.Nat.{le_refl}
use native.Mathlib.Omega.{arith}
use borrow.Author.Tests.{eq-eqb, ne_eqb}
use lib.Dec.{eqb}
use lib.ListN.{length}
use Rattle.kdslots.specs.laws.All.{AllBelow}
use Rattle.build_tables.specs.declared.Entry.{Entry}
use Rattle.build_tables.specs.declared.State.{State}
use Rattle.build_tables.specs.Entries.{entry}
use Rattle.std.specs.Prelude.{Ok, Err}
use Rattle.build_tables.specs.Room.{Columns, room_of}
use Rattle.refusals.specs.declared.Refusal.{Refusal}
use Rattle.refusals.specs.declared.Refusal.TheVariants.{NoCluster, Spoiled}
use Rattle.ask_base.specs.Columns.{table_at}
use Rattle.ask_base.specs.laws.Reached.{Reached}
use Rattle.ask_base.specs.laws.Around.{Around, ring_at, slots_of, ring-below}
use Rattle.ask_child_walk.specs.Kids.{kids_at, clean_at, childless}
use Rattle.ask_child_walk.specs.laws.Next.{kids_in, clean_in, kids-around, clean-around, Further}
use Rattle.ask_cluster.specs.declared.Sofar.{Sofar}
use Rattle.ask_cluster.specs.Leaves.{Trip, broke, went, visit_child, after, steps, leaf_walk}
use Rattle.ask_cluster.specs.laws.Column.{Walk, trip_of, Counts, BrokeBy, TellsColumn, Does, Walked, does-same, does-nothing}
use Rattle.ask_cluster.proofs.Led.{none_is}
use Rattle.ask_cluster.proofs.Visiting.{Visited}

and-false : (a : Bool) → (a && false) ≡ false
and-false true = refl
and-false false = refl

module _ (s : State) (c : Columns) (limit offset id t o : ℕ) (was : Sofar) (out₀ : List ℕ) (g : Around) where
  abbrev K : List ℕ
  K = kids_at s c id t o

  -- the walk of the level over children ks, with n skipped and the lamps l listed
  abbrev S : ℕ → List ℕ → ℕ → List ℕ → Trip
  S f ks n l = steps s c limit offset (leaf_walk s c limit offset f) t (clean_at s c t o) (map (entry (table_at s c t)) ks) n l

  -- the children among slots that are ahead
  abbrev kids_ahead : List ℕ → List ℕ
  kids_ahead ah = kids_in g id ah

  -- a child was met; or none was, and all are ahead
  abbrev Met : Bool → List ℕ → Type 0
  Met true l = length K ≡ 0 → ⊥
  Met false l = l ≡ K

  -- where the loop stands, with the slots that are ahead
  pub record Walking (out : List ℕ) (any : Bool) (so : Sofar) (ah : List ℕ) : Type 0 where
    pub below : AllBelow g.len ah
    pub same : length out ≡ length out₀
    pub clean : clean_in g ah ≡ clean_at s c t o
    pub met : Met any (kids_ahead ah)
    pub whole : (f : ℕ) → 32 ≤ f + 1 + t → (r : Walk) (out' : List ℕ) → Does so.listed out r out' (S f (kids_ahead ah) so.skipped)
        → Does was.listed out₀ r out' (S f K was.skipped)

  abbrev Ended : Walk → List ℕ → Type 0
  Ended r out = Walked s c limit offset id t o was.skipped was.listed out₀ r out

  module _ (reach : Reached s (room_of c) t o) (eg : g ≡ ring_at s c t o) where
    pub walking-first : (ah : List ℕ) → ah ≡ slots_of g → Walking out₀ false was ah
    walking-first ah e =
        let k : kids_ahead ah ≡ K = ap (kids_in g id) e ∙ kids-around s c (room_of c) t o reach (le_refl (room_of c)) g eg id in
        record {
          below = subst (AllBelow g.len) (sym e) (ring-below g);
          same = refl;
          clean = ap (clean_in g) e ∙ clean-around s c (room_of c) t o reach (le_refl (room_of c)) g eg;
          met = k;
          whole = λ f h r out' d. subst (λ (ks : List ℕ). Does was.listed out₀ r out' (S f ks was.skipped)) k d;
        }

  -- the walk into a cluster that has children, or whose search is not clean, is that over its children
  some : (length K ≡ 0 → ⊥) → (f : ℕ) (l : List ℕ) → S f K was.skipped l ≡ leaf_walk s c limit offset (suc f) id t o was.skipped l
  unfolding leaf_walk
  some h f l = sym (simp (ne_eqb (length K) 0 h))

  spoiled : clean_at s c t o ≡ false → (f : ℕ) (l : List ℕ)
      → S f K was.skipped l ≡ leaf_walk s c limit offset (suc f) id t o was.skipped l
  unfolding leaf_walk steps
  spoiled b f l = go K
    where
      go : (ks : List ℕ) → S f ks was.skipped l ≡ cond (eqb (length ks) 0) (broke l) (S f ks was.skipped l)
      go [] = simp b
      go (p ∷ ks) = sym (simp (ne_eqb (length (p ∷ ks)) 0 (λ i. omega arith)))

  ends : t < 32 → (r : Walk) (out : List ℕ) → ((f : ℕ) → 32 ≤ f + 1 + t → Does was.listed out₀ r out (S f K was.skipped))
      → ((f : ℕ) (l : List ℕ) → S f K was.skipped l ≡ leaf_walk s c limit offset (suc f) id t o was.skipped l)
      → BrokeBy (childless s c id t o) r → Ended r out
  ends l r out q w e = record { trip = go; empty = e }
    where
      go : (f : ℕ) → 32 ≤ f + t → Does was.listed out₀ r out (leaf_walk s c limit offset f id t o was.skipped)
      go zero h = absurd (omega arith)
      go (suc f) h = does-same was.listed out₀ r out (S f K was.skipped) _ (w f) (q f (omega arith))

  peopled : (length K ≡ 0 → ⊥) → childless s c id t o ≡ false
  peopled h = ap (λ (b : Bool). clean_at s c t o && b) (ne_eqb (length K) 0 h) ∙ and-false (clean_at s c t o)

  broke-by : (b : Bool) → childless s c id t o ≡ b → (x : Refusal) → x ≡ cond b NoCluster Spoiled → BrokeBy (childless s c id t o) (Err x)
  broke-by b e x h = h ∙ ap (λ (i : Bool). cond i NoCluster Spoiled) (sym e)

  module _ (l : t < 32) (out : List ℕ) (any : Bool) (so : Sofar) (ah : List ℕ) (w : Walking out any so ah) where
    -- none is ahead: the walk r is what the definition makes of no children
    last : (r : Walk) → ((m : List ℕ) → so.listed ≡ length m → Counts r m) → kids_ahead ah ≡ []
        → ((f : ℕ) (m : List ℕ) → trip_of r m ≡ S f [] so.skipped m)
        → (f : ℕ) → 32 ≤ f + 1 + t → Does was.listed out₀ r out (S f K was.skipped)
    last r e k q f h =
        w.whole f h r out
        (does-same so.listed out r out (trip_of r) (S f (kids_ahead ah) so.skipped)
        (λ m. q f m ∙ ap (λ (ks : List ℕ). S f ks so.skipped m) (sym k)) (does-nothing so.listed out r e))

    pub walking-refused : (x : Refusal) → (x ≡ Spoiled) × (kids_ahead ah ≡ []) × (clean_in g ah ≡ false) → Ended (Err x) out
    unfolding steps
    walking-refused x h =
        let b : clean_at s c t o ≡ false = sym w.clean ∙ h.2 in
        ends l (Err x) out (last (Err x) (λ m i. tt) h.1 (λ f m. sym (simp b))) (spoiled b) (broke-by false (simp b) x h.0)

    module _ (h : (kids_ahead ah ≡ []) × (clean_in g ah ≡ true)) where
      ok : clean_at s c t o ≡ true
      ok = sym w.clean ∙ h.1

      done : (f : ℕ) → 32 ≤ f + 1 + t → Does was.listed out₀ (Ok so) out (S f K was.skipped)
      unfolding steps
      done = last (Ok so) (λ m i. i) h.0 (λ f m. sym (simp ok))

      pub walking-done : any ≡ true → Ended (Ok so) out
      walking-done a =
          let m : Met true (kids_ahead ah) = rw a at w.met in
          ends l (Ok so) out done (some m) (peopled m)

      pub walking-none : any ≡ false → Ended (Err NoCluster) out
      unfolding leaf_walk steps
      walking-none a =
          let k : kids_ahead ah ≡ K = rw a at w.met in
          let m : length K ≡ 0 = ap length (sym k ∙ h.0) in
          record { trip = go m; empty = broke-by true (simp (ok, eq-eqb (length K) 0 m)) NoCluster refl }
        where
          -- over no children nothing is listed
          none : K ≡ [] → (m : List ℕ) → S 32 K was.skipped m ≡ went was.skipped m
          none e m = ap (λ (ks : List ℕ). S 32 ks was.skipped m) e ∙ simp ok

          go : length K ≡ 0 → (f : ℕ) → 32 ≤ f + t
              → Does was.listed out₀ (Err NoCluster) out (leaf_walk s c limit offset f id t o was.skipped)
          go m zero i base x b = absurd (omega arith)
          go m (suc f) i base x b =
              let d = done 32 (omega arith) base x b in
              let e : went was.skipped x ≡ went so.skipped d.lamps = sym (none (none_is K m) x) ∙ d.trip in
              let y : x ≡ d.lamps = cc in
              let u : leaf_walk s c limit offset (suc f) id t o was.skipped x ≡ broke x = simp (eq-eqb (length K) 0 m) in
              record { lamps = d.lamps; trip = u ∙ ap broke y; count = tt; left = d.left }

    -- at the child p, whose visit comes to r and leaves out'
    module _ (eg : g ≡ ring_at s c t o) (p : ℕ) (e : Entry) (r : Walk) (out' : List ℕ)
        (v : Visited s c limit offset t e so.skipped so.listed out r out') (to : List ℕ) (z : Further g id ah p e to) where
      met_some : (a : Bool) → Met a (kids_ahead ah) → length K ≡ 0 → ⊥
      met_some true m = m
      met_some false m = λ i. omega (arith, ap length (sym z.kids ∙ m), i)

      full : length K ≡ 0 → ⊥
      full = met_some any w.met

      abbrev Vis : ℕ → List ℕ → Trip
      Vis f m = visit_child s c limit offset (leaf_walk s c limit offset f) t e so.skipped m

      -- what is ahead, where the visit is told
      step : (f : ℕ) (m : List ℕ) (x : Trip) → Vis f m ≡ x
          → S f (kids_ahead ah) so.skipped m ≡ after s c limit offset x (λ n q. S f (kids_ahead to) n q)
      unfolding steps
      step f m x d =
          let i : e ≡ entry (table_at s c t) p = z.found ∙ ap (λ (y : Around). entry y.table p) eg in
          ap (λ (ks : List ℕ). S f ks so.skipped m) z.kids
          ∙ ap (λ (y : Entry). after s c limit offset (visit_child s c limit offset (leaf_walk s c limit offset f) t y so.skipped m)
          (λ n q. S f (kids_ahead to) n q)) (sym i)
          ∙ ap (λ (y : Trip). after s c limit offset y (λ n q. S f (kids_ahead to) n q)) d

      -- a visit that broke
      pub walking-broke : (x : Refusal) → r ≡ Err x → x ≡ Spoiled → Ended (Err x) out'
      walking-broke x d i =
          ends l (Err x) out' (λ f h. w.whole f h (Err x) out' (goes f h)) (some full) (broke-by false (peopled full) x i)
        where
          goes : (f : ℕ) → 32 ≤ f + 1 + t → Does so.listed out (Err x) out' (S f (kids_ahead ah) so.skipped)
          goes f h base m y =
              let q : TellsColumn base out' (Err x) (Vis f m) =
              subst (λ (u : Walk). TellsColumn base out' u (Vis f m)) d (v f h base m y) in
              record { lamps = q.lamps; trip = step f m _ q.trip; count = tt; left = q.left }

      module _ (so' : Sofar) (d : r ≡ Ok so') where
        tells : (f : ℕ) → 32 ≤ f + 1 + t → Does so.listed out (Ok so') out' (Vis f)
        tells f h base m y = subst (λ (u : Walk). TellsColumn base out' u (Vis f m)) d (v f h base m y)

        pub walking-stop : so'.listed ≡ limit → Ended (Ok so') out'
        walking-stop y = ends l (Ok so') out' (λ f h. w.whole f h (Ok so') out' (goes f h)) (some full) (peopled full)
          where
            goes : (f : ℕ) → 32 ≤ f + 1 + t → Does so.listed out (Ok so') out' (S f (kids_ahead ah) so.skipped)
            goes f h base m b =
                let q = tells f h base m b in
                let n : length q.lamps ≡ limit = sym q.count ∙ y in
                let j = step f m _ q.trip ∙ simp (eq-eqb (length q.lamps) limit n) in
                record { lamps = q.lamps; trip = j; count = q.count; left = q.left }

        pub walking_on : (so'.listed ≡ limit → ⊥) → length out' ≡ length out → Walking out' true so' to
        walking_on y i =
            record {
              below = z.below w.below;
              same = i ∙ w.same;
              clean = sym z.clean ∙ w.clean;
              met = full;
              whole = λ f h u out₁ x. w.whole f h u out₁ (goes f h u out₁ x);
            }
          where
            goes : (f : ℕ) → 32 ≤ f + 1 + t → (u : Walk) (out₁ : List ℕ)
                → Does so'.listed out' u out₁ (S f (kids_ahead to) so'.skipped)
                → Does so.listed out u out₁ (S f (kids_ahead ah) so.skipped)
            goes f h u out₁ x base m b =
                let q = tells f h base m b in
                let n : length q.lamps ≡ limit → ⊥ = λ j. y (q.count ∙ j) in
                subst (λ (a : Trip). TellsColumn base out₁ u a) (sym (step f m _ q.trip ∙ simp (ne_eqb (length q.lamps) limit n)))
                (x base q.lamps (record { count = q.count; left = q.left }))
