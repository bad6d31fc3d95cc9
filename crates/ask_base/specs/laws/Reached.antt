-- A place that a walk may stand at: an entry of a table above that of min_zoom, of a sound state. Both ways to a cluster lead there, and a
-- walk that goes on stands in a larger table. Assumes nothing.
use Rattle.std.specs.Prelude.{Bool, true, false, cond, not, ◌≡◌, refl, ℕ, ◌+◌, ◌<◌, ◌≤◌, leb, ltb, eqb, Ok, Err}
use Rattle.std.proofs.Common.{ap, arith, leb-true, leb-false}
use Rattle.std.proofs.lemmas.Bool.{eqb-false, not-false}
use Rattle.kdslots.specs.laws.Bounds.{and_both}
use Rattle.build_tables.specs.declared.State.{State}
use Rattle.build_tables.specs.State.{start_of, len_of}
use Rattle.build_tables.specs.Sound.{state_ok}
use Rattle.build_tables.specs.laws.Sound.{Stands, stands, given}
use Rattle.build_tables.specs.Ids.{origin_of, table_of}
use Rattle.refusals.specs.declared.Refusal.{Refusal}
use Rattle.refusals.specs.declared.Refusal.TheVariants.{Spoiled, NoTree, NoCluster}
use Rattle.ask_base.specs.declared.Origin.{Origin}
use Rattle.ask_base.specs.Ids.{Target, origin, is_built, target_of, onward}

pub record Reached (s : State) (cap t o : ℕ) : Type 0 where
  pub good : state_ok s cap ≡ true
  pub low : s.options.min_zoom < t
  pub high : t ≤ s.options.max_zoom + 1
  pub inside : o < len_of s t

-- what code that stands there needs
pub record Near (s : State) (cap t o : ℕ) : Type 0 where
  pub table : t < 32
  pub some : 1 ≤ t
  pub at : start_of s t + o < cap
  pub ends : start_of s t + len_of s t ≤ cap
  pub least : 1 ≤ len_of s t
  pub most : len_of s t ≤ 1048576
  pub size-from : 1 ≤ s.options.node_size
  pub size-to : s.options.node_size ≤ 65535

pub reached-stands : {s : State} {cap t o : ℕ} → Reached s cap t o → Stands s cap t
reached-stands {s} {cap} {t} r = stands s cap r.good t (omega (arith, r.low)) r.high

pub near : {s : State} {cap t o : ℕ} → Reached s cap t o → Near s cap t o
near {s} {cap} {t} {o} r =
    let g = given s cap r.good in
    let k = reached-stands r in
    record {
      table = omega (arith, g.zoom-to, r.high);
      some = omega (arith, r.low);
      at = omega (arith, k.ends, r.inside);
      ends = k.ends;
      least = k.some;
      most = omega (arith, k.most, g.count-to);
      size-from = g.size-from;
      size-to = g.size-to;
    }

-- another entry of the same table
pub beside : {s : State} {cap t o : ℕ} (p : ℕ) → p < len_of s t → Reached s cap t o → Reached s cap t p
beside p h r = record { good = r.good; low = r.low; high = r.high; inside = h }

-- ---- the two ways there

-- a refusal that was not given
refused-led : (x : Refusal) (a : Origin) → ◌≡◌ {A = Target} (Err x) (Ok a) → ⊥
refused-led x a e = cc

past : (b : Bool) (x : Refusal) (y : Target) (a : Origin) → cond b (Err x) y ≡ Ok a → (b ≡ false) × (y ≡ Ok a)
past true x y a e = absurd (refused-led x a e)
past false x y a e = (refl, e)

between : (s : State) (t : ℕ) → is_built s t ≡ true → (s.options.min_zoom ≤ t) × (t ≤ s.options.max_zoom + 1)
between s t e =
    let w = and_both (leb s.options.min_zoom t) (leb t (s.options.max_zoom + 1)) e in
    (leb-true _ _ w.0, leb-true _ _ w.1)

above : (a b : ℕ) → a ≤ b → (b ≡ a → ⊥) → a < b
above a b h n = go (leb b a) refl
  where
    go : (z : Bool) → leb b a ≡ z → a < b
    go true w = absurd (n (omega (arith, leb-true b a w)))
    go false w = omega (arith, leb-false b a w)

pub target-reached : (s : State) (cap id t o : ℕ) → target_of s cap id ≡ Ok (origin t o) → Reached s cap t o
unfolding target_of
target-reached s cap id t o e =
    let T = table_of s.count id in
    let O = origin_of s.count id in
    let a = past (not (state_ok s cap)) Spoiled _ (origin t o) e in
    let b = past (ltb id s.count) NoCluster _ (origin t o) a.1 in
    let c = past (not (is_built s T)) NoTree _ (origin t o) b.1 in
    let d = past (eqb T s.options.min_zoom) NoCluster _ (origin t o) c.1 in
    let f = past (leb (len_of s T) O) NoCluster (Ok (origin T O)) (origin t o) d.1 in
    let y : origin T O ≡ origin t o = cc f.1 in
    let p : T ≡ t = ap (λ (x : Origin). x.table) y in
    let q : O ≡ o = ap (λ (x : Origin). x.place) y in
    let w = between s T (not-false _ c.0) in
    let l : s.options.min_zoom < T = above _ _ w.0 (eqb-false _ _ d.0) in
    let i : O < len_of s T = leb-false _ _ f.0 in
    let r : Reached s cap T O = record { good = not-false _ a.0; low = l; high = w.1; inside = i } in
    rw (p, q) at r

pub onward-reached : {s : State} {cap t p : ℕ} (id u o : ℕ) → Reached s cap t p → onward s t id ≡ Ok (origin u o)
    → Reached s cap u o × (t < u)
unfolding onward
onward-reached {s} {cap} {t} {p} id u o r e =
    let T = table_of s.count id in
    let O = origin_of s.count id in
    let a = past (ltb id s.count) Spoiled _ (origin u o) e in
    let b = past (leb T t) Spoiled _ (origin u o) a.1 in
    let c = past (not (is_built s T)) Spoiled _ (origin u o) b.1 in
    let f = past (leb (len_of s T) O) Spoiled (Ok (origin T O)) (origin u o) c.1 in
    let y : origin T O ≡ origin u o = cc f.1 in
    let k : T ≡ u = ap (λ (x : Origin). x.table) y in
    let q : O ≡ o = ap (λ (x : Origin). x.place) y in
    let w = between s T (not-false _ c.0) in
    let l : t < T = leb-false _ _ b.0 in
    let i : O < len_of s T = leb-false _ _ f.0 in
    let m : Reached s cap T O × (t < T) = (record { good = r.good; low = omega (arith, r.low, l); high = w.1; inside = i }, l) in
    rw (k, q) at m

-- a walk goes on into no other refusal than that of a spoiled build
pub onward-refused : (s : State) (t id : ℕ) (x : Refusal) → onward s t id ≡ Err x → x ≡ Spoiled
unfolding onward
onward-refused s t id x e =
    go (ltb id s.count) (leb (table_of s.count id) t) (not (is_built s (table_of s.count id)))
    (leb (len_of s (table_of s.count id)) (origin_of s.count id)) e
  where
    go : (a b c d : Bool) → cond a (Err Spoiled) (cond b (Err Spoiled) (cond c (Err Spoiled)
        (cond d (Err Spoiled) (Ok (origin (table_of s.count id) (origin_of s.count id)))))) ≡ Err x → x ≡ Spoiled
    go true b c d f = cc
    go false true c d f = cc
    go false false true d f = cc
    go false false false true f = cc
    go false false false false f = cc
