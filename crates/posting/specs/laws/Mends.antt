-- Mending one table after the other: the tables stand behind each other, so that mending one leaves what the next ones need. Assumes
-- nothing.
use Rattle.std.specs.Prelude.{◌≡◌, Bool, true, false, ◌&&◌, List, leb, ltb, length, get_or, set}
use Rattle.std.proofs.Math.Path.{refl, sym, ap, ap₂}
use Rattle.std.proofs.Common.{◌∙◌, subst, arith, get_or-set_other}
use Prim.Native.Nat.{ℕ, zero, suc, ◌+◌, ◌-◌, ◌^◌, ◌<◌, ◌≤◌}
use borrow.Author.Tests.{ltb-true, leb-true, leb-false, lt-ltb, le-ltb}
use Rattle.std.proofs.Math.Dec.{eqb}
use Rattle.std.proofs.Math.ListN.{length-set}
use Rattle.kdslots.specs.Bounds.{count_ok}
use Rattle.kdslots.specs.laws.Bounds.{and_both}
use Rattle.build_tables.specs.declared.State.{State}
use Rattle.build_tables.specs.Options.{options_ok, table_count}
use Rattle.build_tables.specs.State.{start_of, len_of}
use Rattle.build_tables.specs.Sound.{table_ok, packed, state_ok}
use Rattle.build_tables.specs.laws.Sound.{Stands, table_is, stands}
use Rattle.ask_owner.specs.Asked.{owners_reach}
use Rattle.ask_owner.specs.laws.Reach.{Spotted, spotted-at}
use Rattle.posting.specs.Post.{owner_by, sum_spot, takes, replaced, mends, mendable, mended_at, mended}

-- the state reaches over both columns, and has the lamp
abbrev pub Ready : State → ℕ → ℕ → ℕ → Type 0
Ready s m n lamp = (owners_reach s m n ≡ true) × (lamp < s.count)

-- so is each of its tables over them
module _ (s : State) (m n lamp : ℕ) (r : Ready s m n lamp) (z : ℕ) (low : s.options.min_zoom ≤ z)
    (high : z ≤ s.options.max_zoom + 1) where
  pub ready-spot : Spotted s n lamp z
  ready-spot = spotted-at s m n lamp z r.0 r.1 low high

  pub ready-stands : Stands s m z
  ready-stands = stands s m (and_both (state_ok s m) _ r.0).0 z low high

-- ---- one sum, and one table

-- that a sum fits, as the code tests it
pub fits_by : (x figure : ℕ) → figure < 18446744073709551616 → leb x (18446744073709551615 - figure) ≡ ltb (x + figure) (2 ^ 64)
fits_by x figure h = go (leb x (18446744073709551615 - figure)) refl
  where
    go : (b : Bool) → leb x (18446744073709551615 - figure) ≡ b → leb x (18446744073709551615 - figure) ≡ ltb (x + figure) (2 ^ 64)
    go true e = e ∙ sym (lt-ltb (x + figure) 18446744073709551616 (omega (arith, leb-true x (18446744073709551615 - figure) e, h)))
    go false e = e ∙ sym (le-ltb (x + figure) 18446744073709551616 (omega (arith, leb-false x (18446744073709551615 - figure) e, h)))

module _ (s : State) (owners : List ℕ) (lamp before figure : ℕ) (e : List ℕ) (z p len : ℕ) (is : p ≡ owner_by s owners lamp z)
    (long : len ≡ len_of s z) where
  -- no such place
  pub mends-no : len ≤ p → false ≡ mends s owners lamp before figure e z
  mends-no h =
      sym (ap (λ (b : Bool). b && takes before figure (get_or e (sum_spot s owners lamp z) 0))
      (le-ltb (owner_by s owners lamp z) (len_of s z) (omega (arith, h, is, long))))

  -- its sum decides
  pub mends-by : p < len → (at : ℕ) → at ≡ start_of s z → (r : Bool) → r ≡ takes before figure (get_or e (at + p) 0)
      → r ≡ mends s owners lamp before figure e z
  mends-by h at q r w =
      w ∙ ap₂ (λ (i j : ℕ). takes before figure (get_or e (i + j) 0)) q is
      ∙ sym (ap (λ (b : Bool). b && takes before figure (get_or e (sum_spot s owners lamp z) 0))
      (lt-ltb (owner_by s owners lamp z) (len_of s z) (omega (arith, h, is, long))))

-- what a table that can be mended has
pub record Takes (s : State) (owners : List ℕ) (lamp before figure : ℕ) (e : List ℕ) (z : ℕ) : Type 0 where
  pub place : owner_by s owners lamp z < len_of s z
  pub has : before ≤ get_or e (sum_spot s owners lamp z) 0
  pub fits : get_or e (sum_spot s owners lamp z) 0 - before + figure < 18446744073709551616

pub mends-takes : (s : State) (owners : List ℕ) (lamp before figure : ℕ) (e : List ℕ) (z : ℕ)
    → mends s owners lamp before figure e z ≡ true → Takes s owners lamp before figure e z
mends-takes s owners lamp before figure e z h =
    let v = get_or e (sum_spot s owners lamp z) 0 in
    let a = and_both (ltb (owner_by s owners lamp z) (len_of s z)) (takes before figure v) h in
    let b = and_both (leb before v) (ltb (replaced before figure v) (2 ^ 64)) a.1 in
    record { place = ltb-true _ _ a.0; has = leb-true _ _ b.0; fits = ltb-true _ 18446744073709551616 b.1 }

-- ---- the tables that are left

module _ (s : State) (owners : List ℕ) (lamp before figure : ℕ) where
  -- the first of them, and the others
  pub mendable-next : (e : List ℕ) (k : ℕ) → 0 < k → mendable s owners lamp before figure e k
      ≡ (mends s owners lamp before figure e (s.options.min_zoom + (k - 1)) && mendable s owners lamp before figure e (k - 1))
  unfolding mendable
  mendable-next e k h = go k (k - 1) (omega arith)
    where
      go : (a b : ℕ) → a ≡ suc b → mendable s owners lamp before figure e a
          ≡ (mends s owners lamp before figure e (s.options.min_zoom + b) && mendable s owners lamp before figure e b)
      go a b q = ap (mendable s owners lamp before figure e) q

  pub mended-next : (e : List ℕ) (k : ℕ) → 0 < k → mended s owners lamp before figure e k
      ≡ mended s owners lamp before figure (mended_at s owners lamp before figure e (s.options.min_zoom + (k - 1))) (k - 1)
  unfolding mended
  mended-next e k h = go k (k - 1) (omega arith)
    where
      go : (a b : ℕ) → a ≡ suc b → mended s owners lamp before figure e a
          ≡ mended s owners lamp before figure (mended_at s owners lamp before figure e (s.options.min_zoom + b)) b
      go a b q = ap (mended s owners lamp before figure e) q

  -- by zooms: low is min_zoom, and the tables below z are left
  module _ (e : List ℕ) (low z : ℕ) (is : low ≡ s.options.min_zoom) where
    pub left-no : low < z → mends s owners lamp before figure e (z - 1) ≡ false → mendable s owners lamp before figure e (z - low) ≡ false
    left-no h m =
        let q : s.options.min_zoom + (z - low - 1) ≡ z - 1 = omega (arith, is, h) in
        mendable-next e (z - low) (omega (arith, h))
        ∙ ap (λ (b : Bool). b && mendable s owners lamp before figure e (z - low - 1)) (ap (mends s owners lamp before figure e) q ∙ m)

    pub left-yes : low < z → mends s owners lamp before figure e (z - 1) ≡ true
        → mendable s owners lamp before figure e (z - low) ≡ mendable s owners lamp before figure e (z - 1 - low)
    left-yes h m =
        let q : s.options.min_zoom + (z - low - 1) ≡ z - 1 = omega (arith, is, h) in
        let k : z - low - 1 ≡ z - 1 - low = omega arith in
        mendable-next e (z - low) (omega (arith, h))
        ∙ ap (λ (b : Bool). b && mendable s owners lamp before figure e (z - low - 1)) (ap (mends s owners lamp before figure e) q ∙ m)
        ∙ ap (mendable s owners lamp before figure e) k

    pub left-none : z ≤ low → mendable s owners lamp before figure e (z - low) ≡ true
    unfolding mendable
    left-none h = let q : z - low ≡ 0 = omega (arith, h) in ap (mendable s owners lamp before figure e) q

  -- a store before a table leaves what it needs
  mends-behind : (e : List ℕ) (i v z : ℕ) → i < start_of s z
      → mends s owners lamp before figure (set e i v) z ≡ mends s owners lamp before figure e z
  mends-behind e i v z h =
      ap (λ (x : ℕ). ltb (owner_by s owners lamp z) (len_of s z) && takes before figure x)
      (get_or-set_other e i (sum_spot s owners lamp z) v 0 (λ q. omega (arith, h)))

  mendable-behind : (cap k at : ℕ) (e : List ℕ) (i v : ℕ) → packed s cap k at ≡ true → i < at
      → mendable s owners lamp before figure (set e i v) k ≡ mendable s owners lamp before figure e k
  unfolding mendable packed
  mendable-behind cap zero at e i v p h = refl
  mendable-behind cap (suc k) at e i v p h =
      let z = s.options.min_zoom + k in
      let a = and_both (table_ok s z at) (packed s cap k (at + len_of s z)) p in
      let t = table_is s z at a.0 in
      ap₂ (λ (b c : Bool). b && c) (mends-behind e i v z (omega (arith, t.0, h)))
      (mendable-behind cap k (at + len_of s z) e i v a.1 (omega (arith, h)))

  -- e is what the first tables leave of the energies, k tables are left, which begin at `at`
  pub record Mending (cap : ℕ) (given : List ℕ) (k : ℕ) (e : List ℕ) : Type 0 where
    pub at : ℕ
    pub long : length e ≡ length given
    pub left : packed s cap k at ≡ true
    pub able : mendable s owners lamp before figure e k ≡ true
    pub same : mended s owners lamp before figure given (table_count s.options) ≡ mended s owners lamp before figure e k

  pub mending-first : (cap : ℕ) (e : List ℕ) → state_ok s cap ≡ true
      → mendable s owners lamp before figure e (table_count s.options) ≡ true → Mending cap e (table_count s.options) e
  unfolding state_ok
  mending-first cap e o h =
      let f = eqb (len_of s (s.options.max_zoom + 1)) s.count in
      let p = (and_both (options_ok s.options && count_ok s.count && f) (packed s cap (table_count s.options) 0) o).1 in
      record { at = 0; long = refl; left = p; able = h; same = refl }

  -- the next table can be mended
  pub mending-able : (cap : ℕ) (given : List ℕ) (k : ℕ) (e : List ℕ) → Mending cap given k e → 0 < k
      → mends s owners lamp before figure e (s.options.min_zoom + (k - 1)) ≡ true
  mending-able cap given k e m h = (and_both _ _ (sym (mendable-next e k h) ∙ m.able)).0

  -- and once it is, the others are left
  step : (cap : ℕ) (given : List ℕ) (k : ℕ) (e : List ℕ) → Mending cap given (suc k) e
      → Mending cap given k (mended_at s owners lamp before figure e (s.options.min_zoom + k))
  unfolding packed mendable mended
  step cap given k e m =
      let z = s.options.min_zoom + k in
      let a = and_both (table_ok s z m.at) (packed s cap k (m.at + len_of s z)) m.left in
      let t = table_is s z m.at a.0 in
      let b = and_both (mends s owners lamp before figure e z) (mendable s owners lamp before figure e k) m.able in
      let c = and_both (ltb (owner_by s owners lamp z) (len_of s z)) (takes before figure (get_or e (sum_spot s owners lamp z) 0)) b.0 in
      let p = ltb-true (owner_by s owners lamp z) (len_of s z) c.0 in
      let i = sum_spot s owners lamp z in
      let v = replaced before figure (get_or e i 0) in
      record {
        at = m.at + len_of s z;
        long = length-set e i v ∙ m.long;
        left = a.1;
        able = mendable-behind cap k (m.at + len_of s z) e i v a.1 (omega (arith, t.0, p)) ∙ b.1;
        same = m.same;
      }

  pub mending-next : (cap : ℕ) (given : List ℕ) (k : ℕ) (e : List ℕ) → Mending cap given k e → 0 < k
      → Mending cap given (k - 1) (mended_at s owners lamp before figure e (s.options.min_zoom + (k - 1)))
  mending-next cap given k e m h =
      let q : k ≡ suc (k - 1) = omega arith in step cap given (k - 1) e (subst (λ (c : ℕ). Mending cap given c e) q m)

  pub mending-last : (cap : ℕ) (given : List ℕ) (k : ℕ) (e : List ℕ) → Mending cap given k e → k ≤ 0
      → e ≡ mended s owners lamp before figure given (table_count s.options)
  unfolding mended
  mending-last cap given zero e m h = sym m.same
  mending-last cap given (suc k) e m h = absurd (omega arith)
