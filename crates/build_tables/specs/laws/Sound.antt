-- Each table of a sound state stands within the columns, and its options and its count are within their bounds. A state of no points is
-- never sound. Assumes nothing.
use Rattle.std.specs.Prelude.{Bool, true, false, cond, ◌&&◌, ◌≡◌, refl, ℕ, zero, suc, ◌+◌, ◌-◌, ◌<◌, ◌≤◌, leb, ltb, eqb}
use Rattle.std.proofs.Common.{subst, arith, leb-true, eqb-true, ltb-true, ltb-false}
use Rattle.kdslots.specs.Bounds.{count_ok}
use Rattle.kdslots.specs.laws.Bounds.{and_both, count-is}
use Rattle.build_tables.specs.declared.Options.{Options}
use Rattle.build_tables.specs.declared.State.{State}
use Rattle.build_tables.specs.Options.{options_ok, table_count, zoom_used}
use Rattle.build_tables.specs.laws.Bounds.{InBounds, options-are}
use Rattle.build_tables.specs.State.{new_state, start_of, len_of}
use Rattle.build_tables.specs.Sound.{table_ok, packed, state_ok}

-- ---- what a sound state gives

-- the table of zoom z lies within the columns and has 1 to N entries
pub record Stands (s : State) (cap z : ℕ) : Type 0 where
  pub ends : start_of s z + len_of s z ≤ cap
  pub some : 1 ≤ len_of s z
  pub most : len_of s z ≤ s.count

-- the numbers that bound a build
pub record GivenState (s : State) : Type 0 where
  pub bounds : InBounds s.options
  pub zooms : s.options.min_zoom ≤ s.options.max_zoom
  pub zoom-to : s.options.max_zoom ≤ 30
  pub size-from : 1 ≤ s.options.node_size
  pub size-to : s.options.node_size ≤ 65535
  pub count-from : 1 ≤ s.count
  pub count-to : s.count ≤ 1048576
  pub finest : len_of s (s.options.max_zoom + 1) ≡ s.count

-- the parts of the check
pub record Parts (s : State) (cap : ℕ) : Type 0 where
  pub options : options_ok s.options ≡ true
  pub count : count_ok s.count ≡ true
  pub finest : len_of s (s.options.max_zoom + 1) ≡ s.count
  pub tables : packed s cap (table_count s.options) 0 ≡ true

parts : (s : State) (cap : ℕ) → state_ok s cap ≡ true → Parts s cap
unfolding state_ok
parts s cap e =
    let o = options_ok s.options in
    let n = count_ok s.count in
    let f = eqb (len_of s (s.options.max_zoom + 1)) s.count in
    let a = and_both (o && n && f) (packed s cap (table_count s.options) 0) e in
    let b = and_both (o && n) f a.0 in
    let c = and_both o n b.0 in
    record { options = c.0; count = c.1; finest = eqb-true _ _ b.1; tables = a.1 }

pub given : (s : State) (cap : ℕ) → state_ok s cap ≡ true → GivenState s
given s cap e =
    let p = parts s cap e in
    let b = options-are s.options p.options in
    let n = count-is s.count p.count in
    record {
      bounds = b;
      zooms = b.zooms;
      zoom-to = b.zoom-to;
      size-from = b.size-from;
      size-to = b.size-to;
      count-from = n.0;
      count-to = n.1;
      finest = p.finest;
    }

pub table_is : (s : State) (z at : ℕ) → table_ok s z at ≡ true → (start_of s z ≡ at) × (1 ≤ len_of s z) × (len_of s z ≤ s.count)
table_is s z at e =
    let a = and_both (eqb (start_of s z) at && leb 1 (len_of s z)) (leb (len_of s z) s.count) e in
    let b = and_both (eqb (start_of s z) at) (leb 1 (len_of s z)) a.0 in
    (eqb-true _ _ b.0, leb-true _ _ b.1, leb-true _ _ a.1)

packed-within : (s : State) (cap k at : ℕ) → packed s cap k at ≡ true → at ≤ cap
unfolding packed
packed-within s cap zero at e = leb-true at cap e
packed-within s cap (suc k) at e =
    let z = s.options.min_zoom + k in
    omega (arith, packed-within s cap k (at + len_of s z) (and_both (table_ok s z at) (packed s cap k (at + len_of s z)) e).1)

packed-stands : (s : State) (cap k at j : ℕ) → packed s cap k at ≡ true → j < k → Stands s cap (s.options.min_zoom + j)
unfolding packed
packed-stands s cap zero at j e h = absurd (omega arith)
packed-stands s cap (suc k) at j e h =
    let z = s.options.min_zoom + k in
    let a = and_both (table_ok s z at) (packed s cap k (at + len_of s z)) e in
    let t = table_is s z at a.0 in
    let w = packed-within s cap k (at + len_of s z) a.1 in
    go (ltb j k) refl (packed-stands s cap k (at + len_of s z) j a.1) (record { ends = omega (arith, t, w); some = t.1; most = t.2 })
  where
    go : (b : Bool) → ltb j k ≡ b → (j < k → Stands s cap (s.options.min_zoom + j)) → Stands s cap (s.options.min_zoom + k)
        → Stands s cap (s.options.min_zoom + j)
    go true q f g = f (ltb-true j k q)
    go false q f g =
        let r : k ≡ j = omega (arith, ltb-false j k q) in
        subst (λ (i : ℕ). Stands s cap (s.options.min_zoom + i)) r g

-- each table that is built stands
pub stands : (s : State) (cap : ℕ) → state_ok s cap ≡ true → (z : ℕ) → s.options.min_zoom ≤ z → z ≤ s.options.max_zoom + 1
    → Stands s cap z
stands s cap e z p q =
    let j = z - s.options.min_zoom in
    let w = packed-stands s cap (table_count s.options) 0 j (parts s cap e).tables (omega arith) in
    let r : s.options.min_zoom + j ≡ z = omega arith in
    subst (λ (i : ℕ). Stands s cap i) r w

-- the zoom used is one of a table that is built
pub used-between : (o : Options) (z : ℕ) → o.min_zoom ≤ o.max_zoom → (o.min_zoom ≤ zoom_used o z)
    × (zoom_used o z ≤ o.max_zoom + 1)
used-between o z h = go (ltb z o.min_zoom) refl
  where
    low : (v : ℕ) → o.min_zoom ≤ v
        → (o.min_zoom ≤ cond (ltb (o.max_zoom + 1) v) (o.max_zoom + 1) v)
        × (cond (ltb (o.max_zoom + 1) v) (o.max_zoom + 1) v ≤ o.max_zoom + 1)
    low v l = at (ltb (o.max_zoom + 1) v) refl
      where
        at : (b : Bool) → ltb (o.max_zoom + 1) v ≡ b → (o.min_zoom ≤ cond b (o.max_zoom + 1) v)
            × (cond b (o.max_zoom + 1) v ≤ o.max_zoom + 1)
        at true e = (omega arith, omega arith)
        at false e = (l, omega (arith, ltb-false (o.max_zoom + 1) v e))

    go : (b : Bool) → ltb z o.min_zoom ≡ b
        → let v = cond b o.min_zoom z in
        (o.min_zoom ≤ cond (ltb (o.max_zoom + 1) v) (o.max_zoom + 1) v)
        × (cond (ltb (o.max_zoom + 1) v) (o.max_zoom + 1) v ≤ o.max_zoom + 1)
    go true e = low o.min_zoom (omega arith)
    go false e = low z (omega (arith, ltb-false z o.min_zoom e))

-- the table of the zoom used stands, and its number is one of the 32
pub used-stands : (s : State) (cap : ℕ) → state_ok s cap ≡ true → (z : ℕ) → Stands s cap (zoom_used s.options z)
    × (zoom_used s.options z < 32)
used-stands s cap e z =
    let g = given s cap e in
    let u = used-between s.options z g.zooms in
    (stands s cap e _ u.0 u.1, omega (arith, u, g.zoom-to))

-- ---- for a loop that counts the tables down

pub packed-next : (s : State) (cap k at : ℕ) → 0 < k
    → packed s cap k at ≡ (table_ok s (s.options.min_zoom + (k - 1)) at && packed s cap (k - 1)
    (at + len_of s (s.options.min_zoom + (k - 1))))
unfolding packed
packed-next s cap k at h = go k (k - 1) (omega arith)
  where
    go : (a b : ℕ) → a ≡ suc b → packed s cap a at
        ≡ (table_ok s (s.options.min_zoom + b) at && packed s cap b (at + len_of s (s.options.min_zoom + b)))
    go a b e = rw e

pub packed-last : (s : State) (cap k at : ℕ) → k ≤ 0 → packed s cap k at ≡ leb at cap
unfolding packed
packed-last s cap k at h = go k (omega arith)
  where
    go : (a : ℕ) → a ≡ 0 → packed s cap a at ≡ leb at cap
    go a e = rw e

-- ---- a state of no points and no tables: whatever its options and the columns, every question refuses it

pub none-sound : (o : Options) (cap : ℕ) → state_ok (new_state o 0) cap ≡ false
unfolding state_ok
none-sound o cap =
    go (options_ok o) (eqb (len_of (new_state o 0) (o.max_zoom + 1)) 0) (packed (new_state o 0) cap (table_count o) 0)
  where
    go : (a b c : Bool) → (a && count_ok 0 && b && c) ≡ false
    go true b c = refl
    go false b c = refl
