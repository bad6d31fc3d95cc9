-- Table after table: at the head of the loop over the zooms the owners down to table z are written, and at its end all of them. Assumes
-- nothing.
use Rattle.std.specs.Prelude.{◌≡◌, refl, List, ℕ, zero, suc, ◌+◌, ◌-◌, ◌*◌, ◌<◌, ◌≤◌, length, get_or}
use Rattle.std.proofs.Common.{sym, ap, ◌∙◌, subst, zero-mul, suc-mul, mul-le-mul, le_refl, arith}
use Rattle.build_tables.specs.declared.Options.{Options}
use Rattle.build_tables.specs.declared.State.{State}
use Rattle.build_tables.specs.Entries.{Table}
use Rattle.build_tables.specs.Options.{table_count}
use Rattle.build_all_zooms.specs.Zooms.{laid_over}
use Rattle.supercluster.specs.laws.Held.{held, held_by}
use Rattle.build_owners.specs.OwnerColumn.{owner_in, owner_column}
use Rattle.build_owners.specs.laws.Climbs.{owner_on, finer, Climbable}
use Rattle.build_owners.specs.laws.Fills.{Wrote, Filled, filled-first, filled-since, filled_more, filled-all}

-- of t tables, the one behind table i has its n places
room-two : (i t n m : ℕ) → i + 2 ≤ t → t * n ≤ m → i * n + n + n ≤ m
room-two i t n m h k =
    let a : suc (suc i) * n ≤ t * n = mul-le-mul (omega arith) (le_refl n) in
    let b = suc-mul (suc i) n in
    let c = suc-mul i n in
    omega arith

-- the first table has them
pub reach : (o : Options) (n : ℕ) → n ≤ table_count o * n
reach o n =
    let t = o.max_zoom - o.min_zoom in
    let a : table_count o * n ≡ (t + 1) * n + n = ap (λ (k : ℕ). k * n) e ∙ suc-mul (t + 1) n in
    omega arith
  where
    e : table_count o ≡ suc (o.max_zoom - o.min_zoom + 1)
    e = omega arith

-- as many tables are held as the state has
held-long : (ss ll : List ℕ) (t : Table) (low k : ℕ) → length (held ss ll t low k) ≡ k
unfolding held
held-long ss ll t low zero = refl
held-long ss ll t low (suc k) = ap suc (held-long ss ll t low k)

-- the owners from the finest table to table z are written, those in table z at `at`
pub record Going (s : State) (R : Table) (z at : ℕ) (a b : List ℕ) : Type 0 where
  pub low : s.options.min_zoom ≤ z
  pub high : z ≤ s.options.max_zoom + 1
  pub at-is : at ≡ (s.options.max_zoom + 1 - z) * s.count
  pub filled : Filled s.count (held_by s R) (s.options.max_zoom + 1 - z) a b

module _ (s : State) (R : Table) (C : Climbable s R) where
  pub going-first : (z at : ℕ) (a b : List ℕ) → z ≡ s.options.max_zoom + 1 → at ≡ 0 → Wrote 0 s.count (λ l. l) a b
      → Going s R z at b b
  going-first z at a b e q w =
      let i : 0 ≡ s.options.max_zoom + 1 - z = omega arith in
      let n = zero-mul s.count in
      let m = C.zooms in
      record {
        low = omega arith;
        high = omega arith;
        at-is = q ∙ sym n ∙ ap (λ (k : ℕ). k * s.count) i;
        filled = subst (λ (k : ℕ). Filled s.count (held_by s R) k b b) i (filled-first s.count (held_by s R) a b w);
      }

  module _ (z at : ℕ) (a b : List ℕ) (g : Going s R z at a b) where
    -- a table is left
    module _ (h : s.options.min_zoom < z) where
      pub going-room : table_count s.options * s.count ≤ length a → at + s.count + s.count ≤ length b
      going-room k =
          let i = s.options.max_zoom + 1 - z in
          let u = g.high in
          let w = C.zooms in
          let r = room-two i (table_count s.options) s.count (length a) (omega arith) k in
          let e = g.at-is in
          let l = g.filled.long in
          omega arith

      pub going-own : (l : ℕ) → l < s.count → get_or b (at + l) 0 ≡ finer s R (z - 1) l
      going-own l q =
          let i = s.options.max_zoom + 1 - z in
          let e : suc (z - 1) ≡ z = omega arith in
          ap (λ (k : ℕ). get_or b (k + l) 0) g.at-is ∙ g.filled.each i l (le_refl i) q ∙ ap (λ (v : ℕ). owner_on s R v l) (sym e)

      pub going_next : (c : List ℕ) → Wrote (at + s.count) s.count (owner_on s R (z - 1)) b c → Going s R (z - 1) (at + s.count) a c
      going_next c w =
          let i = s.options.max_zoom + 1 - z in
          let u = g.high in
          let e : suc (s.options.max_zoom + 1 - z) ≡ s.options.max_zoom + 1 - (z - 1) = omega arith in
          let m : suc (s.options.max_zoom + 1 - z) * s.count ≡ (s.options.max_zoom + 1 - z) * s.count + s.count =
          suc-mul i s.count in
          let p : at + s.count ≡ suc (s.options.max_zoom + 1 - z) * s.count = let q = g.at-is in omega arith in
          record {
            low = omega arith;
            high = omega arith;
            at-is = p ∙ ap (λ (k : ℕ). k * s.count) e;
            filled = subst (λ (k : ℕ). Filled s.count (held_by s R) k a c) e
                (filled_more s.count (held_by s R) i at a b c g.at-is g.filled
                (subst (λ (k : ℕ). Wrote (at + s.count) s.count (λ l. owner_in (held_by s R) k l) b c) (sym e) w));
          }

    -- all of them are written, over what stood before the first
    pub going-last : (f : ℕ → ℕ) (o : List ℕ) → z ≤ s.options.min_zoom → Wrote 0 s.count f o a
        → table_count s.options * s.count ≤ length o → b ≡ laid_over (owner_column s.count (held_by s R)) o
    going-last f o h w k =
        let i = s.options.max_zoom + 1 - z in
        let u = g.low in
        let v = C.zooms in
        let n = held-long s.starts s.lens R s.options.min_zoom (s.options.max_zoom + 2 - s.options.min_zoom) in
        let t : table_count s.options ≡ suc (s.options.max_zoom + 1 - z) = omega arith in
        let m = suc-mul i s.count in
        let r : table_count s.options * s.count ≡ suc (s.options.max_zoom + 1 - z) * s.count = ap (λ (q : ℕ). q * s.count) t in
        let j : (s.options.max_zoom + 1 - z) * s.count + s.count ≤ length o = omega arith in
        filled-all s.count (held_by s R) i o b (filled-since s.count (held_by s R) i f o a b w g.filled) j (omega arith)
