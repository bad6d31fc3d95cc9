-- A column that reaches over the tables of a sound state: the spot of each lamp in each of them lies within it. Assumes nothing.
use Rattle.std.specs.Prelude.{◌≡◌, true, ℕ, suc, ◌+◌, ◌-◌, ◌*◌, ◌<◌, ◌≤◌, leb}
use Rattle.std.proofs.Common.{le_trans, mul-le-mul, mul-le-mul_right, suc-mul, arith, lit≤, leb-true}
use Rattle.kdslots.specs.laws.Bounds.{and_both}
use Rattle.build_tables.specs.declared.State.{State}
use Rattle.build_tables.specs.Options.{table_count, zoom_used}
use Rattle.build_tables.specs.Sound.{state_ok}
use Rattle.build_tables.specs.laws.Sound.{given, used-between}
use Rattle.ask_owner.specs.Asked.{owners_reach, owner_spot}

-- all places of a sound state are few
pub few : (s : State) (cap : ℕ) → state_ok s cap ≡ true → table_count s.options * s.count ≤ 33554432
few s cap e =
    let g = given s cap e in
    let t : table_count s.options ≤ 32 = omega (arith, g.zoom-to) in
    le_trans (mul-le-mul t g.count-to) (lit≤ tt)

-- place l of row k, of t rows of n
row : (k t n l : ℕ) → k < t → l < n → k * n + l < t * n
row k t n l h i = let w : suc k * n ≤ t * n = mul-le-mul_right n h in omega (arith, w, suc-mul k n, i)

-- what is known of a zoom that has a table: the lamp's spot there lies in the column
pub record Spotted (s : State) (n lamp z : ℕ) : Type 0 where
  pub top : z ≤ s.options.max_zoom + 1
  pub small : z < 32
  pub inside : owner_spot s lamp z < n

pub spotted-at : (s : State) (room n lamp z : ℕ) → owners_reach s room n ≡ true → lamp < s.count → s.options.min_zoom ≤ z
    → z ≤ s.options.max_zoom + 1 → Spotted s n lamp z
spotted-at s room n lamp z e l lo hi =
    let t = table_count s.options in
    let a = and_both (state_ok s room) (leb (t * s.count) n) e in
    let g = given s room a.0 in
    let k = s.options.max_zoom + 1 - z in
    let h : k < t = omega (arith, lo, hi, g.zooms) in
    record {
      top = hi;
      small = omega (arith, hi, g.zoom-to);
      inside = omega (arith, row k t s.count lamp h l, leb-true (t * s.count) n a.1);
    }

-- so of the zoom used
pub spotted : (s : State) (room n lamp zoom : ℕ) → owners_reach s room n ≡ true → lamp < s.count
    → Spotted s n lamp (zoom_used s.options zoom)
spotted s room n lamp zoom e l =
    let g = given s room (and_both (state_ok s room) (leb (table_count s.options * s.count) n) e).0 in
    let u = used-between s.options zoom g.zooms in
    spotted-at s room n lamp (zoom_used s.options zoom) e l u.0 u.1
