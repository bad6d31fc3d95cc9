-- Where a tile holds an entry's centre, as the code tests it: by the four edges of the tile. The test is the floor of the definition,
-- and what it passes lies in the tile, so that the tile's own range finds it. Definitions first. Assumes nothing.
use Rattle.std.specs.Prelude.{◌≡◌, refl, Bool, true, false, ◌&&◌, ℕ, eqb}
use Rattle.std.proofs.Math.Path.{ap}
use Rattle.std.proofs.Common.{ap₂, ◌∙◌, eqb-true}
use Rattle.std.proofs.Math.Bool.{cond}
use Rattle.std.specs.Float.Ieee.{le, lt}
use Rattle.floats.specs.laws.Fraction.{yes_of}
use Rattle.floats.specs.laws.Unit.{In01, in01→In01}
use Rattle.floats.specs.Unit.{in01}
use Rattle.kdslots.specs.laws.Bounds.{and_both}
use Rattle.build_tables.specs.declared.Entry.{Entry}
use Rattle.ask_tile_table.specs.declared.Home.{Home}
use Rattle.ask_tile_table.specs.laws.Floor.{begins, ends, holds, holds-is, within}
use Rattle.ask_tile_table.specs.Floor.{home_of}
use Rattle.ask_tile_table.specs.laws.Framed.{IsTile}
use Rattle.ask_tile_table.specs.laws.Inside.{InTile}
use Rattle.ask_tile_table.specs.Tally.{at_home, weight_in}

-- the edges of the tile (z, x, y)
abbrev pub edges_of : ℕ → ℕ → ℕ → Home
edges_of z x y = record { west = begins z x; east = ends z x; least_y = begins z y; greatest_y = ends z y }

-- the entry's centre lies between them
abbrev pub inside : Home → Entry → Bool
inside h e = le h.west e.x && (lt e.x h.east && (le h.least_y e.y && lt e.y h.greatest_y))

-- what the entry counts by them
unfoldable pub weight_by : Home → Entry → ℕ
weight_by h e = cond (inside h e) e.num 0

-- ---- the test is the definition

and_assoc : (a b c : Bool) → (a && (b && c)) ≡ ((a && b) && c)
and_assoc true b c = refl
and_assoc false b c = refl

module _ (z x y : ℕ) (t : IsTile z x y) (e : Entry) where
  inside-home : In01 e.x → In01 e.y → inside (edges_of z x y) e ≡ at_home z x y e
  inside-home u v =
      and_assoc (le (begins z x) e.x) (lt e.x (ends z x)) (holds z y e.y)
      ∙ ap₂ (λ (a b : Bool). a && b) (holds-is z x t.z-to t.x-to e.x u) (holds-is z y t.z-to t.y-to e.y v)

  pub weight-home : in01 e.x ≡ true → in01 e.y ≡ true → weight_by (edges_of z x y) e ≡ weight_in z x y e
  unfolding weight_by
  weight-home p q = ap (λ (b : Bool). cond b e.num 0) (inside-home (in01→In01 e.x (yes_of p)) (in01→In01 e.y (yes_of q)))

-- ---- at home is in the tile

pub home-inside : (z x y : ℕ) → IsTile z x y → (e : Entry) → In01 e.x → In01 e.y → at_home z x y e ≡ true → InTile z x y e.x e.y
home-inside z x y t e u v h =
    let w = and_both (eqb (home_of z e.x) x) (eqb (home_of z e.y) y) h in
    let a = within z x t.z-to t.x-to e.x u (eqb-true (home_of z e.x) x w.0) in
    let b = within z y t.z-to t.y-to e.y v (eqb-true (home_of z e.y) y w.1) in
    record { west = a.0; east = a.1; low = b.0; high = b.1 }
