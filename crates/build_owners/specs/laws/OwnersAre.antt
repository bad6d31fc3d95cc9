-- Of every accepted build: the owner that is climbed to by ids is the lamp's owner. Assumes nothing.
use Rattle.std.specs.Prelude.{◌≡◌, [], get_or}
use Rattle.std.proofs.Math.Path.{sym, ap}
use Rattle.std.proofs.Common.{◌∙◌}
use Prim.Native.Nat.{ℕ, suc, ◌+◌, ◌-◌, ◌≤◌, ◌<◌}
use native.Mathlib.Omega.{arith}
use Rattle.build_tables.specs.Entries.{entry}
use Rattle.law_builds.specs.Given.{Given, AcceptedBuild, points, min_z, max_z, tables_of_build}
use Rattle.law_builds.specs.Came.{table_of_zoom, down}
use Rattle.law_builds.specs.Identities.{ids-distinct}
use Rattle.law_lamps.specs.Owner.{owner_up, owner}
use Rattle.law_lamps.specs.laws.Owners.{owner-first, owner-in}
use Rattle.law_lamps.specs.laws.Climb.{owner-up}
use Rattle.build_owners.specs.OwnerColumn.{place_of, owner_in}
use Rattle.build_owners.specs.laws.Found.{found-apart}

module _ (G : Given) (a : AcceptedBuild G) where
  -- by table number
  abbrev Is : ℕ → Type 0
  Is z = (l : ℕ) → l < points G → owner_in (tables_of_build G) (max_z G + 1 - z) l ≡ owner G z l

  is-first : Is (max_z G + 1)
  unfolding owner_in
  is-first l w =
      let e : max_z G + 1 - (max_z G + 1) ≡ 0 = omega arith in
      ap (λ (d : ℕ). owner_in (tables_of_build G) d l) e ∙ sym (owner-first G l)

  is-next : (z : ℕ) → min_z G ≤ z → z ≤ max_z G → Is (suc z) → Is z
  unfolding owner_in table_of_zoom
  is-next z h k ih l w =
      let Ts = tables_of_build G in
      let d = max_z G + 1 - suc z in
      let e : max_z G + 1 - z ≡ suc (max_z G + 1 - suc z) = omega arith in
      let T = table_of_zoom G (suc z) in
      ap (λ (i : ℕ). owner_in Ts i l) e
      ∙ ap (λ (i : ℕ). place_of (owner_up (entry T i)) (get_or Ts (suc d) [])) (ih l w)
      ∙ ap (λ (i : ℕ). place_of (owner_up (entry T (owner G (suc z) l))) (get_or Ts i [])) (sym e)
      ∙ found-apart (owner_up (entry T (owner G (suc z) l))) (table_of_zoom G z) (owner G z l) (owner-in G a z h (omega arith) l w)
      (owner-up G a z h k l w)
      (ids-distinct G a z h (omega arith))

  pub owner-is : (z : ℕ) → min_z G ≤ z → z ≤ max_z G + 1 → (l : ℕ) → l < points G →
      owner_in (tables_of_build G) (max_z G + 1 - z) l ≡ owner G z l
  owner-is = down Is (min_z G) (max_z G + 1) is-first (λ z h k ih. is-next z h (omega arith) ih)
