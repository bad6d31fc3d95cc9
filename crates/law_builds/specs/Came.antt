-- The tables of a build by their numbers, from max_zoom + 1, the finest, down to min_zoom: table z as it came, before a zoom marked it,
-- and as the build has it. Each comes of the one before by one zoom, and the build's is what that zoom left of it; the last is as it
-- came. Assumes nothing.
use Rattle.std.specs.Prelude.{◌≡◌, refl, [], get_or}
use Rattle.std.proofs.Common.{sym, ◌∙◌, subst, add-suc}
use Rattle.std.proofs.Math.Path.{ap, ap₂}
use Prim.Native.Nat.{ℕ, zero, suc, ◌+◌, ◌-◌, ◌<◌, ◌≤◌}
use native.Mathlib.Omega.{arith}
use Rattle.build_tables.specs.Entries.{Table}
use Rattle.build_all_zooms.specs.Zooms.{Plan, zoomed, run_zooms, zooms_of}
use Rattle.supercluster.specs.Build.{tables_of}
use Rattle.law_builds.specs.Given.{Given, min_z, max_z, plan, tables_of_build, lamps_in}

-- the table that comes after j zooms, the first of them top - 1
unfoldable pub comes : Plan → ℕ → Table → ℕ → Table
comes p top t zero = t
comes p top t (suc j) = (zoomed p (top - suc j) (comes p top t j)).next

-- table z of a build as it came
unfoldable pub came : Given → ℕ → Table
came G z = comes (plan G) (max_z G + 1) (lamps_in G) (max_z G + 1 - z)

-- table z of a build
unfoldable pub table_of_zoom : Given → ℕ → Table
table_of_zoom G z = get_or (tables_of_build G) (max_z G + 1 - z) []

-- ---- what `run_zooms` makes

-- the first zoom taken out
comes-shift : (p : Plan) (top : ℕ) (t : Table) (j : ℕ) → comes p (suc top) t (suc j) ≡ comes p top (zoomed p top t).next j
unfolding comes
comes-shift p top t zero = let e : suc top - 1 ≡ top = omega arith in ap (λ (z : ℕ). (zoomed p z t).next) e
comes-shift p top t (suc j) =
    let e : suc top - suc (suc j) ≡ top - suc j = omega arith in
    ap₂ (λ (z : ℕ) (q : Table). (zoomed p z q).next) e (comes-shift p top t j)

run_at : (p : Plan) (k : ℕ) (t : Table) (j : ℕ) → j < k →
    get_or (run_zooms p k t) j [] ≡ (zoomed p (p.options.min_zoom + k - suc j) (comes p (p.options.min_zoom + k) t j)).table
unfolding run_zooms comes
run_at p zero t j h = absurd (omega arith)
run_at p (suc k) t zero h = let e : p.options.min_zoom + k ≡ p.options.min_zoom + suc k - 1 = omega arith in
    ap (λ (z : ℕ). (zoomed p z t).table) e
run_at p (suc k) t (suc j) h =
    let m = p.options.min_zoom in
    let e : m + k - suc j ≡ m + suc k - suc (suc j) = omega arith in
    run_at p k (zoomed p (m + k) t).next j (omega arith)
    ∙ ap₂ (λ (z : ℕ) (q : Table). (zoomed p z q).table) e
    (sym (comes-shift p (m + k) t j) ∙ ap (λ (w : ℕ). comes p w t (suc j)) (sym (add-suc m k)))

run-last : (p : Plan) (k : ℕ) (t : Table) → get_or (run_zooms p k t) k [] ≡ comes p (p.options.min_zoom + k) t k
unfolding run_zooms comes
run-last p zero t = refl
run-last p (suc k) t =
    let m = p.options.min_zoom in
    run-last p k (zoomed p (m + k) t).next ∙ sym (comes-shift p (m + k) t k) ∙ ap (λ (w : ℕ). comes p w t (suc k)) (sym (add-suc m k))

-- ---- of a build

module _ (G : Given) where
  -- the finest came as the lamps
  pub came-first : came G (max_z G + 1) ≡ lamps_in G
  unfolding came comes
  came-first =
      let e : max_z G + 1 - (max_z G + 1) ≡ 0 = omega arith in
      ap (comes (plan G) (max_z G + 1) (lamps_in G)) e

  -- table z is what the zoom z made of table z + 1
  pub came-next : (z : ℕ) → z ≤ max_z G → came G z ≡ (zoomed (plan G) z (came G (suc z))).next
  unfolding came comes
  came-next z h =
      let p = plan G in
      let top = max_z G + 1 in
      let F = lamps_in G in
      let e : top - z ≡ suc (top - suc z) = omega arith in
      let f : top - suc (top - suc z) ≡ z = omega arith in
      ap (comes p top F) e ∙ ap (λ (w : ℕ). (zoomed p w (comes p top F (top - suc z))).next) f

  module _ (w : min_z G ≤ max_z G) where
    top-is : min_z G + zooms_of G.options ≡ max_z G + 1
    top-is = omega arith

    -- table z + 1 of the build is what the zoom z left of it
    pub table-left : (z : ℕ) → min_z G ≤ z → z ≤ max_z G → table_of_zoom G (suc z) ≡ (zoomed (plan G) z (came G (suc z))).table
    unfolding table_of_zoom tables_of came
    table-left z h k =
        let p = plan G in
        let F = lamps_in G in
        let j = max_z G + 1 - suc z in
        let e : min_z G + zooms_of G.options - suc j ≡ z = omega arith in
        run_at p (zooms_of G.options) F j (omega arith)
        ∙ ap₂ (λ (v : ℕ) (q : Table). (zoomed p v q).table) e (ap (λ (v : ℕ). comes p v F j) top-is)

    -- the last table of the build is as it came
    pub table-last : table_of_zoom G (min_z G) ≡ came G (min_z G)
    unfolding table_of_zoom tables_of came
    table-last =
        let p = plan G in
        let F = lamps_in G in
        run-last p (zooms_of G.options) F ∙ ap (λ (v : ℕ). comes p v F (zooms_of G.options)) top-is

-- ---- what holds of the finest, and of a table where it holds of the one before, holds of each

pub down : (P : ℕ → Type 0) (low top : ℕ) → P top → ((z : ℕ) → low ≤ z → z < top → P (suc z) → P z) → (z : ℕ) → low ≤ z → z ≤ top → P z
down P low top a f z h k = go (top - z) z h (omega arith)
  where
    go : (d z : ℕ) → low ≤ z → z + d ≡ top → P z
    go zero z h e = let q : top ≡ z = omega arith in subst P q a
    go (suc d) z h e = f z h (omega arith) (go d (suc z) (omega arith) (omega arith))
