-- Two builds that differ in the energy of one lamp: both are accepted, their tables differ in the energies of that lamp's owners alone, and
-- there by what the figure changes. Assumes nothing.
use Rattle.std.specs.Prelude.{◌≡◌, refl, Bool, true, false, ℕ, ◌+◌, ◌-◌, ◌^◌, ◌<◌, ◌≤◌, eqb, get_or, set}
use Rattle.std.proofs.Math.Path.{sym, ap}
use Rattle.std.proofs.Common.{◌∙◌, subst, arith, ne_eqb, eqb-true, lit≤, length-set, get_or-set_same, get_or-set_other, ext_get_or}
use mathlib.Core.List.{List, [], map}
use Rattle.std.proofs.lemmas.Bool.{eqb-false}
use Rattle.std.proofs.Math.ListN.{length, length-map, get_or-map}
use Rattle.build_tables.specs.Entries.{Table, entry, none, energies_of}
use Rattle.build_one_zoom.specs.laws.Bare.{bare, bares}
use Rattle.supercluster.specs.Build.{most_energy}
use Rattle.law_groups.specs.Sums.{gate, sum, range}
use Rattle.law_groups.specs.laws.Sums.{eqb_same, sum-ext, range-in}
use Rattle.law_builds.specs.Given.{Given, given_build, AcceptedBuild, points, min_z, max_z, tables_of_build, energy_at}
use Rattle.law_builds.specs.Came.{table_of_zoom}
use Rattle.law_builds.specs.Energies.{same-but-energy}
use Rattle.law_lamps.specs.Owner.{owner}
use Rattle.law_lamps.specs.laws.Owners.{owner-in}
use Rattle.law_lamps.specs.laws.Gather.{range-below}
use Rattle.law_lamps.specs.laws.Carries.{energy-owned, energies-together, energies-few}
use Rattle.build_owners.specs.OwnerColumn.{owner_in}
use Rattle.build_owners.specs.laws.ClimbableBuilds.{owner-kept}
use Rattle.posting.specs.Post.{replaced}
use Rattle.law_posting.specs.Bare.{owner-bare}
use Rattle.law_posting.specs.Figures.{sum-has, sum-changed}

-- the same build with another figure for a lamp
abbrev pub with_figure : Given → ℕ → ℕ → Given
with_figure G lamp figure = given_build G.options G.xs G.ys (set G.energies lamp figure)

-- what does not depend on energies is the same of both
pub by_bare : {B : Type 0} (F : List Table → B) → ((ts : List Table) → F (map bares ts) ≡ F ts) → (G : Given) (lamp figure : ℕ)
    → F (tables_of_build G) ≡ F (tables_of_build (with_figure G lamp figure))
by_bare F h G lamp figure =
    sym (h (tables_of_build G)) ∙ ap F (same-but-energy G.options G.xs G.ys G.energies (set G.energies lamp figure))
    ∙ h (tables_of_build (with_figure G lamp figure))

-- an energy, in the list of a table's energies
pub energy-at : (v : Table) (j : ℕ) → get_or (energies_of v) j 0 ≡ (entry v j).energy
energy-at v j = get_or-map (λ e. e.energy) v j none

module _ (G : Given) (a : AcceptedBuild G) (lamp figure : ℕ) (h : lamp < points G) (f : figure ≤ most_energy) where
  abbrev H : Given
  H = with_figure G lamp figure

  -- the figure stands in the place of the lamp's, every other stays
  pub here : energy_at (with_figure G lamp figure) lamp ≡ figure
  here = get_or-set_same G.energies lamp figure 0 (omega (arith, a.weighed, h))

  there : (k : ℕ) → (k ≡ lamp → ⊥) → energy_at (with_figure G lamp figure) k ≡ energy_at G k
  there k n = get_or-set_other G.energies lamp k figure 0 n

  pub light : (k : ℕ) → energy_at (with_figure G lamp figure) k ≤ most_energy
  light k = go (eqb k lamp) refl
    where
      go : (b : Bool) → eqb k lamp ≡ b → energy_at (with_figure G lamp figure) k ≤ most_energy
      go true q = subst (λ (v : ℕ). v ≤ most_energy) (sym (ap (energy_at H) (eqb-true k lamp q) ∙ here)) f
      go false q = subst (λ (v : ℕ). v ≤ most_energy) (sym (there k (eqb-false k lamp q))) (a.light k)

  pub accepted-too : AcceptedBuild (with_figure G lamp figure)
  accepted-too =
      record {
        options = a.options;
        same = a.same;
        weighed = length-set G.energies lamp figure ∙ a.weighed;
        some = a.some;
        few = a.few;
        inside = a.inside;
        light = light;
      }

  -- ---- one table

  module _ (z : ℕ) (lo : min_z G ≤ z) (hi : z ≤ max_z G + 1) where
    abbrev t : Table
    t = table_of_zoom G z

    abbrev u : Table
    u = table_of_zoom (with_figure G lamp figure) z

    abbrev n : ℕ
    n = points G

    abbrev q : ℕ
    q = owner G z lamp

    pub owner-same : (l : ℕ) → l < points G → owner (with_figure G lamp figure) z l ≡ owner G z l
    owner-same l w =
        sym (owner-kept H accepted-too z lo hi l w)
        ∙ sym (by_bare (λ ts. owner_in ts (max_z G + 1 - z) l) (λ ts. owner-bare ts (max_z G + 1 - z) l) G lamp figure)
        ∙ owner-kept G a z lo hi l w

    pub long_same : length (table_of_zoom (with_figure G lamp figure) z) ≡ length (table_of_zoom G z)
    unfolding table_of_zoom
    long_same = sym (by_bare (λ ts. length (get_or ts (max_z G + 1 - z) [])) long G lamp figure)
      where
        long : (ts : List Table) → length (get_or (map bares ts) (max_z G + 1 - z) []) ≡ length (get_or ts (max_z G + 1 - z) [])
        long ts = ap length (get_or-map bares ts (max_z G + 1 - z) []) ∙ length-map (get_or ts (max_z G + 1 - z) []) bare

    -- what the lamp l adds to the entry j, before and after
    abbrev adds : ℕ → ℕ → ℕ
    adds j l = gate (eqb (owner G z l) j) (energy_at G l)

    abbrev brings : ℕ → ℕ → ℕ
    brings j l = gate (eqb (owner G z l) j) (energy_at (with_figure G lamp figure) l)

    sum-after : (j : ℕ) → j < length (table_of_zoom G z)
        → (entry (table_of_zoom (with_figure G lamp figure) z) j).energy ≡ sum (brings j) (range 0 (points G))
    sum-after j w =
        energy-owned H accepted-too z lo hi j (omega (arith, w, long_same))
        ∙ sum-ext (λ l. gate (eqb (owner H z l) j) (energy_at H l)) (brings j) (range 0 n)
        (λ k m. ap (λ (o : ℕ). gate (eqb o j) (energy_at H k)) (owner-same k (range-below n k m)))

    changed : (j : ℕ) → sum (brings j) (range 0 (points G)) + adds j lamp ≡ sum (adds j) (range 0 (points G)) + brings j lamp
    changed j =
        sum-changed (adds j) (brings j) lamp (range 0 n) (range-in 0 n lamp (omega arith) (omega (arith, h)))
        (λ k m. ap (gate (eqb (owner G z k) j)) (there k m))

    -- the sum of the lamp's owner
    pub owner-place : owner G z lamp < length (table_of_zoom G z)
    owner-place = owner-in G a z lo hi lamp h

    pub owner-has : energy_at G lamp ≤ (entry (table_of_zoom G z) (owner G z lamp)).energy
    owner-has =
        let e = ap (λ (b : Bool). gate b (energy_at G lamp)) (eqb_same q) in
        omega (
          arith,
          energy-owned G a z lo hi q owner-place,
          sum-has (adds q) lamp (range 0 n) (range-in 0 n lamp (omega arith) (omega (arith, h))),
          e,
        )

    pub owner-after : (entry (table_of_zoom (with_figure G lamp figure) z) (owner G z lamp)).energy
        ≡ replaced (energy_at G lamp) figure (entry (table_of_zoom G z) (owner G z lamp)).energy
    owner-after =
        let e : adds q lamp ≡ energy_at G lamp = ap (λ (b : Bool). gate b (energy_at G lamp)) (eqb_same q) in
        let g : brings q lamp ≡ figure = ap (λ (b : Bool). gate b (energy_at H lamp)) (eqb_same q) ∙ here in
        omega (arith, changed q, e, g, sum-after q owner-place, energy-owned G a z lo hi q owner-place, owner-has)

    -- that of any other entry
    pub other_after : (j : ℕ) → j < length (table_of_zoom G z) → (j ≡ owner G z lamp → ⊥)
        → (entry (table_of_zoom (with_figure G lamp figure) z) j).energy ≡ (entry (table_of_zoom G z) j).energy
    other_after j w m =
        let no = ne_eqb q j (λ k. m (sym k)) in
        let e : adds j lamp ≡ 0 = ap (λ (b : Bool). gate b (energy_at G lamp)) no in
        let g : brings j lamp ≡ 0 = ap (λ (b : Bool). gate b (energy_at H lamp)) no in
        omega (arith, changed j, e, g, sum-after j w, energy-owned G a z lo hi j w)

    -- no sum passes 2^60
    pub owner-fits : (entry (table_of_zoom (with_figure G lamp figure) z) (owner G z lamp)).energy < 2 ^ 64
    owner-fits =
        let w : q < length u = omega (arith, owner-place, long_same) in
        let s = sum-has (λ j. (entry u j).energy) q (range 0 (length u)) (range-in 0 (length u) q (omega arith) (omega (arith, w))) in
        let e : 2 ^ 60 < 2 ^ 64 = lit≤ tt in
        omega (arith, s, energies-together H accepted-too z lo hi, energies-few H accepted-too, e)

    -- so the energies of the table, as a list
    pub energies-after : energies_of (table_of_zoom (with_figure G lamp figure) z)
        ≡ set (energies_of (table_of_zoom G z)) (owner G z lamp)
        (replaced (energy_at G lamp) figure (get_or (energies_of (table_of_zoom G z)) (owner G z lamp) 0))
    energies-after = ext_get_or 0 (energies_of u) (set (energies_of t) q v) long (λ j w. go j w (eqb j q) refl)
      where
        v : ℕ
        v = replaced (energy_at G lamp) figure (get_or (energies_of (table_of_zoom G z)) (owner G z lamp) 0)

        long : length (energies_of u) ≡ length (set (energies_of t) q v)
        long = length-map u (λ e. e.energy) ∙ long_same ∙ sym (length-set (energies_of t) q v ∙ length-map t (λ e. e.energy))

        go : (j : ℕ) → j < length (energies_of u) → (b : Bool) → eqb j q ≡ b → get_or (energies_of u) j 0 ≡ get_or (set (energies_of t) q v) j 0
        go j w true e =
            let k = eqb-true j q e in
            energy-at u j ∙ ap (λ (i : ℕ). (entry u i).energy) k ∙ owner-after
            ∙ ap (replaced (energy_at G lamp) figure) (sym (energy-at t q))
            ∙ sym (ap (λ (i : ℕ). get_or (set (energies_of t) q v) i 0) k
            ∙ get_or-set_same (energies_of t) q v 0 (omega (arith, owner-place, length-map t (λ e. e.energy))))
        go j w false e =
            let k = eqb-false j q e in
            energy-at u j ∙ other_after j (omega (arith, w, length-map u (λ e. e.energy), long_same)) k ∙ sym (energy-at t j)
            ∙ sym (get_or-set_other (energies_of t) q j v 0 k)
