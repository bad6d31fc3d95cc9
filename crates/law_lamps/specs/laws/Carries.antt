-- Of every accepted build, said once of any number that entries carry: what an entry of any table carries is the sum over its lamps of what
-- they carry in the finest table, so the sum over the lamps that it owns; and the entries of a table carry together what the lamps do. The
-- instances: nums, of which a lamp's is 1, and energies, of which a lamp's is the given one. Assumes nothing.
use Rattle.std.specs.Prelude.{◌≡◌, ℕ, suc, ◌+◌, ◌^◌, ◌≤◌, ◌<◌, eqb, length}
use Rattle.std.proofs.Common.{sym, ap, ◌∙◌, arith, le_trans, le_refl, mul-le-mul, lit≤}
use Rattle.build_tables.specs.declared.Entry.{Entry}
use Rattle.build_tables.specs.Entries.{entry}
use Rattle.build_one_zoom.specs.laws.Lamps.{Carried, num-carried, energy-carried}
use Rattle.build_one_zoom.specs.Zoom.{num_of, energy_of}
use Rattle.law_groups.specs.Sums.{gate, one_if, sum, count, range}
use Rattle.law_groups.specs.laws.Sums.{sum-ext, sum-keep}
use Rattle.law_groups.specs.laws.Counts.{sum-permute}
use Rattle.law_groups.specs.Groups.{Group, entry_of, from}
use Rattle.law_groups.specs.laws.OneZoom.{fits-carry}
use Rattle.supercluster.specs.Build.{most_energy}
use Rattle.law_builds.specs.Given.{Given, AcceptedBuild, points, min_z, max_z, energy_at}
use Rattle.law_builds.specs.Came.{came, table_of_zoom, down}
use Rattle.law_builds.specs.GroupsOfBuild.{groups_by, near_by}
use Rattle.law_builds.specs.Places.{group_at}
use Rattle.law_builds.specs.Same.{same-carried, table_same}
use Rattle.law_lamps.specs.Owner.{owner, lamps_of}
use Rattle.law_lamps.specs.laws.Gather.{sum-gather, sum_ones, sum_bound, range_length, range-below}
use Rattle.law_lamps.specs.laws.Owners.{lamps-first, lamps-next, first-long, first-same, place-came, group-same, group-fits}
use Rattle.law_lamps.specs.laws.Owners.{group-member}
use Rattle.law_lamps.specs.laws.Owners.{lamps-owned, lamps-permute}

module _ (G : Given) (a : AcceptedBuild G) where
  -- f is a number that entries carry, and c l what it is of the lamp l
  module _ (f : Entry → ℕ) (C : Carried f) (c : ℕ → ℕ) (is : (l : ℕ) → l < points G → f (entry (table_of_zoom G (max_z G + 1)) l) ≡ c l) where
    -- what an entry of table z carries, by its lamps
    abbrev Sums : ℕ → Type 0
    Sums z = (j : ℕ) → j < length (table_of_zoom G z) → f (entry (table_of_zoom G z) j) ≡ sum c (lamps_of G z j)

    sums_first : Sums (max_z G + 1)
    sums_first j h = is j (let n = first-long G a in omega arith) ∙ alone (c j) ∙ ap (sum c) (sym (lamps-first G j))
      where
        alone : (n : ℕ) → n ≡ n + 0
        alone n = omega arith

    sums_next : (z : ℕ) → min_z G ≤ z → z ≤ max_z G → Sums (suc z) → Sums z
    sums_next z h k ih j q =
        let g : Group = group_at (groups_by G z) j in
        same-carried f C (entry (table_of_zoom G z) j) (entry_of g) (group-same G a z h k j q)
        ∙ fits-carry (points G) G.options.min_points z (near_by G z) (came G (suc z)) (table_of_zoom G (suc z)) f C g
        (group-fits G a z h k j q)
        ∙ sum-ext (λ i. f (entry (came G (suc z)) i)) (λ i. sum c (lamps_of G (suc z) i)) (from g) member
        ∙ sym (sum-gather c (λ i. lamps_of G (suc z) i) (from g))
        ∙ ap (sum c) (sym (lamps-next G z k j))
      where
        member : (i : ℕ) → 0 < count i (from (group_at (groups_by G z) j)) → f (entry (came G (suc z)) i) ≡ sum c (lamps_of G (suc z) i)
        member i m =
            let l = group-member G a z h k j q i m in
            let s = (table_same G a (suc z) (omega arith) (omega arith)).each i (place-came G a z h k i l) in
            sym (same-carried f C (entry (table_of_zoom G (suc z)) i) (entry (came G (suc z)) i) s) ∙ ih i l

    pub carried-lamps : (z : ℕ) → min_z G ≤ z → z ≤ max_z G + 1 → Sums z
    carried-lamps = down Sums (min_z G) (max_z G + 1) sums_first (λ z h k ih. sums_next z h (omega arith) ih)

    -- by the lamps that it owns
    pub carried-owned : (z : ℕ) → min_z G ≤ z → z ≤ max_z G + 1 → (j : ℕ) → j < length (table_of_zoom G z) →
        f (entry (table_of_zoom G z) j) ≡ sum (λ l. gate (eqb (owner G z l) j) (c l)) (range 0 (points G))
    carried-owned z h k j q =
        carried-lamps z h k j q ∙ sum-permute c (lamps-owned G a z h k j q) ∙ sum-keep c (λ l. eqb (owner G z l) j) (range 0 (points G))

    -- what the entries of a table carry together
    pub carried-together : (z : ℕ) → min_z G ≤ z → z ≤ max_z G + 1 →
        sum (λ j. f (entry (table_of_zoom G z) j)) (range 0 (length (table_of_zoom G z))) ≡ sum c (range 0 (points G))
    carried-together z h k =
        let n = length (table_of_zoom G z) in
        sum-ext (λ j. f (entry (table_of_zoom G z) j)) (λ j. sum c (lamps_of G z j)) (range 0 n)
        (λ j m. carried-lamps z h k j (range-below n j m))
        ∙ sym (sum-gather c (λ j. lamps_of G z j) (range 0 n)) ∙ sum-permute c (lamps-permute G a z h k)

  -- ---- nums: 1 of each lamp

  lamp-num : (l : ℕ) → l < points G → (entry (table_of_zoom G (max_z G + 1)) l).num ≡ 1
  lamp-num l h = ap num_of (first-same G a l h)

  -- an entry's num is the length of the list of its lamps
  pub lamps-long : (z : ℕ) → min_z G ≤ z → z ≤ max_z G + 1 → (j : ℕ) → j < length (table_of_zoom G z) →
      (entry (table_of_zoom G z) j).num ≡ length (lamps_of G z j)
  lamps-long z h k j q = carried-lamps num_of num-carried (λ l. 1) lamp-num z h k j q ∙ sum_ones (lamps_of G z j)

  -- and the number of the lamps that it owns
  pub num-owned : (z : ℕ) → min_z G ≤ z → z ≤ max_z G + 1 → (j : ℕ) → j < length (table_of_zoom G z) →
      (entry (table_of_zoom G z) j).num ≡ sum (λ l. one_if (eqb (owner G z l) j)) (range 0 (points G))
  num-owned = carried-owned num_of num-carried (λ l. 1) lamp-num

  -- those of a table add up to the number of lamps
  pub nums-together : (z : ℕ) → min_z G ≤ z → z ≤ max_z G + 1 →
      sum (λ j. (entry (table_of_zoom G z) j).num) (range 0 (length (table_of_zoom G z))) ≡ points G
  nums-together z h k =
      carried-together num_of num-carried (λ l. 1) lamp-num z h k ∙ sum_ones (range 0 (points G)) ∙ range_length 0 (points G)

  -- ---- energies: the given one of each lamp

  pub lamp-energy : (l : ℕ) → l < points G → (entry (table_of_zoom G (max_z G + 1)) l).energy ≡ energy_at G l
  lamp-energy l h = ap energy_of (first-same G a l h)

  -- an entry's energy is the sum of the given energies over the lamps that it owns
  pub energy-owned : (z : ℕ) → min_z G ≤ z → z ≤ max_z G + 1 → (j : ℕ) → j < length (table_of_zoom G z) →
      (entry (table_of_zoom G z) j).energy ≡ sum (λ l. gate (eqb (owner G z l) j) (energy_at G l)) (range 0 (points G))
  energy-owned = carried-owned energy_of energy-carried (energy_at G) lamp-energy

  -- those of a table add up to the given energies
  pub energies-together : (z : ℕ) → min_z G ≤ z → z ≤ max_z G + 1 →
      sum (λ j. (entry (table_of_zoom G z) j).energy) (range 0 (length (table_of_zoom G z))) ≡ sum (energy_at G) (range 0 (points G))
  energies-together = carried-together energy_of energy-carried (energy_at G) lamp-energy

  -- which are at most 2^40 each, so that no sum of them passes 2^60
  pub energies-few : sum (energy_at G) (range 0 (points G)) ≤ 2 ^ 60
  energies-few =
      let b = sum_bound most_energy (energy_at G) a.light (range 0 (points G)) in
      let n = range_length 0 (points G) in
      let m : length (range 0 (points G)) ≤ 1048576 = omega (arith, n, a.few) in
      le_trans b (le_trans (mul-le-mul m (le_refl most_energy)) (lit≤ tt))
