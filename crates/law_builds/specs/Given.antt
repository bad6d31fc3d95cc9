-- What a build is given, as one record: every law on a build takes that, and that it is within bounds. And the points as the finest table
-- has them. Assumes nothing.
use Rattle.std.specs.Prelude.{◌≡◌, List, ℕ, ◌<◌, length, get_or, Float}
use Rattle.std.specs.Float.{nan}
use Rattle.range.specs.Range.{converted}
use Rattle.build_tables.specs.declared.Entry.{Entry}
use Rattle.build_tables.specs.declared.Options.{Options}
use Rattle.build_tables.specs.Entries.{Table, entry}
use Rattle.build_one_zoom.specs.laws.Lamps.{sum_of}
use Rattle.build_one_zoom.specs.Zoom.{energy_of}
use Rattle.build_all_zooms.specs.Zooms.{Plan, zoom_plan}
use Rattle.supercluster.specs.Build.{lamp, tables_of}
use Rattle.supercluster.specs.laws.Fill.{lamps, lamps-length, lamps-at}
use Rattle.supercluster.specs.laws.Ready.{Accepted as Accepts}

-- the options, and the points with their energies
pub record Given : Type 0 where
  pub options : Options
  pub xs : List Float
  pub ys : List Float
  pub energies : List ℕ

abbrev pub given_build : Options → List Float → List Float → List ℕ → Given
given_build o xs ys ws = record { options = o; xs = xs; ys = ys; energies = ws }

-- what is given is within bounds, as it is in every accepted build; of the lent columns nothing is asked
abbrev pub AcceptedBuild : Given → Type 0
AcceptedBuild G = Accepts G.options G.xs G.ys G.energies

-- how many points there are
abbrev pub points : Given → ℕ
points G = length G.xs

-- the zooms from the smallest to the largest
abbrev pub min_z : Given → ℕ
min_z G = G.options.min_zoom

abbrev pub max_z : Given → ℕ
max_z G = G.options.max_zoom

abbrev pub plan : Given → Plan
plan G = zoom_plan G.options (points G)

-- every table, the finest first
abbrev pub tables_of_build : Given → List Table
tables_of_build G = tables_of G.options G.xs G.ys G.energies

-- the points as entries, in order
abbrev pub lamps_in : Given → Table
lamps_in G = lamps G.options.coordinate_system G.xs G.ys G.energies

-- what their energies add up to
abbrev pub energy_in : Given → ℕ
energy_in G = sum_of energy_of (lamps_in G)

-- the energy of the point k, and the point
abbrev pub energy_at : Given → ℕ → ℕ
energy_at G k = get_or G.energies k 0

abbrev pub lamp_of : Given → ℕ → Entry
lamp_of G k = lamp (converted G.options.coordinate_system (record { x = get_or G.xs k nan; y = get_or G.ys k nan })) (energy_at G k) k

module _ (G : Given) (a : AcceptedBuild G) where
  pub lamps_in-length : length (lamps_in G) ≡ points G
  lamps_in-length = lamps-length G.options.coordinate_system G.xs G.ys G.energies a.same

  pub lamps_in-at : (k : ℕ) → k < points G → entry (lamps_in G) k ≡ lamp_of G k
  lamps_in-at = lamps-at G.options.coordinate_system G.xs G.ys G.energies a.same
