-- What supercluster shows of each table of an accepted build, by table number: its entries lie from 0 to 1 and count one lamp or more, it
-- counts the lamps, once each, its energies add up to those given, and it has 1 to N entries. Assumes nothing.
use Rattle.std.specs.Prelude.{[], ℕ, ◌+◌, ◌-◌, ◌≤◌}
use Rattle.std.proofs.Common.{arith}
use Rattle.kdslots.specs.laws.All.{all_get_d}
use Rattle.supercluster.specs.laws.Right.{Right, tables-right, tables-count}
use Rattle.law_builds.specs.Given.{Given, AcceptedBuild, points, min_z, max_z, tables_of_build, energy_in}
use Rattle.law_builds.specs.Came.{table_of_zoom}

pub right-at : (G : Given) → AcceptedBuild G → (z : ℕ) → min_z G ≤ z → z ≤ max_z G + 1 → Right (points G) (energy_in G) (table_of_zoom G z)
unfolding table_of_zoom
right-at G a z h k =
    let l = tables-count G.options G.xs G.ys G.energies in
    all_get_d (Right (points G) (energy_in G)) (tables_of_build G) (max_z G + 1 - z) []
    (tables-right G.options G.xs G.ys G.energies a) (omega arith)
