-- Of every build that is accepted: each zoom is one zoom of the groups. The own place of each entry is answered around it, each place of
-- the table is in one group, and a group is a copy of one entry or the cluster of its members by SCOPE. Assumes nothing.
use Rattle.std.specs.Prelude.{◌≡◌, List, map, ℕ, zero, suc, ◌+◌, ◌≤◌, ◌<◌, length}
use Rattle.std.proofs.Common.{sym, ap, ◌∙◌, arith, add-suc}
use Rattle.std.proofs.Math.Path.{subst}
use Rattle.kdslots.specs.laws.All.{all_of}
use Rattle.kdslots.specs.laws.Members.{In, Distinct}
use Rattle.build_tables.specs.laws.Bounds.{options-are}
use Rattle.build_tables.specs.declared.Entry.{Entry}
use Rattle.build_tables.specs.Entries.{Table, entry, none}
use Rattle.build_tables.specs.Radius.{radius_at}
use Rattle.law_groups.specs.Groups.{Group, entry_of, around}
use Rattle.law_groups.specs.laws.OneZoom.{OneZoom}
use Rattle.build_all_zooms.specs.Zooms.{Plan, near_in, zoomed, zooms_of}
use Rattle.build_all_zooms.specs.laws.Running.{Able}
use Rattle.supercluster.specs.Build.{converted_all}
use Rattle.supercluster.specs.laws.Fill.{lamps, finest-fine, finest-total}
use Rattle.supercluster.specs.laws.Ready.{able}
use Rattle.law_builds.specs.Given.{Given, AcceptedBuild, points, min_z, max_z, plan, lamps_in, lamps_in-length, lamps_in-at}
use Rattle.law_builds.specs.Came.{came, came-first, came-next, table_of_zoom, table-left, down}
use Rattle.law_builds.specs.Steps.{Coming, Grouped, Lone, near_at, groups_on, zoom-grouped, coming-next}

-- the places that the zoom z answers around each place of table z + 1
abbrev pub near_by : Given → ℕ → ℕ → List ℕ
near_by G z = around (near_at (plan G) z (came G (suc z))) (came G (suc z))

-- the groups that the zoom z makes of table z + 1
unfoldable pub groups_by : Given → ℕ → List Group
groups_by G z = groups_on (plan G) z (came G (suc z))

-- what the zoom z of a build is: table z + 1 came, was marked as the build has it, and table z came of it as the groups' entries
pub record Zoom (G : Given) (z : ℕ) : Type 0 where
  pub own : (i : ℕ) → i < length (came G (suc z)) → In i (near_by G z i)
  pub once : (i : ℕ) → Distinct (near_by G z i)
  pub groups : OneZoom (points G) G.options.min_points z (near_by G z) (came G (suc z)) (table_of_zoom G (suc z)) (groups_by G z)
  pub next : came G z ≡ map entry_of (groups_by G z)

-- each zoom from the table t on, k zooms being left: what it is, and then those of the next table
unfoldable pub Stepwise : Plan → ℕ → Table → Type 0
Stepwise p zero t = Unit
Stepwise p (suc k) t = Grouped p (p.options.min_zoom + k) t × Stepwise p k (zoomed p (p.options.min_zoom + k) t).next

pub run-grouped : (p : Plan) → Able p → (k : ℕ) (t : Table) → p.options.min_zoom + k ≤ 31 → Coming p (p.options.min_zoom + k) t
    → Stepwise p k t
unfolding Stepwise
run-grouped p a zero t h c = tt
run-grouped p a (suc k) t h c =
    let z = p.options.min_zoom + k in
    let d : Coming p (suc (p.options.min_zoom + k)) t = rw (add-suc p.options.min_zoom k) at c in
    (zoom-grouped p a z t (omega arith) d, run-grouped p a k (zoomed p z t).next (omega arith) (coming-next p a z t (omega arith) d))

module _ (G : Given) (a : AcceptedBuild G) where
  low : min_z G ≤ max_z G
  low = (options-are G.options a.options).zooms

  high : max_z G ≤ 30
  high = (options-are G.options a.options).zoom-to

  first : Coming (plan G) (max_z G + 1) (lamps_in G)
  first =
      let ps = converted_all G.options.coordinate_system G.xs G.ys in
      let l = lamps_in-length G a in
      record {
        fine = finest-fine ps G.energies 0 (max_z G + 1) (omega (arith, high)) a.inside;
        lamps = finest-total ps G.energies 0 ∙ l;
        few = omega (arith, l);
        lone = all_of Lone (lamps_in G) none (λ i h. ap (λ (e : Entry). e.parent) (lamps_in-at G a i (omega (arith, l, h))));
      }

  -- each table as it came
  pub came-coming : (z : ℕ) → min_z G ≤ z → z ≤ max_z G + 1 → Coming (plan G) z (came G z)
  came-coming =
      down (λ z. Coming (plan G) z (came G z)) (min_z G) (max_z G + 1)
      (subst (λ (t : Table). Coming (plan G) (max_z G + 1) t) (sym (came-first G)) first)
      (λ z h k c. subst (λ (t : Table). Coming (plan G) z t) (sym (came-next G z (omega arith)))
      (coming-next (plan G) (able G.options G.xs G.ys G.energies a) z (came G (suc z)) (omega (arith, high)) c))

  -- each zoom, one after the other as `run` has them
  pub run-of-build : Stepwise (plan G) (zooms_of G.options) (lamps_in G)
  run-of-build =
      let t = high in
      let l = low in
      let e : max_z G + 1 ≡ min_z G + zooms_of G.options = omega arith in
      run-grouped (plan G) (able G.options G.xs G.ys G.energies a) (zooms_of G.options) (lamps_in G) (omega arith)
      (subst (λ (z : ℕ). Coming (plan G) z (lamps_in G)) e first)

  -- each zoom, by its number
  pub groups-of-build : (z : ℕ) → min_z G ≤ z → z ≤ max_z G → Zoom G z
  unfolding groups_by
  groups-of-build z h k =
      let T = came G (suc z) in
      let g = zoom-grouped (plan G) (able G.options G.xs G.ys G.energies a) z (came G (suc z)) (omega (arith, high))
      (came-coming (suc z) (omega arith) (omega arith)) in
      record {
        own = g.own;
        once = λ i. g.once (entry T i).x (entry T i).y;
        groups =
            subst (λ (t : Table). OneZoom (points G) G.options.min_points z (near_by G z) T t (groups_on (plan G) z T))
            (sym (table-left G low z h k)) g.groups;
        next = came-next G z k ∙ g.next;
      }

  -- the own place of each entry of table z + 1, as it came to the zoom z, is answered around it
  pub own-of-build : (z : ℕ) → min_z G ≤ z → z ≤ max_z G → (i : ℕ) → i < length (came G (suc z)) →
      In i (near_in G.options.node_size (radius_at G.options.radius G.options.extent z) (came G (suc z))
      (entry (came G (suc z)) i).x (entry (came G (suc z)) i).y)
  own-of-build z h k = (groups-of-build z h k).own
