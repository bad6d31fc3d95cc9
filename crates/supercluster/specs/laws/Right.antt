-- Of every build that is accepted: each entry of each table lies from 0 to 1 and counts one lamp or more, each table counts the lamps,
-- once each, and has 1 to N entries; and all tables together have no more entries than a lent column has to hold. Assumes nothing.
use Rattle.std.specs.Prelude.{◌≡◌, refl, List, [], ◌∷◌, length, Float}
use Rattle.std.proofs.Common.{ap, ◌∙◌, arith, le_trans, add-suc, suc-mul, lit≤, length-append}
use Prim.Native.Nat.{ℕ, zero, suc, ◌+◌, ◌*◌, ◌≤◌}
use Rattle.kdslots.specs.declared.Query.TheVariants.{Within}
use Rattle.kdslots.specs.laws.All.{All, all_map}
use Rattle.kdslots.specs.laws.Members.{Distinct}
use Rattle.build_tables.specs.laws.Bounds.{options-are}
use Rattle.build_tables.specs.Entries.{Table}
use Rattle.build_tables.specs.laws.Roomy.{Roomy}
use Rattle.build_tables.specs.Radius.{radius_at}
use Rattle.build_tables.specs.declared.Options.{Options}
use Rattle.build_one_zoom.specs.laws.Lamps.{sum_of, lamp_total}
use Rattle.build_one_zoom.specs.Zoom.{energy_of}
use Rattle.build_one_zoom.specs.laws.Sound.{Body, Next, cluster-sound}
use Rattle.build_all_zooms.specs.Zooms.{near_in, Plan, zoom_plan, zoomed, run_zooms, zooms_of, joined}
use Rattle.build_all_zooms.specs.laws.Running.{Able, total-some, slots-promised}
use Rattle.supercluster.specs.Build.{converted_all, tables_of, need, BuildColumns, written}
use Rattle.supercluster.specs.laws.Fill.{lamps-length, finest-fine, finest-total, lamps}
use Rattle.supercluster.specs.laws.Over.{roomy-over}
use Rattle.supercluster.specs.laws.Ready.{Accepted, need-some, able}

-- what is true of a table of a build of n lamps
pub record Right (n w : ℕ) (t : Table) : Type 0 where
  pub unit : All Body t
  pub lamps : lamp_total t ≡ n
  pub energies : sum_of energy_of t ≡ w
  pub some : 1 ≤ length t
  pub few : length t ≤ n

module _ (p : Plan) (a : Able p) where
  near-once : (t : Table) → All Body t → 1 ≤ length t → length t ≤ 1048576 → (rad qx qy : Float)
      → Distinct (near_in p.options.node_size rad t qx qy)
  near-once t b s m rad qx qy = (slots-promised p.options.node_size t a.size-from a.size-to s m b).once (Within qx qy rad)

  pub run-right : (k : ℕ) (t : Table) → p.options.min_zoom + k ≤ 31 → All (Next (p.options.min_zoom + k)) t → lamp_total t ≡ p.count
      → length t ≤ p.count → (w : ℕ) → sum_of energy_of t ≡ w → All (Right p.count w) (run_zooms p k t)
  unfolding run_zooms All
  run-right zero t h f e l w j =
      let s = total-some t (omega (arith, e, a.some)) in
      (record { unit = all_map (Next (p.options.min_zoom + 0)) Body (λ e q. q.0) t f; lamps = e; energies = j; some = s; few = l }, tt)
  run-right (suc k) t h f e l w j =
      let z = p.options.min_zoom + k in
      let s = total-some t (omega (arith, e, a.some)) in
      let b = all_map (Next (p.options.min_zoom + suc k)) Body (λ e q. q.0) t f in
      let few : lamp_total t ≤ 1048576 = omega (arith, e, a.few) in
      let rad = radius_at p.options.radius p.options.extent z in
      let d = cluster-sound p.count p.options.min_points z (near_in p.options.node_size rad t)
      (near-once t b s (omega (arith, l, a.few)) rad) t (rw (add-suc p.options.min_zoom k) at f) (le_trans few (lit≤ tt))
      (omega (arith, h)) in (
        record {
          unit = d.body;
          lamps = d.lamps-kept ∙ e;
          energies = d.energies-kept ∙ j;
          some = omega (arith, d.long, s);
          few =
              omega (arith, d.long, l);
        },
        run-right k (zoomed p z t).next (omega (arith, h)) d.next (d.lamps ∙ e) (omega (arith, d.shorter, l)) w (d.energies ∙ j),
      )

-- every table of an accepted build
pub tables-right : (o : Options) (xs ys : List Float) (ws : List ℕ) → Accepted o xs ys ws
    → All (Right (length xs) (sum_of energy_of (lamps o.coordinate_system xs ys ws))) (tables_of o xs ys ws)
unfolding tables_of
tables-right o xs ys ws a =
    let z = options-are o a.options in
    let c = o.coordinate_system in
    let ps = converted_all o.coordinate_system xs ys in
    let l = lamps-length o.coordinate_system xs ys ws a.same in
    run-right (zoom_plan o (length xs)) (able o xs ys ws a) (zooms_of o) (lamps c xs ys ws) (omega (arith, z.zooms, z.zoom-to))
    (finest-fine ps ws 0 (o.min_zoom + zooms_of o) (omega (arith, z.zooms, z.zoom-to)) a.inside)
    (finest-total ps ws 0 ∙ l) (omega (arith, l)) (sum_of energy_of (lamps c xs ys ws)) refl

-- ---- how many there are

run_length : (p : Plan) (k : ℕ) (t : Table) → length (run_zooms p k t) ≡ suc k
unfolding run_zooms
run_length p zero t = refl
run_length p (suc k) t = ap suc (run_length p k (zoomed p (p.options.min_zoom + k) t).next)

-- a build has one table more than zooms
pub tables-count : (o : Options) (xs ys : List Float) (ws : List ℕ) → length (tables_of o xs ys ws) ≡ suc (zooms_of o)
unfolding tables_of
tables-count o xs ys ws = run_length (zoom_plan o (length xs)) (zooms_of o) (lamps o.coordinate_system xs ys ws)

each-few : (n w : ℕ) (ts : List Table) → All (Right n w) ts → length (joined ts) ≤ length ts * n
unfolding All joined
each-few n w [] e = omega arith
each-few n w (t ∷ ts) e = omega (arith, length-append t (joined ts), e.0.few, each-few n w ts e.1, suc-mul (length ts) n)

-- what a lent column has to hold holds the tables
pub tables-room : (o : Options) (xs ys : List Float) (ws : List ℕ) → Accepted o xs ys ws
    → length (joined (tables_of o xs ys ws)) ≤ need o (length xs)
tables-room o xs ys ws a =
    let z = options-are o a.options in
    let e : length (tables_of o xs ys ws) * length xs ≡ zooms_of o * length xs + length xs =
    ap (λ (k : ℕ). k * length xs) (tables-count o xs ys ws) ∙ suc-mul (zooms_of o) (length xs) in
    let w = sum_of energy_of (lamps o.coordinate_system xs ys ws) in
    omega (arith, each-few (length xs) w (tables_of o xs ys ws) (tables-right o xs ys ws a), e, need-some o (length xs) z.zooms)

-- and has as much room once they are written
pub roomy-written : (o : Options) (xs ys : List Float) (ws : List ℕ) (l : BuildColumns) → Accepted o xs ys ws
    → Roomy (need o (length xs)) l.table
    → Roomy (need o (length xs)) (written o.node_size (length xs) (tables_of o xs ys ws) l).table
unfolding written
roomy-written o xs ys ws l a r =
    roomy-over (need o (length xs)) (joined (tables_of o xs ys ws)) l.table (tables-room o xs ys ws a) r
