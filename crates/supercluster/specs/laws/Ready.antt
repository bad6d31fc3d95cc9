-- A build of what is within bounds: its first table is ready, and what the loop over the zooms leaves is the build. Assumes nothing.
use Rattle.std.specs.Prelude.{◌≡◌, true, List, ◌++◌, ℕ, suc, ◌+◌, ◌-◌, ◌*◌, ◌^◌, ◌≤◌, length, get_or, set, take, drop, replicate, Float}
use Rattle.std.proofs.Math.Path.{ap}
use Rattle.std.proofs.Common.{sym, ◌∙◌, subst, arith, mul-le-mul, suc-mul, le_trans, le_refl, lit≤}
use Rattle.std.proofs.Math.Seq.{take-append_seam}
use Rattle.kdslots.specs.laws.All.{All, all_map}
use Rattle.kdsort.specs.Cols.{IndexCols as Index}
use Rattle.kdbush.specs.Reply.{index_of}
use Rattle.build_tables.specs.laws.Bounds.{options-are}
use Rattle.build_tables.specs.Columns.{part}
use Rattle.build_tables.specs.laws.Columns.{xs-part, ys-part}
use Rattle.build_tables.specs.Entries.{Table, xs_of, ys_of}
use Rattle.build_tables.specs.Options.{options_ok}
use Rattle.build_tables.specs.Rows.{Cols, rows}
use Rattle.build_tables.specs.State.{new_state, with_table}
use Rattle.build_tables.specs.declared.Options.{Options}
use Rattle.build_tables.specs.declared.State.{State}
use Rattle.build_one_zoom.specs.laws.Lamps.{sum_of, lamp_total}
use Rattle.build_one_zoom.specs.Zoom.{energy_of}
use Rattle.build_one_zoom.specs.laws.Sound.{Body, Next}
use Rattle.build_all_zooms.specs.Zooms.{index_of_table, zoom_plan, run_zooms, zooms_of, joined, joined_ids, joined_co, laid_over, starts, lens}
use Rattle.kdbush.specs.laws.Indexed.{Inside}
use Rattle.build_all_zooms.specs.laws.Parts.{put_at, part-put}
use Rattle.build_all_zooms.specs.laws.Progress.{Finished, starts-again, lens-again}
use Rattle.build_all_zooms.specs.laws.Zooming.{part-index}
use Rattle.build_all_zooms.specs.laws.Running.{Able, Running, table-inside, slots-ids, slots-co}
use Rattle.supercluster.specs.Build.{converted_all, tables_of, built_state, need, most_energy}
use Rattle.supercluster.specs.laws.Fill.{lamps, lamps-length, converted-length, finest-fine, finest-total, finest-watts, pxs, pys}
use Rattle.supercluster.specs.laws.Over.{over-over, run_long}

-- what is refused neither 1, 2, 3 nor 15: what is given is within bounds, as it is in every accepted build; of the lent columns nothing is
-- asked
pub record Accepted (o : Options) (xs ys : List Float) (ws : List ℕ) : Type 0 where
  pub options : options_ok o ≡ true
  pub same : length ys ≡ length xs
  pub weighed : length ws ≡ length xs
  pub some : 1 ≤ length xs
  pub few : length xs ≤ 1048576
  pub inside : Inside (pxs (converted_all o.coordinate_system xs ys)) (pys (converted_all o.coordinate_system xs ys))
  pub light : (k : ℕ) → get_or ws k 0 ≤ most_energy

-- what a build leaves of columns that just hold it
pub record Made (o : Options) (xs ys : List Float) (ws : List ℕ) (s : State) (r r' : Table) (ids ids' : List ℕ) (co co' : List Float)
    (near' : List ℕ) : Type 0 where
  pub of-state : s ≡ built_state o (length xs) (tables_of o xs ys ws)
  pub of-rows : r' ≡ laid_over (joined (tables_of o xs ys ws)) r
  pub of-ids : ids' ≡ laid_over (joined_ids o.node_size (tables_of o xs ys ws)) ids
  pub of-co : co' ≡ laid_over (joined_co o.node_size (tables_of o xs ys ws)) co
  pub of-near : near' ≡ replicate (length xs + length xs) 0

-- the index of the first n entries of columns is that of the table's rows: its slots and their coordinates, as they are put down
module _ (size n : ℕ) (c : Cols) (e : length c.y ≡ length c.x) where
  pub slots-put : (ids ids₀ : List ℕ) → ids ≡ put_at 0 n (index_of size (part 0 n c.x) (part 0 n c.y)).ids ids₀
      → ids ≡ put_at 0 n (index_of_table size (part 0 n (rows c))).ids ids₀
  slots-put ids ids₀ h = h ∙ ap (λ (q : Index). put_at 0 n q.ids ids₀) (part-index size 0 n c e)

  pub coords-put : (co co₀ : List Float) → co ≡ put_at 0 (n * 2) (index_of size (part 0 n c.x) (part 0 n c.y)).co co₀
      → co ≡ put_at 0 (n * 2) (index_of_table size (part 0 n (rows c))).co co₀
  coords-put co co₀ h = h ∙ ap (λ (q : Index). put_at 0 (n * 2) q.co co₀) (part-index size 0 n c e)

-- the state before the first zoom: the finest table alone
abbrev pub first_state : Options → ℕ → State
first_state o n = with_table (new_state o n) (o.max_zoom + 1) 0 n

pub need-few : (o : Options) (xs ys : List Float) (ws : List ℕ) → Accepted o xs ys ws → need o (length xs) ≤ 33554432
need-few o xs ys ws a =
    let z = options-are o a.options in
    let h : o.max_zoom - o.min_zoom + 2 ≤ 32 = omega (arith, z.zooms, z.zoom-to) in
    le_trans (mul-le-mul h a.few) (lit≤ tt)

pub need-some : (o : Options) (n : ℕ) → o.min_zoom ≤ o.max_zoom → need o n ≡ n + zooms_of o * n
need-some o n h =
    let e : o.max_zoom - o.min_zoom + 2 ≡ suc (zooms_of o) = omega arith in
    ap (λ (q : ℕ). q * n) e ∙ suc-mul (zooms_of o) n ∙ (let k : zooms_of o * n + n ≡ n + zooms_of o * n = omega arith in k)

-- two of the columns' parts, a list of places and the notes beside it, fit in one column
pub need-two : (o : Options) (n : ℕ) → o.min_zoom ≤ o.max_zoom → n + n ≤ need o n
need-two o n h =
    let k = o.max_zoom - o.min_zoom in
    let e : zooms_of o ≡ suc k = omega arith in
    let q : zooms_of o * n ≡ k * n + n = ap (λ (j : ℕ). j * n) e ∙ suc-mul k n in
    omega (arith, need-some o n h, q)

pub able : (o : Options) (xs ys : List Float) (ws : List ℕ) → Accepted o xs ys ws → Able (zoom_plan o (length xs))
able o xs ys ws a =
    let z = options-are o a.options in
    record {
      some = a.some;
      few = a.few;
      size-from = z.size-from;
      size-to = z.size-to;
      radius-from = z.radius-from;
      radius-to =
          z.radius-to;
      extent-from = z.extent-from;
      extent-to = z.extent-to;
    }

module _ (o : Options) (xs ys : List Float) (ws : List ℕ) (a : Accepted o xs ys ws) where
  F-long : length (lamps o.coordinate_system xs ys ws) ≡ length xs
  F-long = lamps-length o.coordinate_system xs ys ws a.same

  F-fine : (z : ℕ) → z ≤ 255 → All (Next z) (lamps o.coordinate_system xs ys ws)
  F-fine z h = finest-fine (converted_all o.coordinate_system xs ys) ws 0 z h a.inside

  F-body : All Body (lamps o.coordinate_system xs ys ws)
  F-body = all_map (Next 0) Body (λ e q. q.0) (lamps o.coordinate_system xs ys ws) (F-fine 0 (omega arith))

  -- the first part of rows that begin with the finest table
  first_part : (t R : Table) → t ≡ laid_over (lamps o.coordinate_system xs ys ws) R
      → part 0 (length xs) t ≡ lamps o.coordinate_system xs ys ws
  first_part t R e =
      ap (take (length xs)) e ∙ ap (λ (k : ℕ). take k (laid_over (lamps o.coordinate_system xs ys ws) R)) (sym F-long)
      ∙ take-append_seam (lamps o.coordinate_system xs ys ws) (drop (length (lamps o.coordinate_system xs ys ws)) R)

  -- and its points lie within [0,1]
  pub first-inside : (c : Cols) (R : Table) → length c.y ≡ length c.x → rows c ≡ laid_over (lamps o.coordinate_system xs ys ws) R
      → Inside (part 0 (length xs) c.x) (part 0 (length xs) c.y)
  first-inside c R h e =
      subst (λ (q : List Float). Inside q (part 0 (length xs) c.y)) (sym (xs-part 0 (length xs) c))
      (subst (λ (q : List Float). Inside (xs_of (part 0 (length xs) (rows c))) q) (sym (ys-part 0 (length xs) c h))
      (subst (λ (q : Table). Inside (xs_of q) (ys_of q)) (sym (first_part (rows c) R e))
      (table-inside (lamps o.coordinate_system xs ys ws) F-body)))

  -- and its energies add up to at most 2^60
  F-watts : sum_of energy_of (lamps o.coordinate_system xs ys ws) ≤ 2 ^ 60
  F-watts =
      let ps = converted_all o.coordinate_system xs ys in
      let w = finest-watts most_energy ps ws 0 a.light in
      let n : length ps ≤ 1048576 = omega (arith, converted-length o.coordinate_system xs ys a.same, a.few) in
      le_trans w (le_trans (mul-le-mul n (le_refl most_energy)) (lit≤ tt))

  module _ (t R : Table) (ids ids₀ : List ℕ) (co co₀ : List Float) (et : t ≡ laid_over (lamps o.coordinate_system xs ys ws) R)
      (lt : length t ≡ need o (length xs)) (li : length ids₀ ≡ need o (length xs)) (lc : length co₀ ≡ need o (length xs) * 2)
      (li' : length ids ≡ length ids₀) (lc' : length co ≡ length co₀)
      (ei : ids ≡ put_at 0 (length xs) (index_of_table o.node_size (part 0 (length xs) t)).ids ids₀)
      (ec : co ≡ put_at 0 (length xs * 2) (index_of_table o.node_size (part 0 (length xs) t)).co co₀) where
    fp : part 0 (length xs) t ≡ lamps o.coordinate_system xs ys ws
    fp = first_part t R et

    cur-long : length (part 0 (length xs) t) ≡ length xs
    cur-long = ap length fp ∙ F-long

    cur-some : 1 ≤ length (part 0 (length xs) t)
    cur-some = omega (arith, cur-long, a.some)

    cur-most : length (part 0 (length xs) t) ≤ 1048576
    cur-most = omega (arith, cur-long, a.few)

    cur-body : All Body (part 0 (length xs) t)
    cur-body = rw fp F-body

    ids-len : length (index_of_table o.node_size (part 0 (length xs) t)).ids ≡ length xs
    ids-len = slots-ids o.node_size (part 0 (length xs) t) (options-are o a.options).size-from
        (options-are o a.options).size-to cur-some cur-most cur-body ∙ cur-long

    co-len : length (index_of_table o.node_size (part 0 (length xs) t)).co ≡ length xs * 2
    co-len = slots-co o.node_size (part 0 (length xs) t) (options-are o a.options).size-from
        (options-are o a.options).size-to cur-some cur-most cur-body ∙ ap (λ (q : ℕ). q * 2) cur-long

    room : 0 + length xs + zooms_of o * length xs ≤ need o (length xs)
    room = let z = options-are o a.options in omega (arith, need-some o (length xs) z.zooms)

    ids-fit : 0 + length xs ≤ length ids₀
    ids-fit = omega (arith, room, li)

    co-fit : 0 + length xs * 2 ≤ length co₀
    co-fit = omega (arith, room, lc)

    ready : Running (zoom_plan o (length xs)) (need o (length xs)) (zooms_of o) 0 (length xs) t ids co
    ready =
        let z = options-are o a.options in
        record {
          able = able o xs ys ws a;
          low-few = omega (arith, z.zooms, z.zoom-to);
          M-few = need-few o xs ys ws a;
          fine = rw fp (F-fine (o.min_zoom + zooms_of o) (omega (arith, z.zooms, z.zoom-to)));
          lamps = ap lamp_total fp ∙ finest-total (converted_all o.coordinate_system xs ys) ws 0 ∙ F-long;
          watts = rw fp F-watts;
          len-few = omega arith;
          room = room;
          long = lt;
          ids-long = li' ∙ li;
          co-long = lc' ∙ lc;
          ids_at = ap (part 0 (length xs)) ei
              ∙ part-put 0 (length xs) (index_of_table o.node_size (part 0 (length xs) t)).ids ids₀ ids-fit ids-len;
          co_at = ap (part 0 (length xs * 2)) ec
              ∙ part-put 0 (length xs * 2) (index_of_table o.node_size (part 0 (length xs) t)).co co₀ co-fit co-len;
        }

    pub ready_at : (s : State) (M : ℕ) → s ≡ first_state o (length xs) → M ≡ need o (length xs)
        → Running (zoom_plan s.options (length xs)) M (zooms_of s.options) 0 (length xs) t ids co
    ready_at s M e k =
        subst (λ (v : State). Running (zoom_plan v.options (length xs)) M (zooms_of v.options) 0 (length xs) t ids co) (sym e)
        (subst (λ (v : ℕ). Running (zoom_plan o (length xs)) v (zooms_of o) 0 (length xs) t ids co) (sym k) ready)

    -- the loop's results, against what the columns held before the first table was written
    module _ (s' : State) (t' : Table) (ids' : List ℕ) (co' : List Float)
        (f : Finished (zoom_plan o (length xs)) (zooms_of o) (first_state o (length xs)) s' (part 0 (length xs) t) t t' ids ids' co co') where
      runs : run_zooms (zoom_plan o (length xs)) (zooms_of o) (part 0 (length xs) t) ≡ tables_of o xs ys ws
      unfolding tables_of
      runs = ap (run_zooms (zoom_plan o (length xs)) (zooms_of o)) fp

      whole_long : length xs ≤ length (joined (tables_of o xs ys ws))
      whole_long = rw (sym runs) (omega (arith, run_long (zoom_plan o (length xs)) (zooms_of o) (part 0 (length xs) t), cur-long))

      rows-built : t' ≡ laid_over (joined (tables_of o xs ys ws)) R
      rows-built =
          f.of-rows ∙ ap (λ (q : List Table). laid_over (joined q) t) runs ∙ ap (laid_over (joined (tables_of o xs ys ws))) et
          ∙ over-over (joined (tables_of o xs ys ws)) (lamps o.coordinate_system xs ys ws) R (omega (arith, whole_long, F-long))

      ids-built : ids' ≡ laid_over (joined_ids o.node_size (tables_of o xs ys ws)) ids₀
      ids-built =
          let I = (index_of_table o.node_size (part 0 (length xs) t)).ids in
          let e : ids ≡ laid_over I ids₀ = ei ∙ ap (λ (k : ℕ). I ++ drop k ids₀) (sym ids-len) in
          let l : length (joined_ids o.node_size (tables_of o xs ys ws)) ≡ length (joined (tables_of o xs ys ws)) =
          rw (sym runs) f.ids-long in
          f.of-ids ∙ ap (λ (q : List Table). laid_over (joined_ids o.node_size q) ids) runs
          ∙ ap (laid_over (joined_ids o.node_size (tables_of o xs ys ws))) e
          ∙ over-over (joined_ids o.node_size (tables_of o xs ys ws)) I ids₀ (omega (arith, whole_long, l, ids-len))

      co-built : co' ≡ laid_over (joined_co o.node_size (tables_of o xs ys ws)) co₀
      co-built =
          let C = (index_of_table o.node_size (part 0 (length xs) t)).co in
          let e : co ≡ laid_over C co₀ = ec ∙ ap (λ (k : ℕ). C ++ drop k co₀) (sym co-len) in
          let l : length (joined_co o.node_size (tables_of o xs ys ws)) ≡ length (joined (tables_of o xs ys ws)) * 2 =
          rw (sym runs) f.co-long in
          f.of-co ∙ ap (λ (q : List Table). laid_over (joined_co o.node_size q) co) runs
          ∙ ap (laid_over (joined_co o.node_size (tables_of o xs ys ws))) e
          ∙ over-over (joined_co o.node_size (tables_of o xs ys ws)) C co₀ (omega (arith, whole_long, l, co-len))

      top-is : o.min_zoom + zooms_of o ≡ o.max_zoom + 1
      top-is = let z = options-are o a.options in omega (arith, z.zooms, z.zoom-to)

      state-built : s' ≡ built_state o (length xs) (tables_of o xs ys ws)
      state-built =
          let p = zoom_plan o (length xs) in
          let Z = o.max_zoom + 1 in
          let a3 : s'.starts ≡ starts Z 0 (tables_of o xs ys ws) (replicate 32 0) =
          f.of-starts ∙ ap (λ (k : ℕ). starts k 0 (run_zooms p (zooms_of o) (part 0 (length xs) t)) (set (replicate 32 0) Z 0)) top-is
          ∙ starts-again p (zooms_of o) (part 0 (length xs) t) Z 0 (replicate 32 0)
          ∙ ap (λ (q : List Table). starts Z 0 q (replicate 32 0)) runs in
          let a4 : s'.lens ≡ lens Z (tables_of o xs ys ws) (replicate 32 0) =
          f.of-lens ∙ ap (λ (k : ℕ). lens k (run_zooms p (zooms_of o) (part 0 (length xs) t)) (set (replicate 32 0) Z (length xs))) top-is
          ∙ lens-again p (zooms_of o) (part 0 (length xs) t) Z (length xs) (replicate 32 0) cur-long
          ∙ ap (λ (q : List Table). lens Z q (replicate 32 0)) runs in
          λ i. record { options = f.of-options i; count = f.of-count i; starts = a3 i; lens = a4 i }

      made : (near' : List ℕ) → near' ≡ replicate (length xs + length xs) 0 → Made o xs ys ws s' R t' ids₀ ids' co₀ co' near'
      made near' e = record { of-state = state-built; of-rows = rows-built; of-ids = ids-built; of-co = co-built; of-near = e }

    pub made_at : (s s' : State) (t' : Table) (ids' : List ℕ) (co' : List Float) (near' : List ℕ) → s ≡ first_state o (length xs)
        → Finished (zoom_plan s.options (length xs)) (zooms_of s.options) s s' (part 0 (length xs) t) t t' ids ids' co co'
        → near' ≡ replicate (length xs + length xs) 0
        → Made o xs ys ws s' R t' ids₀ ids' co₀ co' near'
    made_at s s' t' ids' co' near' e f =
        made s' t' ids' co'
        (subst (λ (v : State). Finished (zoom_plan v.options (length xs)) (zooms_of v.options) v s'
        (part 0 (length xs) t) t t' ids ids' co co') e f) near'
