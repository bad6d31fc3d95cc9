-- The loop over the zooms: what holds of the columns between two zooms, and what a zoom does to that. Assumes nothing.
use Rattle.std.specs.Prelude.{◌≡◌, List, [], ◌∷◌, ℕ, suc, ◌+◌, ◌*◌, ◌^◌, ◌<◌, ◌≤◌, T, length, take, drop, Float}
use Rattle.std.proofs.Common.{ap, sym, ◌∙◌, subst, arith, le_trans, add-suc, suc-mul, lit≤}
use Rattle.std.proofs.Math.ListN.{length-map, get_or-map}
use Rattle.std.specs.Float.Ieee.{le}
use Rattle.floats.specs.Numbers.{zero as fzero, one, pow16}
use Rattle.floats.specs.laws.Unit.{In01}
use Rattle.kdslots.specs.declared.Query.TheVariants.{Within}
use Rattle.kdslots.specs.laws.All.{All, all_map}
use Rattle.kdslots.specs.laws.Members.{Distinct}
use Rattle.kdbush.specs.laws.Promise.{Promised}
use Rattle.build_tables.specs.Columns.{part}
use Rattle.build_tables.specs.laws.Columns.{part-long}
use Rattle.build_tables.specs.Entries.{Table, none, xs_of, ys_of}
use Rattle.build_tables.specs.Radius.{radius_at}
use Rattle.build_one_zoom.specs.laws.Keeps.{all-at}
use Rattle.build_one_zoom.specs.laws.Lamps.{sum_of, lamp_total}
use Rattle.build_one_zoom.specs.Zoom.{energy_of}
use Rattle.build_one_zoom.specs.laws.Sound.{Body, Next, Sound, cluster-sound}
use Rattle.build_all_zooms.specs.Zooms.{index_of_table, near_in, Plan, zoomed}
use Rattle.kdbush.specs.laws.Indexed.{Inside, Indexable, index-ids, index-co, index-promised}
use Rattle.build_all_zooms.specs.laws.Parts.{put_at, part-put}

-- ---- a table whose entries lie from 0 to 1 has an index that keeps its promises

pub total-some : (t : Table) → 1 ≤ lamp_total t → 1 ≤ length t
unfolding sum_of
total-some [] h = absurd (omega arith)
total-some (e ∷ t) h = omega arith

pub table-inside : (t : Table) → All Body t → Inside (xs_of t) (ys_of t)
table-inside t a p h =
    let l : p < length t = omega (arith, length-map t (λ e. e.x), h) in
    let b = all-at Body t p a l in (
      subst (λ (v : Float). In01 v) (sym (get_or-map (λ e. e.x) t p none)) b.0,
      subst (λ (v : Float). In01 v) (sym (get_or-map (λ e. e.y) t p none)) b.1,
    )

module _ (size : ℕ) (t : Table) (n1 : 1 ≤ size) (n2 : size ≤ 65535) (some : 1 ≤ length t) (most : length t ≤ 1048576) (a : All Body t) where
  slots-indexable : Indexable size (xs_of t) (ys_of t)
  slots-indexable =
      let l = length-map t (λ e. e.x) in
      let m = length-map t (λ e. e.y) in
      record {
        size-from = n1;
        size-to = n2;
        some = omega (arith, l);
        most = omega (arith, l);
        paired = m
            ∙ sym l;
        inside = table-inside t a;
      }

  pub slots-ids : length (index_of_table size t).ids ≡ length t
  unfolding index_of_table
  slots-ids = index-ids size (xs_of t) (ys_of t) slots-indexable ∙ length-map t (λ e. e.x)

  pub slots-co : length (index_of_table size t).co ≡ length t * 2
  unfolding index_of_table
  slots-co = omega (arith, index-co size (xs_of t) (ys_of t) slots-indexable, length-map t (λ e. e.x))

  pub slots-promised : Promised size (length t) (index_of_table size t).ids (index_of_table size t).co
  unfolding index_of_table
  slots-promised = rw (length-map t (λ e. e.x)) at (index-promised size (xs_of t) (ys_of t) slots-indexable)

-- ---- between two zooms

-- a plan within the bounds
pub record Able (p : Plan) : Type 0 where
  pub some : 1 ≤ p.count
  pub few : p.count ≤ 1048576
  pub size-from : 1 ≤ p.options.node_size
  pub size-to : p.options.node_size ≤ 65535
  pub radius-from : T (le fzero p.options.radius)
  pub radius-to : T (le p.options.radius pow16)
  pub extent-from : T (le one p.options.extent)
  pub extent-to : T (le p.options.extent pow16)

-- k zooms are left; the table stands at start and has len entries, and so does its index; M is how much each column holds
pub record Running (p : Plan) (M k start len : ℕ) (t : Table) (ids : List ℕ) (co : List Float) : Type 0 where
  pub able : Able p
  pub low-few : p.options.min_zoom + k ≤ 31
  pub M-few : M ≤ 33554432
  pub fine : All (Next (p.options.min_zoom + k)) (part start len t)
  pub lamps : lamp_total (part start len t) ≡ p.count
  pub watts : sum_of energy_of (part start len t) ≤ 2 ^ 60
  pub len-few : len ≤ p.count
  pub room : start + len + k * p.count ≤ M
  pub long : length t ≡ M
  pub ids-long : length ids ≡ M
  pub co-long : length co ≡ M * 2
  pub ids_at : part start len ids ≡ (index_of_table p.options.node_size (part start len t)).ids
  pub co_at : part (start * 2) (len * 2) co ≡ (index_of_table p.options.node_size (part start len t)).co

-- what a zoom does: z is the zoom, and d the new table's length
pub record Advanced (p : Plan) (z start len d : ℕ) (t t' : Table) (ids ids' : List ℕ) (co co' : List Float) : Type 0 where
  pub before : take start t' ≡ take start t
  pub marked : part start len t' ≡ (zoomed p z (part start len t)).table
  pub made : part (start + len) d t' ≡ (zoomed p z (part start len t)).next
  pub after : drop (start + len + d) t' ≡ drop (start + len + d) t
  pub count : d ≡ length (zoomed p z (part start len t)).next
  pub ids-put : ids' ≡ put_at (start + len) d (index_of_table p.options.node_size (zoomed p z (part start len t)).next).ids ids
  pub co-put : co' ≡ put_at ((start + len) * 2) (d * 2) (index_of_table p.options.node_size (zoomed p z (part start len t)).next).co co

module _ (p : Plan) (M k start len : ℕ) (t : Table) (ids : List ℕ) (co : List Float) (r : Running p M k start len t ids co) where
  cur : Table
  cur = part start len t

  pub cur-long : length (part start len t) ≡ len
  cur-long = part-long start len t (omega (arith, r.room, r.long))

  pub cur-body : All Body (part start len t)
  cur-body = all_map (Next (p.options.min_zoom + k)) Body (λ e q. q.0) (part start len t) r.fine

  pub cur-some : 1 ≤ length (part start len t)
  cur-some = total-some (part start len t) (rw r.lamps r.able.some)

  cur-most : length (part start len t) ≤ 1048576
  cur-most = omega (arith, cur-long, r.len-few, r.able.few)

  slots_kept : Promised p.options.node_size (length (part start len t))
      (index_of_table p.options.node_size (part start len t)).ids (index_of_table p.options.node_size (part start len t)).co
  slots_kept = slots-promised p.options.node_size (part start len t) r.able.size-from
      r.able.size-to cur-some cur-most cur-body

  pub cur-promised : Promised p.options.node_size len (part start len ids) (part (start * 2) (len * 2) co)
  cur-promised =
      let size = p.options.node_size in
      rw (r.ids_at, r.co_at) (subst
      (λ (n : ℕ). Promised size n (index_of_table size (part start len t)).ids (index_of_table size (part start len t)).co) cur-long
      slots_kept)

  pub cur-once : (rad qx qy : Float) → Distinct (near_in p.options.node_size rad (part start len t) qx qy)
  cur-once rad qx qy = slots_kept.once (Within qx qy rad)

module _ (p : Plan) (M k start len : ℕ) (t : Table) (ids : List ℕ) (co : List Float) (r : Running p M (suc k) start len t ids co) where
  pub zoom-sound : Sound (p.options.min_zoom + k) (part start len t) (zoomed p (p.options.min_zoom + k) (part start len t))
  zoom-sound =
      let few : lamp_total (part start len t) ≤ 1048576 = omega (arith, r.lamps, r.able.few) in
      cluster-sound p.count p.options.min_points (p.options.min_zoom + k)
      (near_in p.options.node_size (radius_at p.options.radius p.options.extent (p.options.min_zoom + k))
      (part start len t))
      (cur-once p M (suc k) start len t ids co r (radius_at p.options.radius p.options.extent (p.options.min_zoom + k)))
      (part start len t) (rw (add-suc p.options.min_zoom k) at r.fine)
      (le_trans few (lit≤ tt)) (omega (arith, r.low-few))

  pub next-some : 1 ≤ length (zoomed p (p.options.min_zoom + k) (part start len t)).next
  next-some = total-some (zoomed p (p.options.min_zoom + k) (part start len t)).next (rw (zoom-sound.lamps, r.lamps) r.able.some)

  pub next-few : length (zoomed p (p.options.min_zoom + k) (part start len t)).next ≤ len
  next-few = omega (arith, zoom-sound.shorter, cur-long p M (suc k) start len t ids co r)

  next-most : length (zoomed p (p.options.min_zoom + k) (part start len t)).next ≤ 1048576
  next-most = omega (arith, next-few, r.len-few, r.able.few)

  pub next-body : All Body (zoomed p (p.options.min_zoom + k) (part start len t)).next
  next-body = all_map (Next (p.options.min_zoom + k)) Body (λ e q. q.0)
      (zoomed p (p.options.min_zoom + k) (part start len t)).next zoom-sound.next

  module _ (d : ℕ) (t' : Table) (ids' : List ℕ) (co' : List Float)
      (v : Advanced p (p.options.min_zoom + k) start len d t t' ids ids' co co')
      (et : length t' ≡ length t) (ei : length ids' ≡ length ids) (ec : length co' ≡ length co) where
    next : Table
    next = (zoomed p (p.options.min_zoom + k) (part start len t)).next

    d-few : d ≤ len
    d-few = omega (arith, v.count, next-few)

    more_room : start + len + d + k * p.count ≤ M
    more_room = omega (arith, r.room, suc-mul k p.count, d-few, r.len-few)

    pub ids-fit : start + len + d ≤ length ids
    ids-fit = omega (arith, more_room, r.ids-long)

    pub co-fit : (start + len) * 2 + d * 2 ≤ length co
    co-fit = omega (arith, more_room, r.co-long)

    pub ids-len : length (index_of_table p.options.node_size (zoomed p (p.options.min_zoom + k) (part start len t)).next).ids ≡ d
    ids-len = slots-ids p.options.node_size (zoomed p (p.options.min_zoom + k) (part start len t)).next r.able.size-from
        r.able.size-to next-some next-most next-body ∙ sym v.count

    pub co-len : length (index_of_table p.options.node_size (zoomed p (p.options.min_zoom + k) (part start len t)).next).co
        ≡ d * 2
    co-len = slots-co p.options.node_size (zoomed p (p.options.min_zoom + k) (part start len t)).next r.able.size-from
        r.able.size-to next-some next-most next-body ∙ ap (λ (q : ℕ). q * 2) (sym v.count)

    pub running-step : Running p M k (start + len) d t' ids' co'
    running-step =
        record {
          able = r.able;
          low-few = omega (arith, r.low-few);
          M-few = r.M-few;
          fine = rw v.made zoom-sound.next;
          lamps = ap lamp_total v.made ∙ zoom-sound.lamps ∙ r.lamps;
          watts = rw (v.made, zoom-sound.energies) r.watts;
          len-few = omega (arith, d-few, r.len-few);
          room = more_room;
          long = et ∙ r.long;
          ids-long = ei ∙ r.ids-long;
          co-long = ec ∙ r.co-long;
          ids_at =
              ap (part (start + len) d) v.ids-put
              ∙ part-put (start + len) d (index_of_table p.options.node_size
              (zoomed p (p.options.min_zoom + k) (part start len t)).next).ids ids ids-fit ids-len
              ∙ ap (λ (q : Table). (index_of_table p.options.node_size q).ids) (sym v.made);
          co_at =
              ap (part ((start + len) * 2) (d * 2)) v.co-put
              ∙ part-put ((start + len) * 2) (d * 2)
              (index_of_table p.options.node_size (zoomed p (p.options.min_zoom + k) (part start len t)).next).co co co-fit
              co-len
              ∙ ap (λ (q : Table). (index_of_table p.options.node_size q).co) (sym v.made);
        }
