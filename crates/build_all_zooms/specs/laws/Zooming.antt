-- What one zoom asks of the columns and what it leaves of them, from what holds between two zooms. Assumes nothing.
use Rattle.std.specs.Prelude.{◌≡◌, List, ℕ, suc, ◌+◌, ◌-◌, ◌*◌, ◌^◌, ◌<◌, ◌≤◌, length, take, drop, Float}
use Rattle.std.proofs.Common.{ap, sym, ◌∙◌, arith, suc-mul, length-drop, drop-drop, length-take-le}
use Rattle.floats.specs.laws.Unit.{In01-finite}
use Rattle.kdsort.specs.Cols.{IndexCols}
use Rattle.kdslots.specs.laws.All.{All, all_map}
use Rattle.build_tables.specs.Columns.{part}
use Rattle.build_tables.specs.laws.Columns.{xs-part, ys-part}
use Rattle.build_tables.specs.Entries.{Table}
use Rattle.build_tables.specs.Radius.{radius_at}
use Rattle.build_tables.specs.laws.Radius.{radius-fine}
use Rattle.build_tables.specs.Rows.{Cols as TableCols, rows}
use Rattle.build_tables.specs.laws.Rows.{Even}
use Rattle.build_one_zoom.specs.laws.Lamps.{unseen_of-sum}
use Rattle.build_one_zoom.specs.Near.{near_of}
use Rattle.build_one_zoom.specs.laws.Near.{Placed, Radius}
use Rattle.build_one_zoom.specs.Scanned.{unseen_of}
use Rattle.build_one_zoom.specs.laws.Sound.{Body}
use Rattle.build_one_zoom.specs.Zoom.{num_of, energy_of, Scan, cluster}
use Rattle.kdbush.specs.Reply.{index_of}
use Rattle.build_all_zooms.specs.Zooms.{index_of_table, near_in, Plan, zoomed}
use Rattle.kdbush.specs.laws.Indexed.{Inside}
use Rattle.build_all_zooms.specs.laws.Parts.{put_at}
use Rattle.build_all_zooms.specs.laws.Running.{Running, Advanced, next-some, next-few, cur-long, cur-body, table-inside, next-body}
use Rattle.build_all_zooms.specs.laws.Step.{Stepped}

-- a table and the one made from it, in the rows
pub record Zoomed (p : Plan) (z start len d : ℕ) (t t' : Table) : Type 0 where
  pub before : take start t' ≡ take start t
  pub marked : part start len t' ≡ (zoomed p z (part start len t)).table
  pub made : part (start + len) d t' ≡ (zoomed p z (part start len t)).next
  pub after : drop (start + len + d) t' ≡ drop (start + len + d) t
  pub count : d ≡ length (zoomed p z (part start len t)).next

module _ (p : Plan) (M z start len : ℕ) (t : Table) (ids : List ℕ) (co : List Float) (lz : p.options.min_zoom ≤ z)
    (r : Running p M (suc (z - p.options.min_zoom)) start len t ids co) where
  zk : p.options.min_zoom + (z - p.options.min_zoom) ≡ z
  zk = omega arith

  pub z-few : z ≤ 30
  z-few = omega (arith, r.low-few)

  pub step_room : start + len + len ≤ M
  step_room = omega (arith, r.room, r.len-few, suc-mul (z - p.options.min_zoom) p.count)

  pub step-light : unseen_of num_of z (part start len t) < 2 ^ 32
  step-light = omega (arith, unseen_of-sum num_of z (part start len t), r.lamps, r.able.few)

  pub step-watts : unseen_of energy_of z (part start len t) < 2 ^ 64
  step-watts = omega (arith, unseen_of-sum energy_of z (part start len t), r.watts)

  pub step-radius : Radius (radius_at p.options.radius p.options.extent z)
  step-radius = let a = r.able in radius-fine p.options.radius p.options.extent z (omega (arith, z-few)) a.radius-from
      a.radius-to a.extent-from a.extent-to

  pub step-placed : All Placed (part start len t)
  step-placed =
      all_map Body Placed (λ e b. (In01-finite e.x b.0, In01-finite e.y b.1)) (part start len t)
      (cur-body p M (suc (z - p.options.min_zoom)) start len t ids co r)

  pub made_some : 1 ≤ length (zoomed p z (part start len t)).next
  made_some = rw zk at (next-some p M (z - p.options.min_zoom) start len t ids co r)

  pub made-few : length (zoomed p z (part start len t)).next ≤ len
  made-few = rw zk at (next-few p M (z - p.options.min_zoom) start len t ids co r)

  pub made-body : All Body (zoomed p z (part start len t)).next
  made-body = rw zk at (next-body p M (z - p.options.min_zoom) start len t ids co r)

  module _ (rad : Float) (er : rad ≡ radius_at p.options.radius p.options.extent z) (t' : Table) (d : ℕ)
      (s : Stepped start len (cluster p.count p.options.min_points z
      (near_of p.options.node_size len (part start len ids) (part (start * 2) (len * 2) co) rad) (part start len t)) t t' d) where
    scan-is : cluster p.count p.options.min_points z
        (near_of p.options.node_size len (part start len ids) (part (start * 2) (len * 2) co) rad) (part start len t)
        ≡ zoomed p z (part start len t)
    scan-is =
        let size = p.options.node_size in
        let cur = part start len t in
        ap (λ (i : List ℕ). cluster p.count p.options.min_points z (near_of size len i (part (start * 2) (len * 2) co) rad) cur)
        r.ids_at
        ∙ ap (λ (c : List Float). cluster p.count p.options.min_points z (near_of size len (index_of_table size cur).ids c rad) cur)
        r.co_at
        ∙ ap (λ (k : ℕ). cluster p.count p.options.min_points z
        (near_of size k (index_of_table size cur).ids (index_of_table size cur).co rad) cur)
        (sym (cur-long p M (suc (z - p.options.min_zoom)) start len t ids co r))
        ∙ ap (λ (f : Float). cluster p.count p.options.min_points z (near_in size f cur) cur) er

    pub scanned : Zoomed p z start len d t t'
    scanned =
        let e = s.after.scan ∙ scan-is in
        let q : start + (len + d) ≡ start + len + d = omega arith in
        let dd = drop-drop len start t' in
        let m : part (start + len) d t' ≡ (zoomed p z (part start len t)).next = ap (take d) (sym dd) ∙ ap (λ (c : Scan). c.next) e in
        record {
          before = s.before;
          marked = ap (λ (c : Scan). c.table) e;
          made = m;
          after = rw (drop-drop (len + d) start t', drop-drop (len + d) start t, q) at s.after.rest;
          count = sym (length-take-le d (drop (start + len) t')
              (rw (length-drop (start + len) t') (omega (arith, s.after.fits, length-drop start t')))) ∙ ap length m;
        }

-- the index of what was made
module _ (p : Plan) (z start len d : ℕ) (t : Table) (c : TableCols) (v : Even c) (s : Zoomed p z start len d t (rows c)) where
  pub index-made : index_of p.options.node_size (part (start + len) d c.x) (part (start + len) d c.y)
      ≡ index_of_table p.options.node_size (zoomed p z (part start len t)).next
  unfolding index_of_table
  index-made =
      rw (xs-part (start + len) d c, ys-part (start + len) d c v.ey, s.made)

  pub inside-made : All Body (zoomed p z (part start len t)).next → Inside (part (start + len) d c.x) (part (start + len) d c.y)
  inside-made a =
      rw (xs-part (start + len) d c, ys-part (start + len) d c v.ey, s.made) (table-inside (zoomed p z (part start len t)).next a)

  pub advanced : (ids ids' : List ℕ) (co co' : List Float)
      → ids' ≡ put_at (start + len) d (index_of p.options.node_size (part (start + len) d c.x) (part (start + len) d c.y)).ids
      ids
      → co' ≡ put_at ((start + len) * 2) (d * 2)
      (index_of p.options.node_size (part (start + len) d c.x) (part (start + len) d c.y)).co co
      → Advanced p z start len d t (rows c) ids ids' co co'
  advanced ids ids' co co' a b =
      record {
        before = s.before;
        marked = s.marked;
        made = s.made;
        after = s.after;
        count = s.count;
        ids-put = a ∙ ap (λ (q : IndexCols). put_at (start + len) d q.ids ids) index-made;
        co-put = b ∙ ap (λ (q : IndexCols). put_at ((start + len) * 2) (d * 2) q.co co) index-made;
      }

pub part-index : (size a n : ℕ) (c : TableCols) → length c.y ≡ length c.x
    → index_of size (part a n c.x) (part a n c.y) ≡ index_of_table size (part a n (rows c))
unfolding index_of_table
part-index size a n c h = rw (xs-part a n c, ys-part a n c h)
