-- `ask_base::ring_at` meets its contract: the table stands in all columns. Assumes nothing.
use mathlib.Core.Path.{◌≡◌, ap, ◌∙◌}
use Prim.Native.Nat.{ℕ, ◌+◌, ◌*◌, ◌≤◌}
use native.Mathlib.Omega.{arith}
use lib.ListN.{length}
use Rattle.build_tables.specs.declared.State.{State}
use Rattle.build_tables.specs.declared.columns.Table.{Table}
use Rattle.build_tables.specs.State.{start_of, len_of}
use Rattle.build_tables.specs.Rows.{Cols, rows, each}
use Rattle.build_tables.specs.Room.{Columns, room_of}
use Rattle.build_tables.specs.Columns.{part}
use Rattle.build_tables.specs.Lent.{held, tables_held}
use Rattle.build_tables.specs.laws.Roomy.{each-roomy}
use Rattle.build_tables.specs.laws.Columns.{part-long, rows-part}
use Rattle.ask_base.specs.declared.RingPart.{RingPart}
use Rattle.ask_base.specs.Columns.{table_at, ids_at, coords_at}
use Rattle.ask_base.specs.laws.Reached.{Reached, near}
use Rattle.ask_base.specs.laws.Around.{ring_of, query_of, ring_at}
use Rattle.ask_base.proofs.ring_at.Goals as goal

-- what was cut out of the columns is the table of zoom z
module _ (s : State) (c : Columns) (cap z o : ℕ) (at : Reached s cap z o) (room : cap ≤ room_of c) (g : RingPart)
    (eg : g ≡ ring_of s (table_at s c z) z o) where
  es : g.start ≡ start_of s z
  es = ap (λ (r : RingPart). r.start) eg

  el : g.len ≡ len_of s z
  el = ap (λ (r : RingPart). r.len) eg

  stands : g.start + g.len ≤ room_of c
  stands = let n = near at in omega (arith, n.ends, room, es, el)

  module _ (t : Table) (cut : held t.entries ≡ each (λ A q. part g.start g.len q) c.table) where
    long : length t.entries.x.now ≡ g.len
    long = ap (λ (q : Cols). length q.x) cut ∙ part-long g.start g.len c.table.x (each-roomy c (g.start + g.len) stands).hx

    table-is : rows (held t.entries) ≡ table_at s c z
    table-is = ap rows cut ∙ rows-part g.start g.len c.table ∙ rw (es, el)

    ring-is : t.index.ids.now ≡ part g.start g.len c.ids → t.index.coords.now ≡ part (2 * g.start) (2 * g.len) c.coords
        → (n : ℕ) → n ≡ length t.entries.x.now
        → record {
          table = rows (held t.entries);
          len = n;
          ids = t.index.ids.now;
          coords = t.index.coords.now;
          query = query_of g;
          node_size = g.node_size;
        } ≡ ring_at s c z o
    ring-is ei eco n en =
        let a = table-is in
        let b : n ≡ len_of s z = en ∙ long ∙ el in
        let i : t.index.ids.now ≡ ids_at s c.ids z = ei ∙ rw (es, el) in
        let k : t.index.coords.now ≡ coords_at s c.coords z = eco ∙ rw (es, el) in
        let q : query_of g ≡ query_of (ring_of s (table_at s c z) z o) = ap query_of eg in
        let m : g.node_size ≡ s.options.node_size = ap (λ (r : RingPart). r.node_size) eg in
        rw (a, b, i, k, q, m)

pub ring_of-g-requires : goal.ring_of-g-requires
ring_of-g-requires c =
    record { reached = c.requires.reached; roomy = each-roomy (tables_held c.args.t.now) c.args.cap c.requires.room }

pub table_in-table-requires : goal.table_in-table-requires
table_in-table-requires c =
    let r = c.requires in
    stands c.args.s.now (tables_held c.args.t.now) _ _ _ r.reached r.room c.ring_of-g.result c.ring_of-g.ensures

pub returns : goal.returns
returns c =
    let r = c.requires in
    let p = c.table_in-table in
    let k = tables_held c.args.t.now in
    ring-is c.args.s.now k _ _ _ r.reached r.room c.ring_of-g.result c.ring_of-g.ensures p.result p.ensures.entries p.ensures.ids
    p.ensures.coords _ c.len.ensures
