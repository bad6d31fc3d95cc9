-- `ask_base::ring_of` meets its contract: the table stands in the columns of entries, and the origin is an entry of it. Assumes nothing.
use mathlib.Core.Path.{◌≡◌, ap, ◌∙◌}
use Prim.Native.Nat.{ℕ, ◌+◌, ◌-◌, ◌<◌}
use native.Mathlib.Omega.{arith}
use lib.ListN.{length}
use lib.Ieee.{Float}
use Rattle.build_tables.specs.declared.Entry.{Entry}
use Rattle.build_tables.specs.declared.State.{State}
use Rattle.build_tables.specs.declared.columns.Entries.{Entries}
use Rattle.build_tables.specs.State.{start_of, len_of}
use Rattle.build_tables.specs.Entries.{entry}
use Rattle.build_tables.specs.Rows.{Cols, rows, each}
use Rattle.build_tables.specs.Room.{Columns}
use Rattle.build_tables.specs.Columns.{part}
use Rattle.build_tables.specs.Lent.{held, tables_held}
use Rattle.build_tables.specs.laws.Roomy.{Roomy, roomy-fewer}
use Rattle.build_tables.specs.laws.Columns.{part-long}
use Rattle.build_tables.specs.Radius.{radius_at}
use Rattle.ask_base.specs.Columns.{table_at}
use Rattle.ask_base.specs.laws.Columns.{lent_rows, lent-part}
use Rattle.ask_base.specs.laws.Reached.{Reached, near}
use Rattle.ask_base.specs.laws.Around.{ring_of}
use Rattle.ask_base.proofs.ring_of.Goals as goal

-- what was cut out of the columns of entries is the table of zoom z
module _ (s : State) (c : Columns) (cap z o start len : ℕ) (at : Reached s cap z o) (room : Roomy cap c.table) (es : start ≡ start_of s z)
    (el : len ≡ len_of s z) where
  fits : Roomy (start + len) c.table
  fits = let n = near at in roomy-fewer _ cap (omega (arith, n.ends, es, el)) room

  module _ (t : Entries) (cut : held t ≡ each (λ A q. part start (start + len - start) q) c.table) where
    long : length t.x.now ≡ len
    long = ap (λ (q : Cols). length q.x) cut ∙ ap length (lent-part start len c.table.x) ∙ part-long start len c.table.x fits.hx

    place-in : o < length t.x.now
    place-in = let h = long in omega (arith, h, at.inside, el)

    table-is : rows (held t) ≡ table_at s c z
    table-is = ap rows cut ∙ lent_rows start len c.table ∙ rw (es, el)

    ring-is : (e : Entry) → e ≡ entry (rows (held t)) o → (r : Float) → r ≡ radius_at s.options.radius s.options.extent (z - 1)
        → record { start = start; len = len; x = e.x; y = e.y; radius = r; node_size = s.options.node_size } ≡ ring_of s (table_at s c z) z o
    ring-is e ee r er =
        let a = table-is in
        let f : e ≡ entry (table_at s c z) o = ee ∙ rw a in
        rw (es, el, f, er)

pub start_of-start-requires : goal.start_of-start-requires
start_of-start-requires c = let n = near c.requires.reached in omega (arith, n.table)

pub len_of-len-requires : goal.len_of-len-requires
len_of-len-requires c = let n = near c.requires.reached in omega (arith, n.table)

pub overflow_add-start : goal.overflow_add-start
overflow_add-start c =
    let n = near c.requires.reached in
    omega (arith, n.ends, c.ranges.cap, c.start_of-start.ensures, c.len_of-len.ensures)

pub entries_in-requires : goal.entries_in-requires
entries_in-requires c =
    let r = c.requires in
    let k = tables_held c.args.t.now in
    (omega arith, fits c.args.s.now k _ _ _ _ _ r.reached r.roomy c.start_of-start.ensures c.len_of-len.ensures)

pub at-e-requires : goal.at-e-requires
at-e-requires c =
    let r = c.requires in
    let k = tables_held c.args.t.now in
    place-in c.args.s.now k _ _ _ _ _ r.reached r.roomy c.start_of-start.ensures c.len_of-len.ensures c.entries_in.result c.entries_in.ensures

pub overflow_sub-at : goal.overflow_sub-at
overflow_sub-at c = let n = near c.requires.reached in omega (arith, n.some)

pub overflow_cast-at : goal.overflow_cast-at
overflow_cast-at c = let n = near c.requires.reached in omega (arith, n.table)

pub radius_at-radius-requires : goal.radius_at-radius-requires
radius_at-radius-requires c = let n = near c.requires.reached in omega (arith, n.table)

pub returns : goal.returns
returns c =
    let r = c.requires in
    let k = tables_held c.args.t.now in
    ring-is c.args.s.now k _ _ _ _ _ r.reached r.roomy c.start_of-start.ensures c.len_of-len.ensures c.entries_in.result c.entries_in.ensures
    _ c.at-e.ensures _ c.radius_at-radius.ensures
