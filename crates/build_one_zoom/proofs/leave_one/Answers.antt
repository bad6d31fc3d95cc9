-- `build_one_zoom::leave_one` meets its contract: row i is put after the next table's last, and then the copies of the neighbours follow.
-- Assumes nothing.
use Rattle.std.proofs.Common.{◌≡◌, ◌+◌, ◌<◌, length, set, ap, ◌∙◌, arith}
use Rattle.build_tables.specs.declared.Entry.{Entry}
use Rattle.build_tables.specs.Entries.{entry}
use Rattle.build_tables.specs.Lent.{held_mut}
use Rattle.build_tables.specs.Rows.{rows}
use Rattle.build_tables.specs.laws.Rows.{rows-length}
use Rattle.build_one_zoom.specs.laws.Stored.{left-leaves}
use Rattle.build_one_zoom.proofs.leave_one.Goals as goal

pub returns-clause-rows : goal.returns-clause-rows
returns-clause-rows c =
    let a = c.args in
    let len = a.zoom.now.len in
    let k = held_mut a.t.now in
    let t = rows k in
    let put_is : rows (held_mut c.put.new.self) ≡ set t (len + a.done) (entry t a.i)
    = c.put.ensures.rows ∙ ap (λ (v : Entry). set t (len + a.done) v) c.at-e.ensures in
    let space : len + a.done < length t = omega (arith, rows-length k, c.requires.3) in
    left-leaves t len a.done a.i a.zoom.now.z a.near.now c.requires.2 space _ _ (rw put_is at c.copy_near.ensures.rows)
