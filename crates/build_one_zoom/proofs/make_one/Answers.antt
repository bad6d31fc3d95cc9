-- `build_one_zoom::make_one` meets its contract: what absorbing gives, the origin's parent, and the new entry after the table are a cluster
-- made. Assumes nothing.
use Rattle.std.proofs.Common.{◌≡◌, ◌+◌, ◌<◌, length, set, ap, sym, ◌∙◌, subst, arith}
use Rattle.kdslots.specs.laws.All.{below-le}
use Rattle.build_tables.specs.declared.Entry.{Entry}
use Rattle.build_tables.specs.Entries.{Table, entry}
use Rattle.build_tables.specs.Lent.{held_mut}
use Rattle.build_tables.specs.Rows.{rows}
use Rattle.build_tables.specs.laws.Rows.{rows-length, rows-parent}
use Rattle.build_tables.specs.laws.Lent.{same-even}
use Rattle.build_one_zoom.specs.laws.Stored.{made-with}
use Rattle.build_one_zoom.specs.Scanned.{scan_of, Scanned}
use Rattle.build_one_zoom.specs.Zoom.{energy_of, Absorbed, absorbed, absorb, started, centre, made_at}
use Rattle.build_one_zoom.proofs.make_one.Goals as goal

pub absorb_near-s-requires : goal.absorb_near-s-requires
absorb_near-s-requires c =
    let a = c.args in (
      c.requires.0,
      below-le a.zoom.now.len (length a.t.now.x.now) a.near.now (omega (arith, c.requires.3)) c.requires.1,
      omega (arith, ap energy_of c.at-o.ensures, c.requires.4),
    )

pub returns-clause-rows : goal.returns-clause-rows
returns-clause-rows c =
    let a = c.args in
    let len = a.zoom.now.len in
    let z = a.zoom.now.z in
    let n = a.zoom.now.count in
    let ab = c.absorb_near-s in
    let id = c.cluster_id-cluster in
    let k = held_mut a.t.now in
    let t = rows k in
    let room : len + a.done < length t = rw (rows-length k) c.requires.3 in
    let by = held_mut ab.new.t in
    let even-by = same-even a.t.now ab.new.t ab.ensures.lent c.requires.0 in
    let inside : a.i < length by.x = omega (arith, c.requires.2, c.requires.3, ab.ensures.lent.kx) in
    let f : Absorbed = absorbed (rows by) ab.result.x ab.result.y ab.result.energy in
    let e : f ≡ absorb z id.result (started t (entry t a.i)) a.near.now
    = ab.ensures.rows ∙ ap (λ (v : Entry). absorb z id.result (started t v) a.near.now) c.at-o.ensures in
    let h = rows-parent by a.i even-by inside id.result in
    let made = made_at n z a.i a.total a.near.now (scan_of len a.done t) in
    subst (λ (q : Table). Scanned len a.done made t q (a.done + 1))
    (sym (c.put.ensures.rows ∙ ap (λ (q : Table). set q (len + a.done) (centre f id.result a.total)) h))
    (made-with t len a.done a.i z n a.total a.near.now c.requires.2 room c.requires.1 id.result id.ensures f e)
