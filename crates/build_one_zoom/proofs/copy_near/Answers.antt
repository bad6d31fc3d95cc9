-- `build_one_zoom::copy_near` meets its contract: at the head of the loop the copies so far and those that remain are the definition's, and
-- there is room for what can yet be copied. Assumes nothing.
use Rattle.std.proofs.Common.{sym, ◌∙◌}
use Rattle.kdslots.specs.laws.All.{below_at}
use Rattle.build_tables.specs.Lent.{held_mut}
use Rattle.build_tables.specs.Rows.{rows}
use Rattle.build_tables.specs.laws.Rows.{rows-length}
use Rattle.build_tables.specs.laws.Lent.{same-refl, same_then, same-even}
use Rattle.build_one_zoom.specs.laws.Turns.{copying-start, copying-step, copying-end}
use Rattle.build_one_zoom.proofs.copy_near.Goals as goal

pub loop-k-init : goal.loop-k-init
loop-k-init c =
    let a = c.args in
    let k = held_mut a.t.now in
    let z = a.zoom.now in
    (same-refl a.t.now, copying-start z.len z.z a.near.now (rows k) a.done (rw (rows-length k) c.requires.2))

pub copy_one-d-requires : goal.copy_one-d-requires
copy_one-d-requires c =
    let a = c.args in
    let l = c.loop-k in
    let v = l.invariant in (
      same-even a.t.now l.t v.0 c.requires.0,
      below_at a.zoom.now.len a.near.now l.k-index c.requires.1 c.loop-k-test.true,
      rw (rows-length (held_mut l.t)) at v.1.room,
    )

pub loop-k-preserved : goal.loop-k-preserved
loop-k-preserved c =
    let l = c.loop-k in
    let a = c.args in
    let z = a.zoom.now in
    let w = c.copy_one-d in
    let old = held_mut l.t in
    let new = held_mut w.new.t in (
      same_then a.t.now l.t w.new.t l.invariant.0 w.ensures.lent,
      copying-step z.len z.z a.near.now (rows (held_mut a.t.now)) a.done (rows old) (rows new) l.d w.result l.k-index l.invariant.1
          c.loop-k-test.true w.ensures.rows (rows-length new ∙ w.ensures.lent.kx ∙ sym (rows-length old)),
    )

pub returns-clause-rows : goal.returns-clause-rows
returns-clause-rows c =
    let l = c.loop-k in
    let a = c.args in
    let z = a.zoom.now in
    copying-end z.len z.z a.near.now (rows (held_mut a.t.now)) a.done (rows (held_mut l.t)) l.d l.k-index l.invariant.1
    c.loop-k-test.false
