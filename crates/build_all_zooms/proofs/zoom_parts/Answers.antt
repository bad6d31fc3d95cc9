-- `build_all_zooms::zoom_parts` meets its contract: the columns are lent from `start` on, where the scan's table stands at 0. Assumes
-- nothing.
use Rattle.std.proofs.Common.{sym, arith}
use Rattle.build_tables.specs.Rows.{cols}
use Rattle.build_tables.specs.Lent.{given_mut}
use Rattle.build_tables.specs.laws.Columns.{from-length, rows-from, even-from}
use Rattle.build_all_zooms.specs.laws.Step.{stepped}
use Rattle.build_all_zooms.proofs.zoom_parts.Goals as goal

pub zoom_front-requires : goal.zoom_front-requires
zoom_front-requires c =
    let a = c.args in
    let p = c.requires in
    let k = given_mut a.x a.y a.seen a.id a.parent a.num a.energy in
    (even-from a.start k p.0, rw (rows-from a.start k) p.1, omega (arith, from-length a.start a.x.now, p.2))

pub returns : goal.returns
returns c =
    let a = c.args in
    let n = c.zoom_front.new in
    let k = given_mut a.x a.y a.seen a.id a.parent a.num a.energy in
    stepped a.start k (cols n.x n.y n.seen n.id n.parent n.num n.energy) c.requires.0 (omega (arith, c.requires.2)) a.zoom.now.len
    c.zoom_front.result _ (rw (sym (rows-from a.start k)) c.zoom_front.ensures)
