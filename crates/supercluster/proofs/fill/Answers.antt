-- `supercluster::fill` meets its contract: at the head of the loop the first rows, up to the place, are the finest table's, and the rest
-- is as it was. Assumes nothing.
use Rattle.std.proofs.Common.{ap, sym, ◌∙◌, arith, get_or, length}
use Rattle.range.specs.declared.Point.{Point}
use Rattle.build_tables.specs.Entries.{none}
use Rattle.build_tables.specs.Lent.{held_mut}
use Rattle.build_tables.specs.Rows.{rows}
use Rattle.build_tables.specs.laws.Rows.{rows-length}
use Rattle.build_tables.specs.laws.Lent.{same_then, same-even}
use Rattle.supercluster.specs.Build.{lamp}
use Rattle.supercluster.specs.laws.Fill.{lamps, lamps-at, lamps-length, fill_step, fill_end}
use Rattle.supercluster.proofs.fill.Goals as goal

pub put-requires : goal.put-requires
put-requires c =
    let l = c.loop-place in
    let s = l.invariant.0 in
    (same-even c.args.t.now l.t s c.requires.0, omega (arith, c.loop-place-test.true, s.kx, c.requires.2))

pub loop-place-preserved : goal.loop-place-preserved
loop-place-preserved c =
    let a = c.args in
    let p = a.points.now in
    let l = c.loop-place in
    let i = c.loop-place-test.true in
    let new = c.put.new.self in
    let R = held_mut a.t.now in
    let e = get_or p.energies.now l.place 0 in
    let q = lamps-at a.c p.xs.now p.ys.now p.energies.now c.requires.1 l.place i
    ∙ ap (λ (q : Point). lamp q e l.place) (sym c.convert-p.ensures) in (
      same_then a.t.now l.t new l.invariant.0 c.put.ensures.lent,
      fill_step none (lamps a.c p.xs.now p.ys.now p.energies.now) (rows R) (rows (held_mut l.t)) (rows (held_mut new)) l.place
          (lamp c.convert-p.result e l.place) c.put.ensures.rows l.invariant.1
          (omega (arith, i, lamps-length a.c p.xs.now p.ys.now p.energies.now c.requires.1))
          (omega (arith, i, rows-length R, c.requires.2)) q,
    )

pub returns-clause-rows : goal.returns-clause-rows
returns-clause-rows c =
    let l = c.loop-place in
    let a = c.args in
    let p = a.points.now in
    fill_end (lamps a.c p.xs.now p.ys.now p.energies.now) (rows (held_mut a.t.now)) (rows (held_mut l.t)) l.place (length p.xs.now)
    l.invariant.1 (lamps-length a.c p.xs.now p.ys.now p.energies.now c.requires.1) c.loop-place-test.false (omega arith)
