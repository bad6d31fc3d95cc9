-- `build_one_zoom::absorb_near` meets its contract: at the head of the loop the columns and the sums so far absorb the remaining neighbours
-- to what the first ones absorb all to. Assumes nothing.
use Rattle.std.proofs.Common.{◌+◌, ◌^◌, ◌<◌, length, drop, ap, sym, ◌∙◌, subst, arith}
use Rattle.kdslots.specs.laws.All.{below_at}
use Rattle.build_tables.specs.Rows.{rows}
use Rattle.build_tables.specs.Lent.{held_mut}
use Rattle.build_tables.specs.laws.Lent.{same_then, same-even}
use Rattle.build_one_zoom.specs.Zoom.{energy_of, more_of, Absorbed, absorbed, absorb}
use Rattle.build_one_zoom.specs.laws.Turns.{more_turn, absorb-front, absorb-end, absorb-fits}
use Rattle.build_one_zoom.proofs.absorb_near.Goals as goal

pub absorb_one-s-requires : goal.absorb_one-s-requires
absorb_one-s-requires c =
    let l = c.loop-k in
    let a = c.args in
    let j = l.k-index in
    let h = c.loop-k-test.true in
    let s = l.invariant.0 in
    let t = more_turn energy_of a.z (rows (held_mut l.t)) a.near.now j h in (
      same-even a.t.now l.t s c.requires.0,
      omega (arith, s.kx, below_at (length a.t.now.x.now) a.near.now j c.requires.1 h),
      omega (arith, l.invariant.2, t),
    )

pub loop-k-preserved : goal.loop-k-preserved
loop-k-preserved c =
    let l = c.loop-k in
    let a = c.args in
    let w = c.absorb_one-s in
    let j = l.k-index in
    let h = c.loop-k-test.true in
    let s = absorbed (rows (held_mut l.t)) l.s.x l.s.y l.s.energy in (
      same_then a.t.now l.t w.new.t l.invariant.0 w.ensures.lent,
      ap (λ (q : Absorbed). absorb a.z a.p q (drop (j + 1) a.near.now)) w.ensures.rows
          ∙ sym (absorb-front a.z a.p s a.near.now j h)
          ∙ l.invariant.1,
      subst (λ (q : Absorbed). q.se + more_of energy_of a.z q.table (drop (j + 1) a.near.now) < 2 ^ 64) (sym w.ensures.rows)
          (absorb-fits a.z a.p (2 ^ 64) s a.near.now j h l.invariant.2),
    )

pub returns-clause-rows : goal.returns-clause-rows
returns-clause-rows c =
    let a = c.args in
    let l = c.loop-k in
    sym (absorb-end a.z a.p _ a.near.now l.k-index c.loop-k-test.false) ∙ l.invariant.1
