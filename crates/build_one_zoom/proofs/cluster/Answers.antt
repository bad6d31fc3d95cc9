-- `build_one_zoom::cluster` meets its contract: at the head of the loop what is still to be scanned leads to the definition's scan, there
-- is room for what it can make, every entry of the table is at a finite place, and the notes are those of the table. Assumes nothing.
use Rattle.std.proofs.Common.{refl, ℕ, List, take, ap, sym, ◌∙◌, subst, arith, Float}
use Rattle.kdslots.specs.laws.All.{All}
use Rattle.build_tables.specs.Entries.{Table}
use Rattle.build_tables.specs.Lent.{held_mut}
use Rattle.build_tables.specs.Rows.{rows}
use Rattle.build_tables.specs.laws.Rows.{rows-length}
use Rattle.build_tables.specs.laws.Lent.{same-refl, same_then, same-even}
use Rattle.build_one_zoom.specs.Zoom.{num_of, energy_of, Scan, scan_one}
use Rattle.build_one_zoom.specs.Scanned.{scan_of, Scanned}
use Rattle.build_one_zoom.specs.Around.{around}
use Rattle.build_one_zoom.specs.laws.Near.{Placed}
use Rattle.build_one_zoom.specs.laws.Keeps.{Keeps, kept-all, keep_one}
use Rattle.build_one_zoom.specs.laws.Notes.{Noted, noted-same, kept-noted}
use Rattle.build_one_zoom.specs.laws.Scanning.{scanning-start, scanning-step, scanning-end}
use Rattle.build_one_zoom.proofs.cluster.Goals as goal

-- what stores in the table keep holds after a step of the scan
kept_step : (n least z : ℕ) (near : Float → Float → List ℕ) (len d i d' : ℕ) (t t' : Table) (P : Table → Type 0)
    → Scanned len d (scan_one n least z near (scan_of len d t) i) t t' d' → Keeps z P → P (take len t) → P (take len t')
kept_step n least z near len d i d' t t' P s k p =
    subst P (sym (ap (λ (q : Scan). q.table) s.scan)) (keep_one z P k n least near (scan_of len d t) i _ refl p)

pub loop-i-init : goal.loop-i-init
loop-i-init c =
    let a = c.args in
    let z = a.zoom.now in
    let k = held_mut a.t.now in (
      same-refl a.t.now,
      scanning-start z.count z.least z.z (around z) z.len (rows k) (rw (rows-length k) c.requires.2),
      c.requires.1.placed,
      c.note_all.ensures (take z.len (rows k)) c.requires.1.slotted,
    )

pub scan_one-done-requires : goal.scan_one-done-requires
scan_one-done-requires c =
    let l = c.loop-i in
    let v = l.invariant.1 in (
      same-even c.args.t.now l.t l.invariant.0 c.requires.0,
      c.requires.1.searchable,
      omega (arith, l.auto.near, c.note_all.auto.near, c.requires.1.notes),
      c.loop-i-test.true,
      l.invariant.2,
      l.invariant.3,
      omega (arith, v.room, rows-length (held_mut l.t)),
      omega (arith, v.light num_of (λ e q. refl), c.requires.1.lamps),
      omega (arith, v.light energy_of (λ e q. refl), c.requires.1.watts),
    )

pub loop-i-preserved : goal.loop-i-preserved
loop-i-preserved c =
    let l = c.loop-i in
    let a = c.args in
    let z = a.zoom.now in
    let w = c.scan_one-done in
    let old = held_mut l.t in
    let new = held_mut w.new.t in
    let s = w.ensures.rows in
    let kept = kept_step z.count z.least z.z (around z) z.len l.done l.i w.result (rows old) (rows new) in (
      same_then a.t.now l.t w.new.t l.invariant.0 w.ensures.lent,
      scanning-step z.count z.least z.z (around z) z.len (rows (held_mut a.t.now)) (rows old) (rows new) l.done w.result l.i
          l.invariant.1 c.loop-i-test.true s (rows-length new ∙ w.ensures.lent.kx ∙ sym (rows-length old)),
      kept (λ q. All Placed q) s (kept-all Placed z.z (λ e q h. h) (λ e q h. h)) l.invariant.2,
      noted-same z.count z.len (around z) l.near w.new.near _ z.few w.ensures.same
          (kept (Noted z.count z.len (around z) l.near) s (kept-noted z.z z.count z.len (around z) l.near) l.invariant.3),
    )

pub returns-clause-rows : goal.returns-clause-rows
returns-clause-rows c =
    let l = c.loop-i in
    let a = c.args in
    let z = a.zoom.now in
    scanning-end z.count z.least z.z (around z) z.len (rows (held_mut a.t.now)) (rows (held_mut l.t)) l.done l.i l.invariant.1
    c.loop-i-test.false
