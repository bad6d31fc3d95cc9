-- `build_one_zoom::zoom::Zoom::note_all` meets its contract: at the head of the loop every note that there is, is the answer at its entry.
-- Assumes nothing.
use Rattle.build_tables.specs.Entries.{Table}
use Rattle.build_one_zoom.specs.Around.{around}
use Rattle.build_one_zoom.specs.laws.Notes.{Noted, Slotted}
use Rattle.build_one_zoom.proofs.zoom.Zoom.note_all.Given as goal

abbrev pub invariant-loop-s : goal.invariant-loop-s
invariant-loop-s l =
    let z = l.self in
    (t : Table) → Slotted z.len z.index.ids.now z.index.coords.now t → Noted z.count z.len (around z) l.near t
