-- `build_all_zooms::run_zooms` meets its contract: at the head of the loop the table of zoom z stands indexed, and what is written with
-- what is left to write is the whole. Assumes nothing.
use Rattle.std.proofs.Common.{◌≡◌, ◌-◌, ◌≤◌, length}
use Rattle.kdsort.specs.Lent.{SameIndex}
use Rattle.build_tables.specs.Columns.{part}
use Rattle.build_tables.specs.Lent.{held_mut, SameColumns}
use Rattle.build_tables.specs.Rows.{rows}
use Rattle.build_all_zooms.specs.Zooms.{zoom_plan}
use Rattle.build_all_zooms.specs.laws.Running.{Running}
use Rattle.build_all_zooms.specs.laws.Progress.{whole_progress, Progress}
use Rattle.build_all_zooms.proofs.run_zooms.Given as goal

abbrev pub invariant-loop-z : goal.invariant-loop-z
invariant-loop-z l =
    let p = zoom_plan l.o l.n in
    let first = rows (held_mut l.initial.t) in
    let here = rows (held_mut l.t) in
    let i = l.initial.index in
    let j = l.index in
    let k = l.z - l.o.min_zoom in
    SameColumns l.initial.t l.t × SameIndex l.initial.index l.index × (l.o.min_zoom ≤ l.z)
    × Running p (length l.initial.t.x.now) k l.start l.len here j.ids.now j.coords.now
    × Progress p
    (whole_progress p (l.initial.z - l.o.min_zoom) (part 0 l.initial.len first) l.initial.s.starts l.initial.s.lens) first i.ids.now
    i.coords.now k l.start l.len here j.ids.now j.coords.now l.s.starts l.s.lens
    × (l.s.options ≡ l.initial.s.options) × (l.s.count ≡ l.initial.s.count)
