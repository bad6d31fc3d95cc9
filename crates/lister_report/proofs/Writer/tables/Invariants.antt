-- The lines of the tables from z on are written, `Storing`, and there is room for the others.
use Rattle.std.proofs.Common.{◌≡◌, ℕ, List, ◌+◌, ◌-◌, ◌*◌, ◌≤◌, length}
use Rattle.build_tables.specs.declared.State.{State}
use Rattle.build_tables.specs.Entries.{Table}
use Rattle.build_tables.specs.Lent.{held as columns_of}
use Rattle.build_tables.specs.Rows.{rows}
use Rattle.build_all_zooms.specs.Zooms.{joined}
use Rattle.lister_report.specs.Lines.{line_room, tables_text}
use Rattle.lister_report.specs.laws.Put.{Storing}
use Rattle.supercluster.specs.laws.Held.{held, held_by}
use Rattle.lister_report.proofs.Writer.tables.Given as goal

-- the tables below z
abbrev pub left-of : State → Table → ℕ → List Table
left-of s t z = held s.starts s.lens t s.options.min_zoom (z - s.options.min_zoom)

abbrev pub invariant-loop-z : goal.invariant-loop-z
invariant-loop-z l =
    let t = rows (columns_of l.t) in
    (l.z-start ≡ l.s.options.min_zoom) × (l.z ≤ l.s.options.max_zoom + 2)
    × (l.self.at + line_room * length (joined (left-of l.s t l.z)) ≤ length l.initial.self.out.now)
    × Storing l.initial.self (tables_text (l.s.options.max_zoom + 1) (held_by l.s t)) l.self (tables_text (l.z - 1) (left-of l.s t l.z))
