-- `ask_tile_table::add_once` meets its contract: a bit that is not set is added. Assumes nothing.
use Rattle.std.proofs.Common.{◌/◌, ◌%◌, refl, sym, ◌∙◌, get_or, arith}
use Rattle.ask_tile_table.specs.laws.Marks.{unmarked, mark-is, bit-fits}
use Rattle.ask_tile_table.proofs.add_once.Goals as goal

pub overflow_add-marks : goal.overflow_add-marks
overflow_add-marks c =
    let a = c.args in
    let h = bit-fits (get_or a.marks.now (a.q / 8) 0) (a.q % 8) (omega arith) (omega arith)
    (unmarked a.marks.now a.q (sym c.is_marked.ensures ∙ c.if-is_marked.false)) in
    omega (arith, h, c.bit.ensures)

pub returns : goal.returns
returns c =
    let a = c.args in
    rw (sym c.is_marked.ensures ∙ c.if-is_marked.false) (
      refl,
      mark-is a.marks.now a.q c.bit.result c.bit.ensures,
      omega (arith, c.ranges.num.fits),
    )
