-- `list_used` meets its contract: the table of the zoom used stands in the columns, and its index may be searched. Assumes nothing.
use Rattle.ask_box.specs.laws.Standing.{used-small, used-standing, used-index}
use Rattle.ask_box.proofs.list_used.Goals as goal

pub index_at-part-requires : goal.index_at-part-requires
index_at-part-requires c =
    let a = c.args in
    let i = a.index.now in
    rw c.zoom_used-z.ensures (used-standing a.s.now i.ids.now i.coords.now a.zoom c.requires)

pub len_of-requires : goal.len_of-requires
len_of-requires c =
    let a = c.args in
    let i = a.index.now in
    used-small a.s.now i.ids.now i.coords.now a.zoom c.requires _ c.zoom_used-z.ensures

pub list_plan-requires : goal.list_plan-requires
list_plan-requires c =
    let a = c.args in
    let i = a.index.now in
    let e = c.index_at-part.ensures in
    rw (e.ids, e.coords, c.len_of.ensures, c.zoom_used-z.ensures) (used-index a.s.now i.ids.now i.coords.now a.zoom c.requires)
