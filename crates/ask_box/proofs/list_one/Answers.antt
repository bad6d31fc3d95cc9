-- `list_one` meets its contract, by the reply of the search. Assumes nothing.
use mathlib.Core.Path.{ap, ◌∙◌}
use Rattle.std.specs.Prelude.{Err}
use Rattle.ask_box.proofs.Parts.{came-all, came_no_room, came-past, left_there}
use Rattle.ask_box.proofs.list_one.Goals as goal

pub returns-in-Ok : goal.returns-in-Ok
returns-in-Ok c =
    let a = c.args in
    let s = a.s.now in
    let l = left_there s.query s.node_size s.n a.ids.now s.coords.now c.requires a.out.now in
    (came-all _ _ _ _ _ c.requires _ _ c.search.ensures.value _ c.in-Ok.is, c.search.ensures.out_value ∙ l)

pub returns-in-NoRoom : goal.returns-in-NoRoom
returns-in-NoRoom c =
    let a = c.args in
    let s = a.s.now in
    let l = left_there s.query s.node_size s.n a.ids.now s.coords.now c.requires a.out.now in
    (came_no_room _ _ _ _ _ c.requires _ _ c.search.ensures.value _ (c.in-Err.is ∙ ap Err c.in-NoRoom.is), c.search.ensures.out_value ∙ l)

pub returns-in_default : goal.returns-in_default
returns-in_default c =
    let a = c.args in
    let s = a.s.now in
    let l = left_there s.query s.node_size s.n a.ids.now s.coords.now c.requires a.out.now in
    (came-past _ _ _ _ _ c.requires _ _ c.search.ensures.value _ c.in-Err.is c.in_default.not-NoRoom, c.search.ensures.out_value ∙ l)
