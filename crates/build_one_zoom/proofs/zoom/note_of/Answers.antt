-- `build_one_zoom::zoom::note_of` meets its contract. Assumes nothing.
use Rattle.build_one_zoom.specs.laws.Notes.{tells-nothing, tells-before, tells-behind}
use Rattle.build_one_zoom.proofs.zoom.note_of.Goals as goal

pub returns-then-second-gt-MOST_COUNT : goal.returns-then-second-gt-MOST_COUNT
returns-then-second-gt-MOST_COUNT c = λ l rest h e f. tells-nothing _ l

pub returns-then-first-own : goal.returns-then-first-own
returns-then-first-own c =
    let a = c.args in
    λ l rest h e f. tells-before a.own l rest a.first a.second h e f c.if-first-own.true

pub returns-then-second-own : goal.returns-then-second-own
returns-then-second-own c = λ l rest h e f. tells-nothing _ l

pub returns-then-first-gt-MOST_COUNT : goal.returns-then-first-gt-MOST_COUNT
returns-then-first-gt-MOST_COUNT c = λ l rest h e f. tells-nothing _ l

pub returns : goal.returns
returns c =
    let a = c.args in
    λ l rest h e f. tells-behind a.own l rest a.first a.second h e f c.if-second-own.false
