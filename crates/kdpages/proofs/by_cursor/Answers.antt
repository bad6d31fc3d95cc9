-- `kdpages::by_cursor` meets its contract, by from where the walk goes on. Assumes nothing.
use Rattle.std.proofs.Common.{sym, ap, ◌∙◌}
use Rattle.std.specs.Option.{option_flatten}
use Rattle.kdwalk.specs.laws.Cursor.{head_of}
use Rattle.kdpages.specs.declared.Onward.{Onward}
use Rattle.kdpages.specs.Pages.{onward_of}
use Rattle.kdpages.proofs.Turns.{slot-is, slot-first, slot-after}
use Rattle.kdpages.proofs.by_cursor.Goals as goal

pub returns-in-Start : goal.returns-in-Start
returns-in-Start c =
    let s = c.args.s.now in
    c.flatten.ensures ∙ ap option_flatten c.ok.ensures.value ∙ slot-is c.first.result
    ∙ slot-first s.query s.node_size s.n s.coords.now c.first.result c.first.ensures
    ∙ sym (ap (λ (o : Onward). head_of (onward_of s.query s.node_size s.n s.coords.now o)) c.in-Start.is)

pub returns-in-After : goal.returns-in-After
returns-in-After c =
    let s = c.args.s.now in
    c.flatten-in-After.ensures ∙ ap option_flatten c.ok-in-After.ensures.value ∙ slot-is c.after.result
    ∙ slot-after s.query s.node_size s.n s.coords.now c.in-After.c c.after.result c.after.ensures
    ∙ sym (ap (λ (o : Onward). head_of (onward_of s.query s.node_size s.n s.coords.now o)) c.in-After.is)
