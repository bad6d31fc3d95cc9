-- `ask_tile_table::next_place` meets its contract: a slot that is ahead names a place, and none is ahead at the end. Assumes nothing.
use Rattle.std.proofs.Common.{◌≡◌, None, ◌∙◌, rules, arith}
use Rattle.ask_tile_table.specs.laws.Asked.{slots_ahead, head-none, head-some, tail-places, head-below, tail-below}
use Rattle.ask_tile_table.proofs.next_place.Goals as goal

pub returns-in_err-c-clause-value : goal.returns-in_err-c-clause-value
returns-in_err-c-clause-value c =
    let a = c.args in
    let e : c.from_residual.result ≡ None = search rules in
    e ∙ head-none a.ids.now (slots_ahead a.s.now a.page.now a.pages.now) c.in_err-c.ensures.value

pub returns-in_err-c-clause-left : goal.returns-in_err-c-clause-left
returns-in_err-c-clause-left c =
    let a = c.args in
    tail-places a.ids.now (slots_ahead a.s.now a.page.now a.pages.now) _ c.in_err-c.ensures.ahead

pub offset_bounds-ids-c : goal.offset_bounds-ids-c
offset_bounds-ids-c c =
    let a = c.args in
    omega (
      arith,
      head-below a.s.now.n (slots_ahead a.s.now a.page.now a.pages.now) c.in_ok-c.c c.in_ok-c.ensures.value c.requires.ahead,
      c.requires.named,
      c.well_formed,
    )

pub bounds-ids-c : goal.bounds-ids-c
bounds-ids-c c =
    let a = c.args in
    omega (
      arith,
      head-below a.s.now.n (slots_ahead a.s.now a.page.now a.pages.now) c.in_ok-c.c c.in_ok-c.ensures.value c.requires.ahead,
      c.requires.named,
    )

pub returns-clause-value : goal.returns-clause-value
returns-clause-value c =
    let a = c.args in
    head-some a.ids.now (slots_ahead a.s.now a.page.now a.pages.now) c.in_ok-c.c c.in_ok-c.ensures.value

pub returns-clause-left : goal.returns-clause-left
returns-clause-left c =
    let a = c.args in
    tail-places a.ids.now (slots_ahead a.s.now a.page.now a.pages.now) _ c.in_ok-c.ensures.ahead

pub returns-clause-below : goal.returns-clause-below
returns-clause-below c =
    let a = c.args in
    tail-below a.s.now.n (slots_ahead a.s.now a.page.now a.pages.now) _ c.in_ok-c.ensures.ahead c.requires.ahead
