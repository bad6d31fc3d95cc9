-- `kdpages::Pages::next_slot` meets its contract: a slot of the page, or the page is turned. Assumes nothing.
use Rattle.std.proofs.Common.{sym, ap, ◌∙◌, inl, inr}
use Rattle.kdwalk.specs.laws.Cursor.{head_of}
use Rattle.kdpages.specs.Pages.{tail_of}
use Rattle.kdpages.proofs.Turns.{read_out, on-page}
use Rattle.kdpages.proofs.Pages.next_slot.Goals as goal
use Rattle.kdpages.proofs.Pages.next_slot.Goals.{then-self-via-then-self, then-self-via-else-self+then-page-self}

pub returns-then-self : goal.returns-then-self
returns-then-self c =
    let s = c.args.s.now in
    let read = read_out s.query s.node_size s.n s.coords.now c.args.page.now c.args.self.now
    (elim c.then-self.branch [
      | then-self-via-then-self w ↦ inl w.if-self.true
      | then-self-via-else-self+then-page-self w ↦ inr w.if-page-self.true
    ]) in
    record { value = c.turn.ensures.value ∙ ap head_of (sym read); ahead = c.turn.ensures.ahead ∙ ap tail_of (sym read) }

pub returns : goal.returns
returns c =
    let s = c.args.s.now in
    let h = on-page s.query s.node_size s.n s.coords.now c.args.page.now c.args.self.now c.if-self.false c.if-page-self.false in
    record { value = h.0; ahead = h.1 }
