-- `kdpages::Pages::turn` meets its contract: a walk that does not go on is done; else by the cursor where the page has no slots, and
-- otherwise by how full the page is. Assumes nothing.
use Rattle.std.proofs.Common.{sym, refl, ap, ◌∙◌, [], arith}
use Rattle.kdwalk.specs.laws.Cursor.{head_of}
use Rattle.std.proofs.lemmas.Bool.{eqb-false}
use Rattle.kdpages.specs.declared.Onward.{Onward}
use Rattle.kdpages.specs.declared.Pages.{Pages}
use Rattle.kdpages.specs.Pages.{onward_of, ahead_of, tail_of, stepped_of}
use Rattle.kdpages.proofs.Turns.{stepped-ahead, turn-none, turn-part, turn-full, page-room}
use Rattle.kdpages.proofs.Pages.turn.Goals as goal
use Rattle.kdpages.proofs.Pages.turn.Goals.{then-k-page, else-k-page}

pub returns-in-Nothing : goal.returns-in-Nothing
returns-in-Nothing c =
    let s = c.args.s.now in
    let from = c.args.self.now.onward in
    let page = c.args.page.now in
    let none = ap (λ (o : Onward). onward_of s.query s.node_size s.n s.coords.now o) c.in-Nothing.is in
    record {
      value = ap head_of (sym none);
      ahead = ap (λ (p : Pages). ahead_of s.query s.node_size s.n s.coords.now page p) c.stepped.ensures
          ∙ stepped-ahead s.query s.node_size s.n s.coords.now from page [] none ∙ ap tail_of (sym none);
    }

pub returns-then-is_empty-clause-ahead : goal.returns-then-is_empty-clause-ahead
returns-then-is_empty-clause-ahead c =
    let s = c.args.s.now in
    let from = c.args.self.now.onward in
    let page = c.args.page.now in
    ap (λ (p : Pages). ahead_of s.query s.node_size s.n s.coords.now page p)
    (c.stepped-then-is_empty.ensures ∙ ap stepped_of c.by_cursor-found.ensures)
    ∙ stepped-ahead s.query s.node_size s.n s.coords.now from page (onward_of s.query s.node_size s.n s.coords.now from) refl

pub returns-then-k-eq0 : goal.returns-then-k-eq0
returns-then-k-eq0 c =
    let s = c.args.s.now in
    let page = c.args.page.now in
    let o = c.fill_page-k.new.page in
    let some = eqb-false _ 0 (sym c.if-is_empty.ensures) in
    let h = turn-none s.query s.node_size s.n s.coords.now c.args.self.now.onward page o c.fill_page-k.result c.fill_page-k.ensures
    c.if-k-eq0.true (omega (arith, some)) in
    record {
      value = h.0;
      ahead = ap (λ (p : Pages). ahead_of s.query s.node_size s.n s.coords.now o p) c.stepped-then-k-eq0.ensures ∙ h.1;
    }

pub offset_bounds-page-k : goal.offset_bounds-page-k
offset_bounds-page-k c =
    let s = c.args.s.now in
    let room = page-room s.query s.node_size s.n s.coords.now c.args.self.now.onward c.args.page.now c.fill_page-k.new.page
    c.fill_page-k.result c.fill_page-k.ensures in
    omega (arith, room, c.if-k-eq0.false)

pub bounds-page-k : goal.bounds-page-k
bounds-page-k c =
    let s = c.args.s.now in
    let room = page-room s.query s.node_size s.n s.coords.now c.args.self.now.onward c.args.page.now c.fill_page-k.new.page
    c.fill_page-k.result c.fill_page-k.ensures in
    omega (arith, room, c.if-k-eq0.false)

pub returns : goal.returns
returns c =
    let s = c.args.s.now in
    let from = c.args.self.now.onward in
    let page = c.args.page.now in
    let o = c.fill_page-k.new.page in
    let k = c.fill_page-k.result in
    let filled = c.fill_page-k.ensures in
    let h = turn-full s.query s.node_size s.n s.coords.now from page o k filled (omega (arith, c.if-k-eq0.false)) in
    let stands = λ (x : Onward). ahead_of s.query s.node_size s.n s.coords.now o (record { len = k; at = 1; onward = x }) in
    record {
      value = h.0;
      ahead =
          elim c.if-k-page.branch [
            | then-k-page w ↦ ap stands w.onward-is
                ∙ (turn-part s.query s.node_size s.n s.coords.now from page o k filled (omega (arith, c.if-k-eq0.false)) w.if-k-page.true).1
            | else-k-page w ↦ ap stands w.onward-is ∙ h.1
          ];
    }
