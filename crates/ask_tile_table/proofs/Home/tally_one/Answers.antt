-- `ask_tile_table::Home::tally_one` meets its contract: each return is one law of `counted`, for one place. Assumes nothing.
use Rattle.std.proofs.Common.{◌≡◌, ◌+◌, Ok, ℕ, List, length, sym, ap, ap₂, ◌∙◌, arith}
use Rattle.build_tables.specs.Rows.{rows}
use Rattle.build_tables.specs.laws.Rows.{rows-length}
use Rattle.build_tables.specs.Lent.{held}
use Rattle.ask_tile_table.specs.laws.Turns.{named-bad, named-at, named-fine}
use Rattle.ask_tile_table.specs.laws.Marks.{marked_places}
use Rattle.ask_tile_table.specs.laws.Home.{weight_by}
use Rattle.ask_tile_table.specs.laws.Counting.{held_marks, running, mark_of, doubt, added, marking_place, counted-bad, counted-doubt, counted-one}
use Rattle.ask_tile_table.specs.laws.Told.{mark-below}
use Rattle.ask_tile_table.proofs.Home.tally_one.Goals as goal

pub returns-in_default-clause-held : goal.returns-in_default-clause-held
returns-in_default-clause-held c =
    let a = c.args in
    let t = rows (held a.t.now) in
    counted-bad a.few (weight_by a.self.now) t a.r.count a.r.sum a.p a.marks.now
    (named-bad t a.p (sym c.entry_named.ensures ∙ c.in_default.is))

pub is_marked-requires : goal.is_marked-requires
is_marked-requires c =
    let a = c.args in
    let k = held a.t.now in
    let f = named-fine (rows k) a.p c.in-Some.e (sym c.entry_named.ensures ∙ c.in-Some.is) in
    let b = mark-below a.few (length a.t.now.x.now) a.p (omega (arith, f.inside, rows-length k)) in
    omega (arith, b, c.mark_of-q.ensures, c.requires.reach)

pub returns-then-in_doubt-clause-held : goal.returns-then-in_doubt-clause-held
returns-then-in_doubt-clause-held c =
    let a = c.args in
    let t = rows (held a.t.now) in
    let d : c.in_doubt.result ≡ doubt a.few a.r.count (marked_places a.marks.now (mark_of a.few a.p)) = c.in_doubt.ensures
    ∙ ap (doubt a.few a.r.count) (c.is_marked.ensures ∙ ap (marked_places a.marks.now) c.mark_of-q.ensures) in
    counted-doubt a.few (weight_by a.self.now) t a.r.count a.r.sum a.p a.marks.now
    (named-at t a.p c.in-Some.e (sym c.entry_named.ensures ∙ c.in-Some.is)).0 (sym d ∙ c.if-in_doubt.true)

pub add_once-sum-requires : goal.add_once-sum-requires
add_once-sum-requires c =
    let a = c.args in
    let k = held a.t.now in
    let f = named-fine (rows k) a.p c.in-Some.e (sym c.entry_named.ensures ∙ c.in-Some.is) in
    let b = mark-below a.few (length a.t.now.x.now) a.p (omega (arith, f.inside, rows-length k)) in
    (omega (arith, b, c.mark_of-q.ensures, c.requires.reach), omega (arith, c.requires.count_bound))

pub returns-clause-held : goal.returns-clause-held
returns-clause-held c =
    let a = c.args in
    let t = rows (held a.t.now) in
    let m = a.marks.now in
    let n = named-at t a.p c.in-Some.e (sym c.entry_named.ensures ∙ c.in-Some.is) in
    let d : c.in_doubt.result ≡ doubt a.few a.r.count (marked_places m (mark_of a.few a.p)) = c.in_doubt.ensures
    ∙ ap (doubt a.few a.r.count) (c.is_marked.ensures ∙ ap (marked_places m) c.mark_of-q.ensures) in
    ap₂ (λ (u : ℕ) (o : List ℕ). held_marks (Ok (running (a.r.count + 1) u)) o)
    (c.add_once-sum.ensures.0
    ∙ ap₂ (λ (i j : ℕ). added i j a.r.sum m) (c.weigh.ensures ∙ ap (weight_by a.self.now) n.1) c.mark_of-q.ensures)
    (c.add_once-sum.ensures.1 ∙ ap (λ (j : ℕ). marking_place j m) c.mark_of-q.ensures)
    ∙ counted-one a.few (weight_by a.self.now) t a.r.count a.r.sum a.p m n.0 (sym d ∙ c.if-in_doubt.false)
