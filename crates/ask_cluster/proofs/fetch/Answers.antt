-- `ask_cluster::fetch` meets its contract: the column of one holds the sole child, where there is one. Assumes nothing.
use mathlib.Core.List.{[], ◌∷◌}
use mathlib.Core.Path.{ap, ◌∙◌}
use native.Mathlib.Omega.{arith}
use lib.ListN.{get_or}
use Rattle.std.proofs.lemmas.Result.{err_from_is_err_and}
use Rattle.build_tables.specs.Entries.{entry}
use Rattle.build_tables.specs.Lent.{tables_held}
use Rattle.ask_base.specs.laws.Around.{Around, ring_held}
use Rattle.ask_cluster.proofs.Led.{Looked, looked}
use Rattle.ask_cluster.proofs.Fetching.{fetch-refused, fetch-nobody, fetch-others, fetch-below, fetch-cluster, fetch-lamp}
use Rattle.ask_cluster.proofs.fetch.Goals as goal

pub returns-in_err-k : goal.returns-in_err-k
returns-in_err-k c =
    let a = c.args in
    let l = tables_held a.t.now in
    let g = c.ring_at-g in
    let k = c.list_kids in
    let w : Looked a.s.now l a.cid a.at.table a.at.place (0 ∷ []) k.result k.new.out =
    looked a.s.now l a.cid a.at.table a.at.place c.requires (ring_held g.result) g.ensures (0 ∷ []) k.result k.new.out k.ensures in
    let p = err_from_is_err_and c.from_residual.result c.from_residual.ensures.1 in
    rw (p.1, p.2) (fetch-refused w _ c.in_err-k.was)

pub returns-then-k-eq0 : goal.returns-then-k-eq0
returns-then-k-eq0 c =
    let a = c.args in
    let l = tables_held a.t.now in
    let g = c.ring_at-g in
    let k = c.list_kids in
    let w : Looked a.s.now l a.cid a.at.table a.at.place (0 ∷ []) k.result k.new.out =
    looked a.s.now l a.cid a.at.table a.at.place c.requires (ring_held g.result) g.ensures (0 ∷ []) k.result k.new.out k.ensures in
    fetch-nobody w c.in_ok-k.k c.in_ok-k.was c.if-k-eq0.true

pub returns-then-k-gt1 : goal.returns-then-k-gt1
returns-then-k-gt1 c =
    let a = c.args in
    let l = tables_held a.t.now in
    let g = c.ring_at-g in
    let k = c.list_kids in
    let w : Looked a.s.now l a.cid a.at.table a.at.place (0 ∷ []) k.result k.new.out =
    looked a.s.now l a.cid a.at.table a.at.place c.requires (ring_held g.result) g.ensures (0 ∷ []) k.result k.new.out k.ensures in
    fetch-others w c.in_ok-k.k c.in_ok-k.was c.if-k-gt1.true

pub at-e-requires : goal.at-e-requires
at-e-requires c =
    let a = c.args in
    let l = tables_held a.t.now in
    let g = c.ring_at-g in
    let k = c.list_kids in
    let w : Looked a.s.now l a.cid a.at.table a.at.place (0 ∷ []) k.result k.new.out =
    looked a.s.now l a.cid a.at.table a.at.place c.requires (ring_held g.result) g.ensures (0 ∷ []) k.result k.new.out k.ensures in
    let b = fetch-below w c.in_ok-k.k c.in_ok-k.was c.if-k-eq0.false c.if-k-gt1.false in
    omega (arith, b, ap (λ (x : Around). x.len) g.ensures)

pub returns-then-e-gt1 : goal.returns-then-e-gt1
returns-then-e-gt1 c =
    let a = c.args in
    let l = tables_held a.t.now in
    let g = c.ring_at-g in
    let k = c.list_kids in
    let w : Looked a.s.now l a.cid a.at.table a.at.place (0 ∷ []) k.result k.new.out =
    looked a.s.now l a.cid a.at.table a.at.place c.requires (ring_held g.result) g.ensures (0 ∷ []) k.result k.new.out k.ensures in
    let i = c.at-e.ensures ∙ ap (λ (x : Around). entry x.table (get_or k.new.out 0 0)) g.ensures in
    fetch-cluster w c.in_ok-k.k c.in_ok-k.was c.if-k-eq0.false c.if-k-gt1.false c.at-e.result i c.if-e-gt1.true

pub returns : goal.returns
returns c =
    let a = c.args in
    let l = tables_held a.t.now in
    let g = c.ring_at-g in
    let k = c.list_kids in
    let w : Looked a.s.now l a.cid a.at.table a.at.place (0 ∷ []) k.result k.new.out =
    looked a.s.now l a.cid a.at.table a.at.place c.requires (ring_held g.result) g.ensures (0 ∷ []) k.result k.new.out k.ensures in
    let i = c.at-e.ensures ∙ ap (λ (x : Around). entry x.table (get_or k.new.out 0 0)) g.ensures in
    fetch-lamp w c.in_ok-k.k c.in_ok-k.was c.if-k-eq0.false c.if-k-gt1.false c.at-e.result i c.if-e-gt1.false
