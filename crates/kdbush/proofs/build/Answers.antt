-- `kdbush::build` meets its contract, by its ways out. Assumes nothing.
use Rattle.std.proofs.Common.{sym, ◌∙◌, rules}
use borrow.Author.Tests.{le-leb, lt-leb, eq-eqb, ne_eqb}
use Rattle.kdsort.specs.Lent.{index_held_mut}
use Rattle.kdslots.specs.laws.Bounds.{both_true, first-false, second-false}
use Rattle.kdbush.proofs.Replies.{build-options, build-count, build-point, build-tables, build-done}
use Rattle.kdbush.proofs.build.Goals as goal
use Rattle.kdbush.proofs.build.Goals.{then-not-count_ok-via-then-not-count_ok, then-not-count_ok-via-else-not-count_ok+then-ys-n}
use Rattle.kdbush.proofs.build.Goals.{then-index-n-via-then-index-n, then-index-n-via-else-index-n+then-index-n-2}

pub returns-then-not-node_size_ok : goal.returns-then-not-node_size_ok
returns-then-not-node_size_ok c =
    let a = c.args in
    let h = build-options a.node_size a.xs.now a.ys.now (index_held_mut a.index.now) (sym c.if-not-node_size_ok.ensures) in
    record { result_value = h.0; index_value = h.1; lent = search rules }

pub returns-then-not-count_ok : goal.returns-then-not-count_ok
returns-then-not-count_ok c =
    let a = c.args in
    let h = build-count a.node_size a.xs.now a.ys.now (index_held_mut a.index.now) (sym c.if-not-node_size_ok.ensures)
    (elim c.then-not-count_ok.branch [
      | then-not-count_ok-via-then-not-count_ok w ↦ first-false _ (sym c.count_ok.ensures ∙ w.if-not-count_ok.true)
      | then-not-count_ok-via-else-not-count_ok+then-ys-n w ↦
          second-false (sym c.count_ok.ensures ∙ w.if-not-count_ok.false) (ne_eqb _ _ w.if-ys-n.true)
    ]) in
    record { result_value = h.0; index_value = h.1; lent = search rules }

pub returns-in-Some : goal.returns-in-Some
returns-in-Some c =
    let a = c.args in
    let h = build-point a.node_size a.xs.now a.ys.now (index_held_mut a.index.now) (sym c.if-not-node_size_ok.ensures)
    (both_true (sym c.if-not-count_ok.ensures) (eq-eqb _ _ c.if-ys-n.false)) c.in-Some.i c.in-Some.ensures in
    record { result_value = h.0; index_value = h.1; lent = search rules }

pub returns-then-index-n : goal.returns-then-index-n
returns-then-index-n c =
    let a = c.args in
    let h = build-tables a.node_size a.xs.now a.ys.now (index_held_mut a.index.now) (sym c.if-not-node_size_ok.ensures)
    (both_true (sym c.if-not-count_ok.ensures) (eq-eqb _ _ c.if-ys-n.false)) c.in_default.ensures
    (elim c.then-index-n.branch [
      | then-index-n-via-then-index-n w ↦ first-false _ (lt-leb _ _ w.if-index-n.true)
      | then-index-n-via-else-index-n+then-index-n-2 w ↦ second-false (le-leb _ _ w.if-index-n.false) (lt-leb _ _ w.if-index-n-2.true)
    ]) in
    record { result_value = h.0; index_value = h.1; lent = search rules }

pub returns : goal.returns
returns c =
    let a = c.args in
    let h = build-done a.node_size a.xs.now a.ys.now (index_held_mut a.index.now) (sym c.if-not-node_size_ok.ensures)
    (both_true (sym c.if-not-count_ok.ensures) (eq-eqb _ _ c.if-ys-n.false)) c.in_default.ensures
    (both_true (le-leb _ _ c.if-index-n.false) (le-leb _ _ c.if-index-n-2.false)) in
    record { result_value = h.0; index_value = c.build_index.ensures.built ∙ h.1; lent = search rules }
