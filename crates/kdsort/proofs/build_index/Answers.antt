-- `kdsort::build_index` meets its contract: the loop fills the slots one after the other, and the sort does the rest. Assumes nothing.
use Rattle.std.specs.Prelude.{◌≡◌, ℕ, ◌+◌, length}
use Rattle.std.proofs.Common.{refl, ap, ◌∙◌, arith}
use Rattle.std.proofs.Math.ListN.{length-set}
use Rattle.kdsort.specs.Cols.{IndexCols}
use Rattle.kdsort.specs.Lent.{index_held_mut}
use Rattle.kdsort.specs.Shape.{shape}
use Rattle.kdsort.specs.Sort.{filled_slots, indexed, sorted}
use Rattle.kdsort.specs.laws.Indexes.{filled_more}
use Rattle.kdsort.proofs.Loans.{same-self}
use Rattle.kdsort.proofs.build_index.Goals as goal

pub loop-i-init : goal.loop-i-init
unfolding filled_slots
loop-i-init c = (refl, same-self _)

pub loop-i-preserved : goal.loop-i-preserved
loop-i-preserved c =
    let w = c.loop-i.invariant.1 in (
      filled_more _ _ _ _ _ c.loop-i.invariant.0,
      record {
        ids = w.ids;
        coords = w.coords;
        ids_length = simp length-set w.ids_length;
        coords_length = simp length-set w.coords_length;
      },
    )

pub returns-clause-built : goal.returns-clause-built
unfolding indexed
returns-clause-built c =
    let a = c.args in
    let n = length a.xs.now in
    let l = c.loop-i in
    let e : l.i ≡ n = omega arith in
    c.sort.ensures.slots
    ∙ ap (λ (x : IndexCols). sorted 0 0 n (shape (a.node_size + 1) 0 n) x)
    (l.invariant.0 ∙ ap (λ (k : ℕ). filled_slots k a.xs.now a.ys.now (index_held_mut a.index.now)) e)
