-- `kdsort::swap_item` meets its contract: the two slots' ids and both their coordinates are exchanged together, and nothing else changes.
-- Assumes nothing.
use Rattle.std.specs.Prelude.{◌≡◌, ◌+◌, ◌*◌, length}
use Rattle.std.specs.Float.{nan}
use Rattle.std.proofs.Common.{sym, ◌∙◌, ap, arith}
use Rattle.std.proofs.lemmas.List.Edits.{swap_is}
use Rattle.kdsort.specs.Cols.{swap_co, swap_ids, swap}
use Rattle.kdsort.proofs.Turns.{cols-eq}
use Rattle.kdsort.proofs.swap_item.Goals as goal

pub returns : goal.returns
unfolding swap_co swap_ids
returns c =
    let i = c.args.i in
    let j = c.args.j in
    let ids = c.args.ids.now in
    let co = c.args.coords.now in
    let first : c.swap-2.new.self ≡ swap nan co (2 * i) (2 * j) =
    c.swap-2.ensures.after ∙ sym (swap_is co (2 * i) (2 * j) nan (omega arith) (omega arith)) in
    let long : length c.swap-2.new.self ≡ length co = c.swap-2.ensures.len in
    cols-eq (c.swap.ensures.after ∙ sym (swap_is ids i j 0 (omega arith) (omega arith)))
    (c.swap-3.ensures.after ∙ sym (swap_is c.swap-2.new.self (2 * i + 1) (2 * j + 1) nan (omega arith) (omega arith))
    ∙ ap (λ (x : _). swap nan x (2 * i + 1) (2 * j + 1)) first)
