-- `State::is_sound` meets its contract: past the first two tests the options and the count are within bounds. Assumes nothing.
use Rattle.std.proofs.Common.{sym, ◌∙◌}
use Rattle.kdslots.specs.laws.Bounds.{count-is}
use Rattle.build_tables.specs.laws.Bounds.{options-are}
use Rattle.build_tables.proofs.State.is_sound.Goals as goal

pub is_filled-requires : goal.is_filled-requires
is_filled-requires c =
    let b = options-are c.args.self.now.options (sym c.is_in_bounds.ensures ∙ c.if-not-is_in_bounds.false) in
    (b.zooms, b.zoom-to, (count-is _ (sym c.count_ok.ensures ∙ c.if-count_ok.true)).1)
