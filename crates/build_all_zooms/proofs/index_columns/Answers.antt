-- `build_all_zooms::index_columns` meets its contract: such points in such columns are not refused. Assumes nothing.
use Rattle.std.proofs.Common.{◌≡◌, ◌∙◌, rules}
use Rattle.kdsort.specs.Cols.{index_cols}
use Rattle.kdsort.specs.Lent.{index_held_mut}
use Rattle.kdbush.specs.laws.Indexed.{built-is}
use Rattle.build_all_zooms.proofs.index_columns.Goals as goal

pub returns : goal.returns
returns c =
    let a = c.args in
    let left : index_held_mut c.build.new.index ≡ _
    = c.build.ensures.index_value
    ∙ built-is a.size a.xs.now a.ys.now c.requires.points (index_cols a.ids.now a.coords.now) c.requires.room.0 c.requires.room.1 in
    search (rules, left)
