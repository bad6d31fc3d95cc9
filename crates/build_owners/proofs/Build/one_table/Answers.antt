-- `build_owners::Build::one_table` meets its contract: by what `send` and `climb` leave. Assumes nothing.
use Rattle.std.proofs.Common.{arith, ◌∙◌}
use Rattle.build_owners.specs.laws.Climbs.{rows_of}
use Rattle.build_owners.specs.laws.OneTable.{sends-here, sits_here, climbed-here}
use Rattle.build_owners.proofs.Build.one_table.Goals as goal

pub send-requires : goal.send-requires
send-requires c =
    let a = c.args in
    let r = c.requires in
    (omega (arith, r.0.zoom-to, r.2), sends-here a.self.now.state.now (rows_of a.self.now) a.z r.0 r.1 r.2 a.owners.now a.at r.4 r.5 _ r.3)

pub climb-requires : goal.climb-requires
climb-requires c =
    let a = c.args in
    let r = c.requires in (
      omega (arith, r.0.zoom-to, r.2),
      sits_here a.self.now.state.now (rows_of a.self.now) a.z r.0 r.1 r.2 a.owners.now a.at r.4 r.5 _ (c.send.auto.to ∙ r.3),
    )

pub returns : goal.returns
returns c =
    let a = c.args in
    let r = c.requires in
    climbed-here a.self.now.state.now (rows_of a.self.now) a.z r.0 r.1 r.2 a.owners.now a.at r.4 r.5 c.send.new.to _ c.send.ensures
    c.climb.ensures
