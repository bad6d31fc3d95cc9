-- `build_owners::Build::climb` meets its contract: at the head of the loop the next owners of the first l lamps are written, and nothing
-- else. Assumes nothing.
use Rattle.std.proofs.Common.{◌≡◌, ◌+◌, inl, arith, get_or}
use Rattle.build_tables.specs.Lent.{held}
use Rattle.build_tables.specs.laws.Rows.{rows-length}
use Rattle.build_owners.proofs.Build.climb.Goals as goal

pub at-e-requires : goal.at-e-requires
at-e-requires c =
    let a = c.args in
    let l = c.loop-l in
    let k : get_or l.owners (a.at + l.l) 0 ≡ get_or a.owners.now (a.at + l.l) 0 = l.invariant.kept (a.at + l.l) (inl (omega arith)) in
    omega (arith, k, c.requires.1.inside l.l (omega arith), rows-length (held a.self.now.entries))
