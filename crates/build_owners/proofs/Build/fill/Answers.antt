-- `build_owners::Build::fill` meets its contract: at the head of the loop the owners down to table z are written. Assumes nothing.
use Rattle.std.proofs.Common.{ℕ, refl, ap, ◌∙◌, arith, replicate}
use Rattle.build_owners.specs.laws.Climbs.{rows_of}
use Rattle.build_owners.specs.laws.AllTables.{going-first, going_next, going-last}
use Rattle.build_owners.proofs.Build.fill.Goals as goal

pub loop-z-init : goal.loop-z-init
loop-z-init c =
    let b = c.args.self.now in
    (refl, going-first b.state.now (rows_of b) c.requires.0 _ 0 _ _ refl refl c.own_themselves.ensures)

pub loop-z-preserved : goal.loop-z-preserved
loop-z-preserved c =
    let b = c.args.self.now in
    let l = c.loop-z in (
      c.one_table.auto.to ∙ l.invariant.0,
      going_next b.state.now (rows_of b) c.requires.0 l.z l.at c.own_themselves.new.owners l.owners l.invariant.1 (omega arith)
          c.one_table.new.owners c.one_table.ensures,
    )

pub returns : goal.returns
returns c =
    let b = c.args.self.now in
    let l = c.loop-z in (
      c.fill.ensures.after (λ y e. e) ∙ ap (λ (k : ℕ). replicate k 0) l.invariant.0,
      going-last b.state.now (rows_of b) c.requires.0 l.z l.at c.own_themselves.new.owners l.owners l.invariant.1 (λ (k : ℕ). k)
          c.args.owners.now (omega arith) c.own_themselves.ensures c.requires.2,
    )
