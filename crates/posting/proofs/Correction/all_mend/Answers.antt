-- `posting::Correction::all_mend` meets its contract: at the head of the loop the tables from z up can be mended. Assumes nothing.
use mathlib.Core.Path.{◌≡◌, refl, ap, sym, ◌∙◌}
use Prim.Native.Nat.{◌+◌, ◌-◌, ◌≤◌}
use native.Mathlib.Omega.{arith}
use lib.ListN.{length}
use Rattle.kdslots.specs.laws.Bounds.{and_both}
use Rattle.build_tables.specs.Options.{table_count}
use Rattle.build_tables.specs.laws.Sound.{given}
use Rattle.posting.specs.Post.{mendable}
use Rattle.posting.specs.laws.Mends.{ready-spot, ready-stands, left-no, left-yes, left-none}
use Rattle.posting.proofs.Correction.all_mend.Goals as goal

pub loop-z-init : goal.loop-z-init
loop-z-init c =
    let w = c.args.self.now in
    let s = w.state.now in
    let e = c.args.energy.now in
    let z = (given s _ (and_both _ _ c.requires.0).0).zooms in
    let k : table_count s.options ≡ s.options.max_zoom + 2 - s.options.min_zoom = omega (arith, z) in
    (omega (arith, z), ap (mendable s w.owners.now w.lamp w.before w.figure e) k)

pub mends-requires : goal.mends-requires
mends-requires c =
    let w = c.args.self.now in
    let s = w.state.now in
    let e = c.args.energy.now in
    let l = c.loop-z in
    let lo : s.options.min_zoom ≤ l.z - 1 = omega (arith, c.loop-z-test.true) in
    let hi : l.z - 1 ≤ s.options.max_zoom + 1 = omega (arith, l.auto.z) in (
      ready-spot s (length e) (length w.owners.now) w.lamp c.requires (l.z - 1) lo hi,
      ready-stands s (length e) (length w.owners.now) w.lamp c.requires (l.z - 1) lo hi,
    )

pub returns-then-not-mends : goal.returns-then-not-mends
returns-then-not-mends c =
    let w = c.args.self.now in
    let s = w.state.now in
    let e = c.args.energy.now in
    let l = c.loop-z in
    let no = left-no s w.owners.now w.lamp w.before w.figure e _ l.z refl c.loop-z-test.true (sym c.mends.ensures ∙ c.if-not-mends.true) in
    sym (l.invariant.1 ∙ no)

pub loop-z-preserved : goal.loop-z-preserved
loop-z-preserved c =
    let w = c.args.self.now in
    let s = w.state.now in
    let e = c.args.energy.now in
    let l = c.loop-z in
    let m = sym c.mends.ensures ∙ c.if-not-mends.false in
    let yes = left-yes s w.owners.now w.lamp w.before w.figure e _ l.z refl c.loop-z-test.true m in
    (omega (arith, c.loop-z-test.true), l.invariant.1 ∙ yes)

pub returns : goal.returns
returns c =
    let w = c.args.self.now in
    let s = w.state.now in
    let e = c.args.energy.now in
    let l = c.loop-z in
    sym (l.invariant.1 ∙ left-none s w.owners.now w.lamp w.before w.figure e _ l.z refl c.loop-z-test.false)
