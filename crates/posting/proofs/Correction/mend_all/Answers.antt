-- `posting::Correction::mend_all` meets its contract: at the head of the loop the tables from z up are mended, and the others still can be.
-- Assumes nothing.
use mathlib.Core.Path.{◌≡◌, ap, sym, subst, ◌∙◌}
use mathlib.Core.Bool.{true}
use Prim.Native.Nat.{ℕ, ◌+◌, ◌-◌, ◌<◌, ◌≤◌}
use native.Mathlib.Omega.{arith}
use lib.ListN.{length}
use Rattle.kdslots.specs.laws.Bounds.{and_both}
use Rattle.build_tables.specs.Options.{table_count}
use Rattle.build_tables.specs.laws.Sound.{given, Stands}
use Rattle.posting.specs.Post.{mends, mended_at}
use Rattle.posting.specs.laws.Mends.{ready-spot, ready-stands, Mending, mending-first, mending-able, mending-next, mending-last}
use Rattle.posting.proofs.Correction.mend_all.Goals as goal

-- which table is next
next-is : (low z : ℕ) → low < z → low + (z - low - 1) ≡ z - 1
next-is low z h = omega (arith, h)

pub loop-z-init : goal.loop-z-init
loop-z-init c =
    let w = c.args.self.now in
    let s = w.state.now in
    let e = c.args.energy.now in
    let z = (given s _ (and_both _ _ c.requires.0.0).0).zooms in
    let k : table_count s.options ≡ s.options.max_zoom + 2 - s.options.min_zoom = omega (arith, z) in
    let m = mending-first s w.owners.now w.lamp w.before w.figure (length e) e (and_both _ _ c.requires.0.0).0 c.requires.1 in
    (omega (arith, z), subst (λ (j : ℕ). Mending s w.owners.now w.lamp w.before w.figure (length e) e j e) k m)

pub mend-requires : goal.mend-requires
mend-requires c =
    let w = c.args.self.now in
    let s = w.state.now in
    let e = c.args.energy.now in
    let l = c.loop-z in
    let g = l.invariant.1 in
    let low = s.options.min_zoom in
    let t = c.loop-z-test.true in
    let lo : low ≤ l.z - 1 = omega (arith, t) in
    let hi : l.z - 1 ≤ s.options.max_zoom + 1 = omega (arith, l.auto.z) in (
      ready-spot s (length e) (length w.owners.now) w.lamp c.requires.0 (l.z - 1) lo hi,
      subst (λ (n : ℕ). Stands s n (l.z - 1)) (sym g.long)
          (ready-stands s (length e) (length w.owners.now) w.lamp c.requires.0 (l.z - 1) lo hi),
      subst (λ (z : ℕ). mends s w.owners.now w.lamp w.before w.figure l.energy z ≡ true) (next-is low l.z t)
          (mending-able s w.owners.now w.lamp w.before w.figure _ _ (l.z - low) l.energy g (omega (arith, t))),
    )

pub loop-z-preserved : goal.loop-z-preserved
loop-z-preserved c =
    let w = c.args.self.now in
    let s = w.state.now in
    let e = c.args.energy.now in
    let l = c.loop-z in
    let low = s.options.min_zoom in
    let t = c.loop-z-test.true in
    let after = c.mend.new.energy in
    let step = mending-next s w.owners.now w.lamp w.before w.figure (length e) e (l.z - low) l.energy l.invariant.1 (omega (arith, t)) in
    let f : mended_at s w.owners.now w.lamp w.before w.figure l.energy (low + (l.z - low - 1)) ≡ after =
    ap (mended_at s w.owners.now w.lamp w.before w.figure l.energy) (next-is low l.z t) ∙ sym c.mend.ensures in
    let k : l.z - low - 1 ≡ l.z - 1 - low = omega arith in (
      omega (arith, t),
      subst (λ (j : ℕ). Mending s w.owners.now w.lamp w.before w.figure (length e) e j after) k
          (subst (Mending s w.owners.now w.lamp w.before w.figure (length e) e (l.z - low - 1)) f step),
    )

pub returns : goal.returns
returns c =
    let w = c.args.self.now in
    let s = w.state.now in
    let e = c.args.energy.now in
    let l = c.loop-z in
    let h : l.z - s.options.min_zoom ≤ 0 = omega (arith, c.loop-z-test.false) in
    mending-last s w.owners.now w.lamp w.before w.figure (length e) e (l.z - s.options.min_zoom) l.energy l.invariant.1 h
