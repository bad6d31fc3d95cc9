-- `posting::settle` meets its contract: each return is a case of the definition, and the lamp's own place lies in the finest table. Assumes
-- nothing.
use mathlib.Core.Path.{◌≡◌, ap, sym, ◌∙◌}
use mathlib.Core.List.{List}
use Prim.Native.Nat.{ℕ, ◌+◌, ◌<◌}
use native.Mathlib.Omega.{arith}
use lib.ListN.{get_or}
use Rattle.kdslots.specs.laws.Bounds.{and_both}
use Rattle.build_tables.specs.declared.State.{State}
use Rattle.build_tables.specs.State.{start_of}
use Rattle.build_tables.specs.laws.Sound.{GivenState, given, Stands}
use Rattle.ask_owner.specs.laws.Reach.{Spotted}
use Rattle.posting.specs.Post.{figure_of}
use Rattle.posting.specs.laws.Mends.{Ready, ready-spot, ready-stands}
use Rattle.posting.specs.laws.Ends.{another, unable, able}
use Rattle.posting.proofs.settle.Goals as goal

-- the finest table is one of the state's
bounds : (s : State) (m n lamp : ℕ) → Ready s m n lamp → GivenState s
bounds s m n lamp r = given s m (and_both _ _ r.0).0

spotted : (s : State) (m n lamp : ℕ) → Ready s m n lamp → Spotted s n lamp (s.options.max_zoom + 1)
spotted s m n lamp r = ready-spot s m n lamp r (s.options.max_zoom + 1) (omega (arith, (bounds s m n lamp r).zooms)) (omega arith)

standing : (s : State) (m n lamp : ℕ) → Ready s m n lamp → Stands s m (s.options.max_zoom + 1)
standing s m n lamp r = ready-stands s m n lamp r (s.options.max_zoom + 1) (omega (arith, (bounds s m n lamp r).zooms)) (omega arith)

-- the lamp's own energy lies in the column
inside : (s : State) (m n lamp : ℕ) → Ready s m n lamp → (from : ℕ) → from ≡ start_of s (s.options.max_zoom + 1)
    → from + lamp < m
inside s m n lamp r from e = omega (arith, e, (standing s m n lamp r).ends, (bounds s m n lamp r).finest, r.1)

-- and is its figure so far
figure-is : (s : State) (energy : List ℕ) (lamp from : ℕ) → from ≡ start_of s (s.options.max_zoom + 1)
    → get_or energy (from + lamp) 0 ≡ figure_of s energy lamp
figure-is s energy lamp from e = ap (λ (i : ℕ). get_or energy (i + lamp) 0) e

pub start_of-requires : goal.start_of-requires
start_of-requires c = (spotted _ _ _ _ c.requires.0).small

pub overflow_add-w : goal.overflow_add-w
overflow_add-w c = let i = inside _ _ _ _ c.requires.0 _ c.start_of.ensures in omega (arith, i)

pub offset_bounds-energy-start_of : goal.offset_bounds-energy-start_of
offset_bounds-energy-start_of c = let i = inside _ _ _ _ c.requires.0 _ c.start_of.ensures in omega (arith, i)

pub bounds-energy-start_of : goal.bounds-energy-start_of
bounds-energy-start_of c = inside _ _ _ _ c.requires.0 _ c.start_of.ensures

pub owner_at-requires : goal.owner_at-requires
owner_at-requires c = spotted _ _ _ _ c.requires.0

pub returns-then-owner_at-lamp : goal.returns-then-owner_at-lamp
returns-then-owner_at-lamp c =
    let a = c.args in
    let s = a.s.now in
    another s a.energy.now a.owners.now a.lamp a.figure c.requires.0 c.requires.1
    (λ e. c.if-owner_at-lamp.true (c.owner_at.ensures ∙ e))

-- past the first test the lamp is its own owner in the finest table
pub returns-then-not-all_mend : goal.returns-then-not-all_mend
returns-then-not-all_mend c =
    let a = c.args in
    let s = a.s.now in
    unable s a.energy.now a.owners.now a.lamp a.figure c.requires.0 c.requires.1
    (sym c.owner_at.ensures ∙ c.if-owner_at-lamp.false) _
    (figure-is s a.energy.now a.lamp _ c.start_of.ensures) (sym c.all_mend.ensures ∙ c.if-not-all_mend.true)

pub mend_all-requires : goal.mend_all-requires
mend_all-requires c = (c.requires.0, sym c.all_mend.ensures ∙ c.if-not-all_mend.false)

pub returns : goal.returns
returns c =
    let a = c.args in
    let s = a.s.now in
    able s a.energy.now a.owners.now a.lamp a.figure c.requires.0 c.requires.1
    (sym c.owner_at.ensures ∙ c.if-owner_at-lamp.false) _
    (figure-is s a.energy.now a.lamp _ c.start_of.ensures) _
    c.mend_all.ensures (sym c.all_mend.ensures ∙ c.if-not-all_mend.false)
