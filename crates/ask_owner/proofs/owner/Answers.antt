-- `ask_owner::owner` meets its contract: the lamp's spot lies in the column, and its place is tested against the table of the zoom used.
-- Assumes nothing.
use mathlib.Core.Bool.{true}
use mathlib.Core.List.{List}
use mathlib.Core.Path.{◌≡◌, sym, subst, ◌∙◌}
use Prim.Native.Nat.{ℕ, ◌<◌}
use native.Mathlib.Omega.{arith}
use borrow.Author.Tests.{lt-ltb, le-ltb}
use lib.ListN.{length, get_or}
use Rattle.build_tables.specs.declared.State.{State}
use Rattle.build_tables.specs.Options.{zoom_used}
use Rattle.build_tables.specs.State.{len_of}
use Rattle.ask_owner.specs.Asked.{owners_reach, owner_spot, owner_within, owner_read, owner_asked}
use Rattle.ask_owner.specs.laws.Reach.{Spotted, spotted}
use Rattle.ask_owner.proofs.owner.Goals as goal

-- of a lamp of the build, in a column that reaches over the tables of a sound state; z is the zoom used
module _ (s : State) (owners : List ℕ) (lamp zoom : ℕ) (r : owners_reach s (length owners) (length owners) ≡ true) (l : lamp < s.count)
    (z : ℕ) (e : z ≡ zoom_used s.options zoom) where
  spot-in : Spotted s (length owners) lamp z
  spot-in = subst (Spotted s (length owners) lamp) (sym e) (spotted s (length owners) (length owners) lamp zoom r l)

  asked : (at len : ℕ) → at ≡ owner_spot s lamp z → len ≡ len_of s z
      → owner_within (get_or owners at 0) len ≡ owner_asked s owners lamp zoom
  unfolding owner_asked
  asked at len f g =
      let a : owner_asked s owners lamp zoom ≡ owner_read s owners lamp (zoom_used s.options zoom) = simp (r, lt-ltb lamp s.count l) in
      rw (g, f, e) (sym a)

pub returns-then-not-reaches : goal.returns-then-not-reaches
unfolding owner_asked
returns-then-not-reaches c = simp (sym c.reaches.ensures ∙ c.if-not-reaches.true)

pub returns-then-s-lamp : goal.returns-then-s-lamp
unfolding owner_asked
returns-then-s-lamp c = simp (sym c.reaches.ensures ∙ c.if-not-reaches.false, le-ltb _ _ c.if-s-lamp.true)

pub spot-requires : goal.spot-requires
spot-requires c =
    let a = c.args in
    let r = sym c.reaches.ensures ∙ c.if-not-reaches.false in
    let k = spot-in a.s a.owners.now a.lamp a.zoom r c.if-s-lamp.false _ c.zoom_used-z.ensures in
    (k.top, omega (arith, k.inside))

pub bounds-owners-spot : goal.bounds-owners-spot
bounds-owners-spot c =
    let a = c.args in
    let r = sym c.reaches.ensures ∙ c.if-not-reaches.false in
    let k = spot-in a.s a.owners.now a.lamp a.zoom r c.if-s-lamp.false _ c.zoom_used-z.ensures in
    omega (arith, c.spot.ensures, k.inside)

pub len_of-len-requires : goal.len_of-len-requires
len_of-len-requires c =
    let a = c.args in
    let r = sym c.reaches.ensures ∙ c.if-not-reaches.false in
    (spot-in a.s a.owners.now a.lamp a.zoom r c.if-s-lamp.false _ c.zoom_used-z.ensures).small

pub returns-then-place-len : goal.returns-then-place-len
returns-then-place-len c =
    let a = c.args in
    let r = sym c.reaches.ensures ∙ c.if-not-reaches.false in
    let e = asked a.s a.owners.now a.lamp a.zoom r c.if-s-lamp.false _ c.zoom_used-z.ensures _ _ c.spot.ensures c.len_of-len.ensures in
    rw (lt-ltb _ _ c.if-place-len.true) at e

pub returns : goal.returns
returns c =
    let a = c.args in
    let r = sym c.reaches.ensures ∙ c.if-not-reaches.false in
    let e = asked a.s a.owners.now a.lamp a.zoom r c.if-s-lamp.false _ c.zoom_used-z.ensures _ _ c.spot.ensures c.len_of-len.ensures in
    rw (le-ltb _ _ c.if-place-len.false) at e
