-- `owners::load_in` meets its contract: what `build_in` leaves, lent a front of `near`, and what `build_owners::fill` leaves then, are the
-- build and its owner column; and they have one owner for every lamp. Assumes nothing.
use Rattle.std.proofs.Common.{◌≡◌, refl, Ok, Err}
use Rattle.std.proofs.lemmas.Result.{err_from_is_err_and}
use Rattle.build_tables.specs.Rows.{cols}
use Rattle.supercluster.specs.Build.{build_columns, outcome}
use Rattle.supercluster.specs.Lent.{given_all_mut}
use Rattle.law_builds.specs.Given.{given_build}
use Rattle.law_lamps.specs.Owner.{owner}
use Rattle.owners.specs.LoadedWith.{owned_outcome, loaded_with}
use Rattle.owners.specs.laws.Keeping.{refused-told, fill-ready, done-told}
use Rattle.owners.specs.laws.KeptProved.{loaded-owners}
use Rattle.owners.proofs.load_in.Goals as goal

-- a refusal leaves the owners
pub returns-in_err-s-clause-owners_value : goal.returns-in_err-s-clause-owners_value
returns-in_err-s-clause-owners_value c =
    let a = c.args in
    let p = a.points.now in
    let l = given_all_mut a.x a.y a.seen a.id a.parent a.num a.energy a.ids a.coords a.near in
    let n = c.build_in.new in
    let r = err_from_is_err_and c.from_residual.result c.from_residual.ensures.1 in
    rw (r.1, r.2)
    (refused-told a.o p.xs.now p.ys.now p.energies.now l a.owners.now c.min-most.result c.min-most.ensures (Err c.in_err-s.field-0.0)
    (cols n.x n.y n.seen n.id n.parent n.num n.energy) n.ids n.coords n.near c.in_err-s.ensures c.in_err-s.field-0.0 refl)

-- where nothing is refused, the owners can be filled
pub fill-requires : goal.fill-requires
fill-requires c =
    let a = c.args in
    let p = a.points.now in
    let l = given_all_mut a.x a.y a.seen a.id a.parent a.num a.energy a.ids a.coords a.near in
    let n = c.build_in.new in
    fill-ready a.o p.xs.now p.ys.now p.energies.now l a.owners.now c.min-most.result c.min-most.ensures c.build_in.result
    (cols n.x n.y n.seen n.id n.parent n.num n.energy) n.ids n.coords n.near c.build_in.ensures c.in_ok-s.s c.in_ok-s.was

pub returns-clause-owners_value : goal.returns-clause-owners_value
returns-clause-owners_value c =
    let a = c.args in
    let p = a.points.now in
    let l = given_all_mut a.x a.y a.seen a.id a.parent a.num a.energy a.ids a.coords a.near in
    let n = c.build_in.new in
    done-told a.o p.xs.now p.ys.now p.energies.now l a.owners.now c.min-most.result c.min-most.ensures (Ok c.in_ok-s.s)
    (cols n.x n.y n.seen n.id n.parent n.num n.energy) n.ids n.coords n.near c.in_ok-s.ensures c.in_ok-s.s refl c.fill.new.near
    c.fill.new.owners c.fill.ensures

pub returns-clause-fact : goal.returns-clause-fact
returns-clause-fact c =
    let a = c.args in
    let p = a.points.now in
    let l = given_all_mut a.x a.y a.seen a.id a.parent a.num a.energy a.ids a.coords a.near in
    let G = given_build a.o p.xs.now p.ys.now p.energies.now in
    let n = c.build_in.new in
    let T = cols n.x n.y n.seen n.id n.parent n.num n.energy in
    let s = c.in_ok-s.s in
    let e : owned_outcome (outcome (Ok s) (build_columns T n.ids n.coords c.fill.new.near)) c.fill.new.owners
    ≡ loaded_with a.o p.xs.now p.ys.now p.energies.now l a.owners.now = done-told a.o p.xs.now p.ys.now p.energies.now l a.owners.now
    c.min-most.result c.min-most.ensures (Ok s) T n.ids n.coords n.near c.in_ok-s.ensures s refl c.fill.new.near c.fill.new.owners
    c.fill.ensures in
    let k = loaded-owners G l a.owners.now _ e s refl in (owner G, k.0, k.1)
