-- `supercluster::build_fronts` meets its contract: the fronts of the columns just hold the build, and what `build_columns` leaves in them,
-- with what follows them, are the definition's columns. Assumes nothing.
use Rattle.std.proofs.Common.{ℕ, sym, ◌∙◌, subst, ◌+◌, ◌*◌, length}
use lib.Seq.{length-take-le}
use Rattle.build_tables.specs.laws.Bounds.{options-are}
use Rattle.build_tables.specs.Rows.{cols}
use Rattle.build_tables.specs.laws.Rows.{even-kept}
use Rattle.build_tables.specs.laws.Roomy.{front_cols, front-even}
use Rattle.supercluster.specs.Build.{build_columns}
use Rattle.supercluster.specs.Lent.{given_all_mut}
use Rattle.supercluster.specs.laws.Load.{Holds, EvenIn, fronts, whole}
use Rattle.supercluster.proofs.build_fronts.Goals as goal

pub table_count-requires : goal.table_count-requires
table_count-requires c = (options-are c.args.o c.requires.0.options).zooms

pub returns : goal.returns
returns c =
    let a = c.args in
    let p = a.points.now in
    let n = length p.xs.now in
    let m = c.table_count.result * n in
    let l = given_all_mut a.x a.y a.seen a.id a.parent a.num a.energy a.ids a.coords a.near in
    let h : Holds m l = subst (λ (q : ℕ). Holds (q * n) l) (sym c.table_count.ensures) c.requires.1 in
    let b = c.build_columns.new in
    let k = c.build_columns.auto in
    let t = cols b.x b.y b.seen b.id b.parent b.num b.energy in
    let v : EvenIn (fronts m (n + n) l) = front-even m l.table h.table in
    let w : EvenIn (build_columns t b.ids b.coords b.near) = even-kept (front_cols m l.table) t
    (record { kx = k.x; ky = k.y; ks = k.seen; ki = k.id; kp = k.parent; kn = k.num; kw = k.energy }) v in (
      c.build_columns.ensures.of-state,
      whole a.o p.xs.now p.ys.now p.energies.now m l (build_columns t b.ids b.coords b.near) c.build_columns.result h v w
          (k.x ∙ length-take-le m a.x.now h.table.hx) (k.ids ∙ length-take-le m a.ids.now h.hd)
          (k.coords ∙ length-take-le (m * 2) a.coords.now h.hc) c.build_columns.ensures,
    )
