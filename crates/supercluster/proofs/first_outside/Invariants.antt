-- `supercluster::first_outside` meets its contract: at the head of the loop every point before i is inside, and the first of the rest is
-- the first of all. Assumes nothing.
use Rattle.std.proofs.Common.{◌≡◌, drop}
use Rattle.kdbush.specs.Reply.{first_outside}
use Rattle.supercluster.specs.Build.{converted_all}
use Rattle.supercluster.specs.laws.Fill.{pxs, pys}
use Rattle.supercluster.proofs.first_outside.Given as goal

abbrev pub invariant-loop-i : goal.invariant-loop-i
invariant-loop-i l =
    let xs = l.points.xs.now in
    let ys = l.points.ys.now in
    let all = converted_all l.c xs ys in
    let rest = converted_all l.c (drop l.i xs) (drop l.i ys) in
    first_outside (pxs all) (pys all) 0 ≡ first_outside (pxs rest) (pys rest) l.i
