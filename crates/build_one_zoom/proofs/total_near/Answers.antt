-- `build_one_zoom::total_near` meets its contract: at the head of the loop the total so far and what the remaining neighbours add are the
-- whole total. Assumes nothing.
use Rattle.std.proofs.Common.{◌≡◌, ℕ, ◌<◌, ◌≤◌, cond, Bool, get_or, length, ap, sym, ◌∙◌, arith, lt-ltb, le-ltb}
use Rattle.kdslots.specs.laws.All.{below_at}
use Rattle.build_tables.specs.declared.Entry.{Entry}
use Rattle.build_tables.specs.Entries.{Table, entry}
use Rattle.build_tables.specs.Lent.{held}
use Rattle.build_tables.specs.Rows.{rows}
use Rattle.build_one_zoom.specs.Zoom.{num_of, adds}
use Rattle.build_one_zoom.specs.laws.Turns.{more_turn, more-end}
use Rattle.build_one_zoom.proofs.total_near.Goals as goal
use Rattle.build_one_zoom.proofs.total_near.Goals.{then-z-e, else-z-e}

-- what the entry at k adds, as it was read: its num where it is unseen, and otherwise nothing
adds-num : (z : ℕ) (t : Table) (k : ℕ) (e : Entry) → e ≡ entry t k → z < e.seen → adds num_of z (entry t k) ≡ e.num
adds-num z t k e q h = ap (λ (v : Entry). adds num_of z v) (sym q) ∙ ap (λ (b : Bool). cond b e.num 0) (lt-ltb z e.seen h)

adds-none : (z : ℕ) (t : Table) (k : ℕ) (e : Entry) → e ≡ entry t k → e.seen ≤ z → adds num_of z (entry t k) ≡ 0
adds-none z t k e q h = ap (λ (v : Entry). adds num_of z v) (sym q) ∙ ap (λ (b : Bool). cond b e.num 0) (le-ltb z e.seen h)

pub at-e-requires : goal.at-e-requires
at-e-requires c = below_at (length c.args.t.now.x.now) c.args.near.now c.loop-k.k-index c.requires.0 c.loop-k-test.true

pub overflow_add-total : goal.overflow_add-total
overflow_add-total c =
    let a = c.args in
    let l = c.loop-k in
    let t = rows (held a.t.now) in
    let j = l.k-index in
    let added = adds-num a.z t (get_or a.near.now j 0) c.at-e.result c.at-e.ensures c.if-z-e.true in
    omega (arith, added, more_turn num_of a.z t a.near.now j c.loop-k-test.true, l.invariant, c.requires.1)

pub loop-k-preserved : goal.loop-k-preserved
loop-k-preserved c =
    let a = c.args in
    let l = c.loop-k in
    let t = rows (held a.t.now) in
    let j = l.k-index in
    let k = get_or a.near.now j 0 in
    let m = more_turn num_of a.z t a.near.now j c.loop-k-test.true in
    elim c.if-z-e.branch [
      | then-z-e w ↦
          omega (arith, w.total-is, adds-num a.z t k c.at-e.result c.at-e.ensures w.if-z-e.true, m, l.invariant)
      | else-z-e w ↦
          omega (arith, w.total-is, adds-none a.z t k c.at-e.result c.at-e.ensures w.if-z-e.false, m, l.invariant)
    ]

pub returns : goal.returns
returns c =
    let a = c.args in
    let l = c.loop-k in
    omega (arith, l.invariant, more-end num_of a.z (rows (held a.t.now)) a.near.now l.k-index c.loop-k-test.false)
