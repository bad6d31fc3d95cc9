-- `build_one_zoom::visit_one` meets its contract: the total is the definition's, and so is the test of it; each branch is what its function
-- leaves. Assumes nothing.
use Rattle.std.proofs.Common.{◌≡◌, Bool, true, false, ℕ, ◌+◌, ◌<◌, ◌≤◌, List, length, take, ap, sym, ◌∙◌, subst, ◌^◌, arith, get_or-take}
use Rattle.kdslots.specs.laws.All.{AllBelow, below-le}
use Rattle.build_tables.specs.declared.Entry.{Entry}
use Rattle.build_tables.specs.Entries.{Table, entry, none}
use Rattle.build_tables.specs.Lent.{held_mut}
use Rattle.build_tables.specs.Rows.{Cols, rows}
use Rattle.build_tables.specs.laws.Rows.{rows-length}
use Rattle.build_one_zoom.specs.Scanned.{scan_of}
use Rattle.build_one_zoom.specs.Zoom.{num_of, more, enough}
use Rattle.build_one_zoom.specs.laws.Steps.{total_of, made_by, left_by}
use Rattle.build_one_zoom.specs.laws.Unseen.{more-take}
use Rattle.build_one_zoom.proofs.visit_one.Goals as goal

-- the entry that was read, and the total, of the table that is scanned, without the rows past it
own_is : (t : Table) (len i : ℕ) (e : Entry) → i < len → e ≡ entry t i → e ≡ entry (take len t) i
own_is t len i e h q = q ∙ sym (get_or-take len t i none h)

total-is : (t : Table) (len z i : ℕ) (near : List ℕ) (e : Entry) (total : ℕ) → i < len → len ≤ length t → AllBelow len near
    → e ≡ entry t i → total ≡ e.num + more z t near → total ≡ total_of z near i (take len t)
total-is t len z i near e total h l b q r =
    r
    ∙ ap (λ (v : Entry). v.num + more z t near) (own_is t len i e h q)
    ∙ ap (λ (k : ℕ). (entry (take len t) i).num + k) (more-take num_of z len t near b l)

enough-is : (t : Table) (len i total least : ℕ) (e : Entry) (b : Bool) → i < len → e ≡ entry t i → enough e.num total least ≡ b
    → enough (entry (take len t) i).num total least ≡ b
enough-is t len i total least e b h q r = ap (λ (v : Entry). enough v.num total least) (sym (own_is t len i e h q)) ∙ r

-- the total of the columns as they are lent to be read
total-lent : (z own total : ℕ) (near : List ℕ) (k c : Cols) → k ≡ c → total ≡ own + more z (rows k) near → total ≡ own + more z (rows c) near
total-lent z own total near k c e r = r ∙ ap (λ (q : Cols). own + more z (rows q) near) e

pub total_near-total-requires : goal.total_near-total-requires
total_near-total-requires c =
    let a = c.args in
    let k = held_mut a.t.now in
    subst (λ (q : Cols). AllBelow (length q.x) a.near.now × (c.at-e.result.num + more a.zoom.now.z (rows q) a.near.now < 2 ^ 32))
    (sym c.lent.ensures)
    (below-le a.zoom.now.len (length k.x) a.near.now (omega (arith, c.requires.3)) c.requires.1, rw c.at-e.ensures c.requires.4)

pub returns-then-is_enough-clause-rows : goal.returns-then-is_enough-clause-rows
returns-then-is_enough-clause-rows c =
    let a = c.args in
    let z = a.zoom.now in
    let k = held_mut a.t.now in
    let t = rows k in
    let total = c.total_near-total.result in
    let l : z.len ≤ length t = omega (arith, c.requires.3, rows-length k) in
    let e = enough-is t z.len a.i total z.least c.at-e.result true c.requires.2 c.at-e.ensures
    (sym c.is_enough.ensures ∙ c.if-is_enough.true) in
    let q = total-is t z.len z.z a.i a.near.now c.at-e.result total c.requires.2 l c.requires.1 c.at-e.ensures
    (total-lent z.z _ total a.near.now _ k c.lent.ensures c.total_near-total.ensures) in
    rw (made_by z.count z.least z.z a.near.now a.i (scan_of z.len a.done t) total q e) c.make_one.ensures.rows

pub returns-clause-rows : goal.returns-clause-rows
returns-clause-rows c =
    let a = c.args in
    let z = a.zoom.now in
    let k = held_mut a.t.now in
    let t = rows k in
    let total = c.total_near-total.result in
    let l : z.len ≤ length t = omega (arith, c.requires.3, rows-length k) in
    let e = enough-is t z.len a.i total z.least c.at-e.result false c.requires.2 c.at-e.ensures
    (sym c.is_enough.ensures ∙ c.if-is_enough.false) in
    let q = total-is t z.len z.z a.i a.near.now c.at-e.result total c.requires.2 l c.requires.1 c.at-e.ensures
    (total-lent z.z _ total a.near.now _ k c.lent.ensures c.total_near-total.ensures) in
    rw (left_by z.count z.least z.z a.near.now a.i (scan_of z.len a.done t) total q e) c.leave_one.ensures.rows
