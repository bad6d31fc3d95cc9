-- `build_one_zoom::copy_one` meets its contract: a row that is unseen is marked and put after the next table's last. Assumes nothing.
use Rattle.std.proofs.Common.{◌≡◌, ◌+◌, ◌<◌, ◌≤◌, length, set, take, ap, sym, ◌∙◌, subst, arith}
use Rattle.build_tables.specs.declared.Entry.{Entry}
use Rattle.build_tables.specs.Entries.{Table, entry, marked}
use Rattle.build_tables.specs.Lent.{held_mut}
use Rattle.build_tables.specs.Rows.{rows}
use Rattle.build_tables.specs.laws.Rows.{with_seen, rows-length, rows-mark, even-mark}
use Rattle.build_one_zoom.specs.Zoom.{copy_one}
use Rattle.build_one_zoom.specs.Scanned.{scan_of, Scanned, unseen_count}
use Rattle.build_one_zoom.specs.laws.Turns.{copy-room, copied, skipped}
use Rattle.build_one_zoom.proofs.copy_one.Goals as goal

pub returns-then-e-zoom-clause-rows : goal.returns-then-e-zoom-clause-rows
returns-then-e-zoom-clause-rows c =
    let a = c.args in
    let k = held_mut a.t.now in
    skipped (rows k) a.zoom.now.len a.done a.k a.zoom.now.z c.requires.1 (rw (rows-length k) c.requires.2)
    (rw c.at-e.ensures at c.if-e-zoom.true)

pub put-requires : goal.put-requires
put-requires c =
    let a = c.args in
    let k = held_mut a.t.now in
    let len = a.zoom.now.len in
    let z = a.zoom.now.z in
    let room : len + a.done + unseen_count z (take len (rows k)) ≤ length (rows k) = rw (rows-length k) c.requires.2 in (
      even-mark k a.k z c.requires.0,
      rw (rows-length k) at (copy-room (rows k) len a.done a.k z c.requires.1 room (rw c.at-e.ensures at c.if-e-zoom.false)),
    )

pub returns-clause-rows : goal.returns-clause-rows
returns-clause-rows c =
    let a = c.args in
    let k = held_mut a.t.now in
    let t = rows k in
    let len = a.zoom.now.len in
    let z = a.zoom.now.z in
    let m = marked z (entry t a.k) in
    let room : len + a.done + unseen_count z (take len t) ≤ length t = rw (rows-length k) c.requires.2 in
    let inside : a.k < length k.x = omega (arith, c.requires.1, c.requires.2) in
    let p : rows (held_mut c.put.new.self) ≡ set (set t a.k m) (len + a.done) m
    = c.put.ensures.rows
    ∙ ap (λ (v : Entry). set (rows (with_seen k (set k.seen a.k z))) (len + a.done) (marked z v)) c.at-e.ensures
    ∙ ap (λ (q : Table). set q (len + a.done) m) (rows-mark k a.k c.requires.0 inside z) in
    subst (λ (q : Table). Scanned len a.done (copy_one z (scan_of len a.done t) a.k) t q (a.done + 1)) (sym p)
    (copied t len a.done a.k z c.requires.1 room (rw c.at-e.ensures at c.if-e-zoom.false))
