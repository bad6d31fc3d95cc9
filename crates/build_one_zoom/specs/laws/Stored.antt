-- A new entry, stored right after the next table's last: what the columns then hold is the definition's scan after an entry was left, and
-- after it was made a cluster. Assumes nothing.
use Rattle.std.specs.Prelude.{◌≡◌, refl, Bool, true, false, List, [], ◌∷◌, ◌++◌, ℕ, ◌+◌, ◌<◌, ◌≤◌, length, set, drop, take}
use Rattle.std.proofs.Common.{ap, sym, ◌∙◌, subst, arith, add-one, length-set, length-drop, length-append, take-append-drop, get_or-take, drop-set-lt, take-suc-set, length-take-le, drop-drop, take_at, drop_at}
use Rattle.std.proofs.Math.ListN.{get_or-append}
use Rattle.std.proofs.lemmas.List.{take-set-le, drop-set-add, set-append_left}
use Rattle.std.specs.Float.{binary64}
use Rattle.std.specs.Float.Ieee.{mul}
use Rattle.floats.specs.Numbers.{float}
use Rattle.kdslots.specs.laws.All.{All, AllBelow}
use Rattle.build_tables.specs.declared.Entry.{Entry}
use Rattle.build_tables.specs.Entries.{Table, entry, none, unseen, marked, under}
use Rattle.build_tables.specs.Ids.{cluster_id}
use Rattle.build_one_zoom.specs.Scanned.{scan_of, Scanned, unseen_count}
use Rattle.build_one_zoom.specs.Zoom.{Absorbed, absorbed, absorb_one, absorb, centre, made_at, copy_all, left_at}
use Rattle.build_one_zoom.specs.laws.Steps.{absorb_one-yes, absorb_one-no}
use Rattle.build_one_zoom.specs.laws.Keeps.{keep-absorb_one, keep-absorb, kept-length}

-- ---- rows past the table change nothing of what is absorbed

-- with the rows r past the table
abbrev grow : Absorbed → Table → Absorbed
grow s r = absorbed (s.table ++ r) s.sx s.sy s.se

absorb_one-grow-by : (z p : ℕ) (s : Absorbed) (r : Table) (k : ℕ) → k < length s.table → (b : Bool) → unseen z (entry s.table k) ≡ b
    → absorb_one z p (grow s r) k ≡ grow (absorb_one z p s k) r
absorb_one-grow-by z p s r k h true e =
    let g = get_or-append s.table r none k h in
    rw (absorb_one-yes z p s k e) (absorb_one-yes z p (grow s r) k (rw g e)
    ∙ simp (g, set-append_left s.table r k (under p (marked z (entry s.table k))) h))
absorb_one-grow-by z p s r k h false e =
    rw (absorb_one-no z p s k e) (absorb_one-no z p (grow s r) k (rw (get_or-append s.table r none k h) e))

absorb_one-grow : (z p : ℕ) (s : Absorbed) (r : Table) (k : ℕ) → k < length s.table
    → absorb_one z p (grow s r) k ≡ grow (absorb_one z p s k) r
absorb_one-grow z p s r k h = absorb_one-grow-by z p s r k h _ refl

absorb_one-length : (z p : ℕ) (s : Absorbed) (k : ℕ) → length (absorb_one z p s k).table ≡ length s.table
absorb_one-length z p s k = keep-absorb_one z (λ q. length q ≡ length s.table) (kept-length z (length s.table)) p s k _ refl refl

absorb-length : (z p : ℕ) (s : Absorbed) (l : List ℕ) → length (absorb z p s l).table ≡ length s.table
absorb-length z p s l = keep-absorb z (λ q. length q ≡ length s.table) (kept-length z (length s.table)) p s l refl

absorb-grow : (z p : ℕ) (s : Absorbed) (r : Table) (l : List ℕ) → AllBelow (length s.table) l
    → absorb z p (grow s r) l ≡ grow (absorb z p s l) r
unfolding absorb All
absorb-grow z p s r [] b = refl
absorb-grow z p s r (k ∷ ks) b =
    ap (λ (q : Absorbed). absorb z p q ks) (absorb_one-grow z p s r k b.0)
    ∙ absorb-grow z p (absorb_one z p s k) r ks (rw (absorb_one-length z p s k) b.1)

-- ---- one more entry

module _ (t : Table) (len d : ℕ) (room : len + d < length t) where
  -- e is stored as the next table's next entry
  next-scan : (e : Entry) → scan_of len (d + 1) (set t (len + d) e) ≡ record { table = take len t; next = take d (drop len t) ++ (e ∷ []) }
  next-scan e =
      let q : d < length (drop len t) = rw (length-drop len t) (omega arith) in
      simp (take-set-le len t (len + d) e (omega arith), drop-set-add len t d e, add-one, take-suc-set (drop len t) d e q)

  -- and the rows past it stay
  next-rest : (e : Entry) (r : ℕ) → d + 1 ≤ r → drop (len + r) (set t (len + d) e) ≡ drop (len + r) t
  next-rest e r h = drop-set-lt (len + r) t (len + d) e (omega arith)

-- ---- an entry is left: it is stored, and then its neighbours are copied

module _ (t : Table) (len d i z : ℕ) (near : List ℕ) (hi : i < len) (room : len + d < length t) where
  -- the columns t' after the copies, which begin with the entry stored
  pub left-leaves : (t' : Table) (r : ℕ)
      → Scanned len (d + 1) (copy_all z (scan_of len (d + 1) (set t (len + d) (entry t i))) near) (set t (len + d) (entry t i)) t' r
      → Scanned len d (left_at z i near (scan_of len d t)) t t' r
  left-leaves t' r v =
      record {
        scan = v.scan ∙ rw (next-scan t len d room (entry t i)) (rw (get_or-take len t i none hi));
        rest = v.rest ∙ next-rest t len d room (entry t i) r v.grown;
        grown = omega (arith, v.grown);
        fits = v.fits;
      }

  -- the room that the copies ask
  pub left-room : len + d + 1 + unseen_count z (take len t) ≤ length t
      → len + (d + 1) + unseen_count z (take len (set t (len + d) (entry t i))) ≤ length t
  left-room h = rw (take-set-le len t (len + d) (entry t i) (omega arith)) (omega arith)

-- ---- a cluster is made

-- f is what absorbing gives of the table, r are the rows past it, and e is the new entry
module _ (f : Absorbed) (r : Table) (len d i p : ℕ) (e : Entry) (lf : length f.table ≡ len) (hi : i < len) (room : d < length r) where
  -- the origin gets its parent
  abbrev hung : Table
  hung = set (f.table ++ r) i (under p (entry (f.table ++ r) i))

  hung-is : hung ≡ set f.table i (under p (entry f.table i)) ++ r
  hung-is =
      let h : i < length f.table = omega arith in
      rw (get_or-append f.table r none i h) (set-append_left f.table r i (under p (entry f.table i)) h)

  made-scan : scan_of len (d + 1) (set hung (len + d) e)
      ≡ record { table = set f.table i (under p (entry f.table i)); next = take d r ++ (e ∷ []) }
  made-scan =
      let q = set f.table i (under p (entry f.table i)) in
      let lq : length q ≡ len = length-set f.table i (under p (entry f.table i)) ∙ lf in
      let k : len + d < length (q ++ r) = rw (length-append q r) (omega arith) in
      rw hung-is (next-scan (q ++ r) len d k e ∙ simp (take_at q r len lq, drop_at q r len lq))

  made-rest : drop (len + (d + 1)) (set hung (len + d) e) ≡ drop (d + 1) r
  made-rest =
      let q = set f.table i (under p (entry f.table i)) in
      let lq : length q ≡ len = length-set f.table i (under p (entry f.table i)) ∙ lf in
      let k : len + d < length (q ++ r) = rw (length-append q r) (omega arith) in
      rw hung-is (next-rest (q ++ r) len d k e (d + 1) (omega arith) ∙ sym (drop-drop (d + 1) len (q ++ r))
      ∙ ap (drop (d + 1)) (drop_at q r len lq))

module _ (t : Table) (len d i z n total : ℕ) (near : List ℕ) (hi : i < len) (room : len + d < length t) (b : AllBelow len near) where
  -- the sums begin with the origin's products
  abbrev pub zoom_begun : Table → Absorbed
  zoom_begun q = absorbed q (mul binary64 (entry t i).x (float (entry t i).num)) (mul binary64 (entry t i).y (float (entry t i).num))
      (entry t i).energy

  lt : length (take len t) ≡ len
  lt = length-take-le len t (omega arith)

  -- the columns absorb what their table does
  grown : absorb z (cluster_id n z i) (zoom_begun t) near ≡ grow (absorb z (cluster_id n z i) (zoom_begun (take len t)) near) (drop len t)
  grown =
      ap (λ (q : Table). absorb z (cluster_id n z i) (zoom_begun q) near) (sym (take-append-drop len t))
      ∙ absorb-grow z (cluster_id n z i) (zoom_begun (take len t)) (drop len t) near (rw lt b)

  made-leaves : (s : Absorbed) → s ≡ absorb z (cluster_id n z i) (zoom_begun t) near
      → Scanned len d (made_at n z i total near (scan_of len d t)) t
      (set (set s.table i (under (cluster_id n z i) (entry s.table i))) (len + d) (centre s (cluster_id n z i) total)) (d + 1)
  made-leaves s e =
      let p = cluster_id n z i in
      let f = absorb z p (zoom_begun (take len t)) near in
      let g : s ≡ grow f (drop len t) = e ∙ grown in
      let lf : length f.table ≡ len = absorb-length z p (zoom_begun (take len t)) near ∙ lt in
      let q : d < length (drop len t) = rw (length-drop len t) (omega arith) in
      rw g
      (record {
        scan = made-scan f (drop len t) len d i p (centre f p total) lf hi q ∙ rw (get_or-take len t i none hi);
        rest = made-rest f (drop len t) len d i p (centre f p total) lf hi q ∙ drop-drop (d + 1) len t;
        grown = omega arith;
        fits = simp (length-set, length-append, lf, length-drop) (omega arith);
      })

  -- what is left after the origin's parent and the new entry are stored, for an id p that is the cluster's
  pub made-with : (p : ℕ) → p ≡ cluster_id n z i → (s : Absorbed) → s ≡ absorb z p (zoom_begun t) near
      → Scanned len d (made_at n z i total near (scan_of len d t)) t
      (set (set s.table i (under p (entry s.table i))) (len + d) (centre s p total)) (d + 1)
  made-with p q =
      subst (λ (k : ℕ). (s : Absorbed) → s ≡ absorb z k (zoom_begun t) near
      → Scanned len d (made_at n z i total near (scan_of len d t)) t
      (set (set s.table i (under k (entry s.table i))) (len + d) (centre s k total)) (d + 1)) (sym q) made-leaves
