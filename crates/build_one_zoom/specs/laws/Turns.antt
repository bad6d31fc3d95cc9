-- A turn of each loop over the neighbours: what is done with the j-th neighbour is the definition's step, so that what remains from the
-- next one on leads to the same. For a neighbour that is absorbed or copied, also that what the code stores in the columns is that step.
-- Assumes nothing.
use Rattle.std.specs.Prelude.{◌≡◌, refl, Bool, true, false, List, ◌∷◌, ℕ, ◌+◌, ◌-◌, ◌<◌, ◌≤◌, length, get_or, set, drop, take, Float}
use Rattle.std.proofs.Common.{ap, sym, ◌∙◌, subst, arith, le_refl, add-one, lt-ltb, le-ltb, length-set, length-drop, drop_of_length-le, drop-cons, get_or-take, drop-set-lt, take-suc-set, length-take-le, drop-drop}
use Rattle.std.proofs.lemmas.List.{take-set-le, drop-set-add}
use Rattle.std.proofs.Math.Seq.{take-set-lt}
use Rattle.std.specs.Float.{binary64}
use Rattle.std.specs.Float.Ieee.{add, mul}
use Rattle.floats.specs.Numbers.{float}
use Rattle.build_tables.specs.declared.Entry.{Entry}
use Rattle.build_tables.specs.Entries.{Table, entry, none, marked, unseen, under}
use Rattle.build_tables.specs.Rows.{Cols, rows}
use Rattle.build_tables.specs.laws.Rows.{Even, with_seen, with_parent, rows_join}
use Rattle.build_tables.specs.laws.Columns.{part-long}
use Rattle.build_one_zoom.specs.Scanned.{scan_of, Scanned, unseen_count}
use Rattle.build_one_zoom.specs.Zoom.{energy_of, adds, more_of, Absorbed, absorbed, absorb_one, absorb, Scan, copy_one, copy_all}
use Rattle.build_one_zoom.specs.laws.Steps.{absorb_one-yes, absorb_one-no, copied_one, copy_one-yes, copy_one-no, more-nil}
use Rattle.build_one_zoom.specs.laws.Unseen.{unseen_count-mark, more-fewer}
use Rattle.build_one_zoom.specs.laws.Fewer.{needed, copy_one-fewer}

-- what remains at j is the j-th and what remains after it
front : (l : List ℕ) (j : ℕ) → j < length l → drop j l ≡ get_or l j 0 ∷ drop (j + 1) l
front l j h = rw (add-one j) (drop-cons l j 0 h)

-- ---- a sum over the neighbours

pub more_turn : (f : Entry → ℕ) (z : ℕ) (t : Table) (l : List ℕ) (j : ℕ) → j < length l
    → more_of f z t (drop j l) ≡ adds f z (entry t (get_or l j 0)) + more_of f z t (drop (j + 1) l)
unfolding more_of
more_turn f z t l j h = ap (more_of f z t) (front l j h)

pub more-end : (f : Entry → ℕ) (z : ℕ) (t : Table) (l : List ℕ) (j : ℕ) → length l ≤ j → more_of f z t (drop j l) ≡ 0
more-end f z t l j h = ap (more_of f z t) (drop_of_length-le l h) ∙ more-nil f z t

-- ---- a cluster

pub absorb-front : (z p : ℕ) (s : Absorbed) (l : List ℕ) (j : ℕ) → j < length l
    → absorb z p s (drop j l) ≡ absorb z p (absorb_one z p s (get_or l j 0)) (drop (j + 1) l)
unfolding absorb
absorb-front z p s l j h = ap (absorb z p s) (front l j h)

pub absorb-end : (z p : ℕ) (s : Absorbed) (l : List ℕ) (j : ℕ) → length l ≤ j → absorb z p s (drop j l) ≡ s
unfolding absorb
absorb-end z p s l j h = ap (absorb z p s) (drop_of_length-le l h)

-- the sum of energies and what remains to be added stay below a bound
fits_by : (z p B : ℕ) (s : Absorbed) (k : ℕ) (l : List ℕ) → s.se + (adds energy_of z (entry s.table k) + more_of energy_of z s.table l)
    < B
    → (b : Bool) → unseen z (entry s.table k) ≡ b → (absorb_one z p s k).se + more_of energy_of z (absorb_one z p s k).table l < B
fits_by z p B s k l h true e =
    let m = more-fewer energy_of z s.table k (under p (marked z (entry s.table k))) l (le_refl z) in
    let g = rw e at h in
    rw (absorb_one-yes z p s k e) (omega (arith, m, g))
fits_by z p B s k l h false e = let g = rw e at h in rw (absorb_one-no z p s k e) (omega (arith, g))

pub absorb-fits : (z p B : ℕ) (s : Absorbed) (l : List ℕ) (j : ℕ) → j < length l → s.se + more_of energy_of z s.table (drop j l) < B
    → (absorb_one z p s (get_or l j 0)).se + more_of energy_of z (absorb_one z p s (get_or l j 0)).table (drop (j + 1) l) < B
absorb-fits z p B s l j hj h = fits_by z p B s (get_or l j 0) (drop (j + 1) l) (rw (more_turn energy_of z s.table l j hj) at h) _ refl

-- the neighbour k, whose entry is e, in the columns: what the code stores and adds is what the step does
module _ (c : Cols) (z p : ℕ) (a b : Float) (w : ℕ) (k : ℕ) (e : Entry) (q : e ≡ entry (rows c) k) where
  pub joined-row : Even c → k < length c.x → z < e.seen
      → absorbed (rows (with_parent (with_seen c (set c.seen k z)) (set c.parent k p)))
      (add binary64 a (mul binary64 e.x (float e.num)))
      (add binary64 b (mul binary64 e.y (float e.num)))
      (w + e.energy)
      ≡ absorb_one z p (absorbed (rows c) a b w) k
  joined-row v h u =
      let g : z < (entry (rows c) k).seen = rw q at u in
      rw (rows_join c k v h z p, q) (sym (absorb_one-yes z p (absorbed (rows c) a b w) k (lt-ltb z (entry (rows c) k).seen g)))

  pub passed-row : e.seen ≤ z → absorbed (rows c) a b w ≡ absorb_one z p (absorbed (rows c) a b w) k
  passed-row u =
      let g : (entry (rows c) k).seen ≤ z = rw q at u in
      sym (absorb_one-no z p (absorbed (rows c) a b w) k (le-ltb z (entry (rows c) k).seen g))

-- ---- copies

copy_all-front : (z : ℕ) (s : Scan) (l : List ℕ) (j : ℕ) → j < length l
    → copy_all z s (drop j l) ≡ copy_all z (copy_one z s (get_or l j 0)) (drop (j + 1) l)
unfolding copy_all
copy_all-front z s l j h = ap (copy_all z s) (front l j h)

copy_all-end : (z : ℕ) (s : Scan) (l : List ℕ) (j : ℕ) → length l ≤ j → copy_all z s (drop j l) ≡ s
unfolding copy_all
copy_all-end z s l j h = ap (copy_all z s) (drop_of_length-le l h)

-- row k: unseen, it is marked and copied to the row after the next table's last; seen, it stays
module _ (t : Table) (len d k z : ℕ) (hk : k < len) (room : len + d + unseen_count z (take len t) ≤ length t) where
  pub copy-room : z < (entry t k).seen → len + d < length t
  copy-room u =
      let l : len ≤ length t = omega arith in
      let n : k < length (take len t) = rw (length-take-le len t l) hk in
      let f = unseen_count-mark z (take len t) k (marked z (entry t k)) n (rw (get_or-take len t k none hk) u) (le_refl z) in
      omega (arith, f)

  pub copied : z < (entry t k).seen → let m = marked z (entry t k) in
      Scanned len d (copy_one z (scan_of len d t) k) t (set (set t k m) (len + d) m) (d + 1)
  copied u =
      let m = marked z (entry t k) in
      let r = copy-room u in
      let q : d < length (drop len t) = rw (length-drop len t) (omega arith) in
      let f : scan_of len (d + 1) (set (set t k m) (len + d) m) ≡ copied_one z (scan_of len d t) k
      = simp (
        get_or-take len t k none hk,
        take-set-le len (set t k m) (len + d) m (omega arith),
        take-set-lt len t k m hk,
        drop-set-add len (set t k m) d m,
        drop-set-lt len t k m hk,
        add-one,
        take-suc-set (drop len t) d m q,
      ) in
      record {
        scan = f ∙ sym (copy_one-yes z (scan_of len d t) k (rw (get_or-take len t k none hk) (lt-ltb z (entry t k).seen u)));
        rest = simp (drop-set-lt (len + (d + 1)) (set t k m) (len + d) m (omega arith), drop-set-lt (len + (d + 1)) t k m (omega arith));
        grown = omega arith;
        fits = simp length-set (omega (arith, r));
      }

  pub skipped : (entry t k).seen ≤ z → Scanned len d (copy_one z (scan_of len d t) k) t t d
  skipped u =
      record {
        scan = sym (copy_one-no z (scan_of len d t) k (rw (get_or-take len t k none hk) (le-ltb z (entry t k).seen u)));
        rest = refl;
        grown = le_refl d;
        fits = omega arith;
      }

-- what holds at the head: what remains leads to the whole, the rows past the two tables are old, and there is room for each unseen entry
pub record Copying (len z : ℕ) (near : List ℕ) (t₀ : Table) (w : ℕ) (t : Table) (d j : ℕ) : Type 0 where
  pub scan : copy_all z (scan_of len d t) (drop j near) ≡ copy_all z (scan_of len w t₀) near
  pub rest : drop (len + d) t ≡ drop (len + d) t₀
  pub room : len + d + unseen_count z (take len t) ≤ length t
  pub grown : w ≤ d

module _ (len z : ℕ) (near : List ℕ) (t₀ : Table) (w : ℕ) where
  pub copying-start : len + w + unseen_count z (take len t₀) ≤ length t₀ → Copying len z near t₀ w t₀ w 0
  copying-start h = record { scan = refl; rest = refl; room = h; grown = le_refl w }

  pub copying-step : (t t' : Table) (d d' j : ℕ) → Copying len z near t₀ w t d j → j < length near
      → Scanned len d (copy_one z (scan_of len d t) (get_or near j 0)) t t' d' → length t' ≡ length t → Copying len z near t₀ w t' d' (j + 1)
  copying-step t t' d d' j v hj l e =
      let s = scan_of len d t in
      let c : needed z (scan_of len d' t') ≤ needed z s
      = subst (λ (q : Scan). needed z q ≤ needed z s) (sym l.scan) (copy_one-fewer z s (get_or near j 0) _ refl) in
      let q : len + d + (d' - d) ≡ len + d' = omega (arith, l.grown) in
      let nx = part-long len d t (omega (arith, v.room)) in
      let ny = part-long len d' t' l.fits in
      record {
        scan = rw l.scan (sym (copy_all-front z s near j hj) ∙ v.scan);
        rest = l.rest ∙ simp (drop-drop, q) at (ap (drop (d' - d)) v.rest);
        room = omega (arith, c, nx, ny, v.room, e);
        grown = omega (arith, l.grown, v.grown);
      }

  pub copying-end : (t : Table) (d j : ℕ) → Copying len z near t₀ w t d j → length near ≤ j
      → Scanned len w (copy_all z (scan_of len w t₀) near) t₀ t d
  copying-end t d j v h =
      record {
        scan = sym (copy_all-end z (scan_of len d t) near j h) ∙ v.scan;
        rest = v.rest;
        grown = v.grown;
        fits = omega (arith, v.room);
      }
