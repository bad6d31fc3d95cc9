-- There is room for what a scan makes: at each step the next table grows by no more than the table's unseen entries become fewer. Assumes
-- nothing.
use Rattle.std.specs.Prelude.{◌≡◌, refl, Bool, true, false, List, [], ◌∷◌, ◌++◌, length, Float}
use Prim.Native.Nat.{ℕ, zero, suc, ◌+◌, ◌<◌, ◌≤◌}
use Rattle.std.proofs.Common.{arith, ltb-true, ltb-false, length-append}
use Rattle.std.proofs.Math.Nat.{le_refl, le_trans}
use Rattle.build_tables.specs.Entries.{entry, unseen, marked}
use Rattle.build_tables.specs.Ids.{cluster_id}
use Rattle.build_one_zoom.specs.Scanned.{unseen_count}
use Rattle.build_one_zoom.specs.Zoom.{absorb, started, Scan, copy_one, copy_all, enough, visit, mark_at, scan_one, scan_from}
use Rattle.build_one_zoom.specs.laws.Steps.{copy_one-yes, copy_one-no, total_of, visit-made, visit-left, scan-seen, scan-visit}
use Rattle.build_one_zoom.specs.laws.Unseen.{unseen-in, unseen_count-mark, unseen_count-under}
use Rattle.build_one_zoom.specs.laws.Keeps.{keep-absorb, kept-unseen_count}

-- the entries that are made, and those that may yet be
abbrev pub needed : ℕ → Scan → ℕ
needed z s = length s.next + unseen_count z s.table

pub copy_one-fewer : (z : ℕ) (s : Scan) (k : ℕ) (b : Bool) → unseen z (entry s.table k) ≡ b → needed z (copy_one z s k) ≤ needed z s
copy_one-fewer z s k true e =
    let u : z < (entry s.table k).seen = ltb-true z (entry s.table k).seen e in
    let m = marked z (entry s.table k) in
    rw (copy_one-yes z s k e) (omega
    (arith, length-append s.next (m ∷ []), unseen_count-mark z s.table k m (unseen-in z s.table k u) u (le_refl z)))
copy_one-fewer z s k false e = rw (copy_one-no z s k e) (le_refl _)

copy_all-fewer : (z : ℕ) (s : Scan) (l : List ℕ) → needed z (copy_all z s l) ≤ needed z s
unfolding copy_all
copy_all-fewer z s [] = le_refl _
copy_all-fewer z s (k ∷ ks) = le_trans (copy_all-fewer z (copy_one z s k) ks) (copy_one-fewer z s k _ refl)

-- a visit makes one entry more: the one that is visited, which was marked before
visit-fewer : (n least z : ℕ) (near : List ℕ) (i : ℕ) (s : Scan) (b : Bool)
    → enough (entry s.table i).num (total_of z near i s.table) least ≡ b
    → needed z (visit n least z near i s) ≤ suc (needed z s)
visit-fewer n least z near i s true e =
    let p = cluster_id n z i in
    let st = started s.table (entry s.table i) in
    let l = keep-absorb z (λ t. unseen_count z t ≤ unseen_count z s.table) (kept-unseen_count z (unseen_count z s.table)) p st near
    (le_refl _) in
    rw (visit-made n least z near i s e)
    (rw (length-append s.next _) (omega (arith, l, unseen_count-under z (absorb z p st near).table i p)))
visit-fewer n least z near i s false e =
    let c = copy_all-fewer z (record { table = s.table; next = s.next ++ (entry s.table i ∷ []) }) near in
    rw (visit-left n least z near i s e) (omega (arith, c, length-append s.next (entry s.table i ∷ [])))

module _ (n least z : ℕ) (near : Float → Float → List ℕ) where
  scan-fewer-by : (s : Scan) (i : ℕ) (b : Bool) → unseen z (entry s.table i) ≡ b → needed z (scan_one n least z near s i) ≤ needed z s
  scan-fewer-by s i true e =
      let u : z < (entry s.table i).seen = ltb-true z (entry s.table i).seen e in
      let m = marked z (entry s.table i) in
      let f = unseen_count-mark z s.table i m (unseen-in z s.table i u) u (le_refl z) in
      let v = visit-fewer n least z (near (entry s.table i).x (entry s.table i).y) i (mark_at z i s) _ refl in
      rw (scan-visit n least z near s i u) (omega (arith, v, f))
  scan-fewer-by s i false e = rw (scan-seen n least z near s i (ltb-false z (entry s.table i).seen e)) (le_refl _)

  pub scan-fewer : (s : Scan) (i : ℕ) → needed z (scan_one n least z near s i) ≤ needed z s
  scan-fewer s i = scan-fewer-by s i _ refl

  -- k entries from i on
  pub from-fewer : (s : Scan) (i k : ℕ) → needed z (scan_from n least z near s i k) ≤ needed z s
  unfolding scan_from
  from-fewer s i zero = le_refl _
  from-fewer s i (suc k) = le_trans (from-fewer (scan_one n least z near s i) (suc i) k) (scan-fewer s i)
