-- The loop over a table in the columns: what holds at its head, at its start, after a step and at its end, where the columns hold the
-- definition's scan. Assumes nothing.
use Rattle.std.specs.Prelude.{◌≡◌, List, drop, take, Float}
use Rattle.std.proofs.Math.Path.{refl, subst}
use Rattle.std.proofs.Common.{ap, sym, ◌∙◌, drop-drop}
use Prim.Native.Nat.{ℕ, suc, ◌+◌, ◌-◌, ◌<◌, ◌≤◌}
use native.Mathlib.Omega.{arith}
use Rattle.std.proofs.Math.Nat.{le_refl, le_trans}
use Rattle.std.proofs.Math.Numerals.{add-one}
use Rattle.std.proofs.Math.ListN.{length}
use Rattle.std.proofs.Math.Seq.{length-take-le}
use Rattle.build_tables.specs.declared.Entry.{Entry}
use Rattle.build_tables.specs.Entries.{Table, under}
use Rattle.build_tables.specs.laws.Columns.{part-long}
use Rattle.build_one_zoom.specs.Scanned.{scan_of, Scanned, unseen_count, unseen_of}
use Rattle.build_one_zoom.specs.Zoom.{Scan, scan_one, scan_from, cluster}
use Rattle.build_one_zoom.specs.laws.Unseen.{unseen_count-length}
use Rattle.build_one_zoom.specs.laws.Keeps.{keep_one, kept-unseen_of}
use Rattle.build_one_zoom.specs.laws.Fewer.{needed, scan-fewer}

-- the i-th entry is next: what is still to be scanned leads to the whole scan, the rows past the two tables are old, there is room for
-- each unseen entry, and what is unseen carries no more than at the start
pub record Scanning (n least z : ℕ) (near : Float → Float → List ℕ) (len : ℕ) (t₀ t : Table) (d i : ℕ) : Type 0 where
  pub scan : scan_from n least z near (scan_of len d t) i (len - i) ≡ cluster n least z near (take len t₀)
  pub rest : drop (len + d) t ≡ drop (len + d) t₀
  pub room : len + d + unseen_count z (take len t) ≤ length t
  pub light : (f : Entry → ℕ) → ((e : Entry) (q : ℕ) → f (under q e) ≡ f e) → unseen_of f z (take len t) ≤ unseen_of f z (take len t₀)

module _ (n least z : ℕ) (near : Float → Float → List ℕ) (len : ℕ) (t₀ : Table) where
  pub scanning-start : len + len ≤ length t₀ → Scanning n least z near len t₀ t₀ 0 0
  unfolding cluster
  scanning-start h =
      let lt : length (take len t₀) ≡ len = length-take-le len t₀ (omega arith) in
      let f = unseen_count-length z (take len t₀) in
      let q : len - 0 ≡ len = omega arith in
      record {
        scan = rw (lt, q);
        rest = refl;
        room = omega (arith, f, lt, h);
        light = λ f g. le_refl _;
      }

  pub scanning-step : (t t' : Table) (d d' i : ℕ) → Scanning n least z near len t₀ t d i → i < len
      → Scanned len d (scan_one n least z near (scan_of len d t) i) t t' d' → length t' ≡ length t
      → Scanning n least z near len t₀ t' d' (i + 1)
  unfolding scan_from
  scanning-step t t' d d' i v hi l e =
      let s = scan_of len d t in
      let k : len - i ≡ suc (len - (i + 1)) = omega arith in
      let step : scan_from n least z near s i (len - i) ≡ scan_from n least z near (scan_one n least z near s i) (i + 1) (len - (i + 1))
      = rw (k, add-one i) in
      let c : needed z (scan_of len d' t') ≤ needed z s = subst (λ (q : Scan). needed z q ≤ needed z s) (sym l.scan)
      (scan-fewer n least z near s i) in
      let q : len + d + (d' - d) ≡ len + d' = omega (arith, l.grown) in
      let nx = part-long len d t (omega (arith, v.room)) in
      let ny = part-long len d' t' l.fits in
      record {
        scan = rw l.scan (sym step ∙ v.scan);
        rest = l.rest ∙ simp (drop-drop, q) at (ap (drop (d' - d)) v.rest);
        room = omega (arith, c, nx, ny, v.room, e);
        light = λ f g.
            let m = unseen_of f z s.table in
            let k = keep_one z (λ t. unseen_of f z t ≤ m) (kept-unseen_of f g z m) n least near s i _ refl (le_refl m) in
            le_trans (subst (λ (q : Scan). unseen_of f z q.table ≤ m) (sym l.scan) k) (v.light f g);
      }

  pub scanning-end : (t : Table) (d i : ℕ) → Scanning n least z near len t₀ t d i → len ≤ i
      → Scanned len 0 (cluster n least z near (take len t₀)) t₀ t d
  unfolding scan_from
  scanning-end t d i v h =
      let q : len - i ≡ 0 = omega arith in
      record { scan = rw q at v.scan; rest = v.rest; grown = omega arith; fits = omega (arith, v.room) }
