-- One step of a scan, by cases. A neighbour that is unseen is joined to the cluster or copied, and its num counts; one that is seen
-- changes nothing. An entry that is visited is made a cluster or left; one that is scanned is visited or passed by. Assumes nothing.
use Rattle.std.specs.Prelude.{◌≡◌, true, false, List, [], ◌∷◌, ◌++◌, ℕ, ◌+◌, ◌<◌, ◌≤◌, set, Float}
use Rattle.std.proofs.Math.Path.{refl}
use Rattle.std.proofs.Common.{sym, subst, arith, lt-ltb, le-ltb}
use Rattle.std.specs.Float.{binary64}
use Rattle.std.specs.Float.Ieee.{add, mul}
use Rattle.floats.specs.Numbers.{float}
use Rattle.build_tables.specs.declared.Entry.{Entry}
use Rattle.build_tables.specs.Entries.{Table, entry, unseen, marked, under}
use Rattle.build_one_zoom.specs.Zoom.{more_of, more, Absorbed, absorb_one, Scan, copy_one, made_at, left_at, enough, visit, mark_at}
use Rattle.build_one_zoom.specs.Zoom.{scan_one}

-- ---- one neighbour

-- it is marked, gets the parent p, and adds its products
abbrev pub joined_step : ℕ → ℕ → Absorbed → ℕ → Absorbed
joined_step z p s k =
    record {
      table = set s.table k (under p (marked z (entry s.table k)));
      sx = add binary64 s.sx (mul binary64 (entry s.table k).x (float (entry s.table k).num));
      sy = add binary64 s.sy (mul binary64 (entry s.table k).y (float (entry s.table k).num));
      se = s.se + (entry s.table k).energy;
    }

pub absorb_one-yes : (z p : ℕ) (s : Absorbed) (k : ℕ) → unseen z (entry s.table k) ≡ true → absorb_one z p s k ≡ joined_step z p s k
unfolding absorb_one
absorb_one-yes z p s k e = rw e

pub absorb_one-no : (z p : ℕ) (s : Absorbed) (k : ℕ) → unseen z (entry s.table k) ≡ false → absorb_one z p s k ≡ s
unfolding absorb_one
absorb_one-no z p s k e = rw e

-- it is marked and copied
abbrev pub copied_one : ℕ → Scan → ℕ → Scan
copied_one z s k = record {
  table = set s.table k (marked z (entry s.table k));
  next =
      s.next ++ (marked z (entry s.table k) ∷ []);
}

pub copy_one-yes : (z : ℕ) (s : Scan) (k : ℕ) → unseen z (entry s.table k) ≡ true → copy_one z s k ≡ copied_one z s k
unfolding copy_one
copy_one-yes z s k e = rw e

pub copy_one-no : (z : ℕ) (s : Scan) (k : ℕ) → unseen z (entry s.table k) ≡ false → copy_one z s k ≡ s
unfolding copy_one
copy_one-no z s k e = rw e

module _ (f : Entry → ℕ) (z : ℕ) (t : Table) where
  pub more-nil : more_of f z t [] ≡ 0
  unfolding more_of
  more-nil = refl

  pub more_yes : (k : ℕ) (ks : List ℕ) → unseen z (entry t k) ≡ true → more_of f z t (k ∷ ks) ≡ f (entry t k) + more_of f z t ks
  unfolding more_of
  more_yes k ks e = rw e

  pub more_no : (k : ℕ) (ks : List ℕ) → unseen z (entry t k) ≡ false → more_of f z t (k ∷ ks) ≡ more_of f z t ks
  unfolding more_of
  more_no k ks e = rw e (omega arith)

-- ---- one entry

-- the total of the entry i
abbrev pub total_of : ℕ → List ℕ → ℕ → Table → ℕ
total_of z near i t = (entry t i).num + more z t near

module _ (n least z : ℕ) (near : List ℕ) (i : ℕ) (s : Scan) where
  pub visit-made : enough (entry s.table i).num (total_of z near i s.table) least ≡ true
      → visit n least z near i s ≡ made_at n z i (total_of z near i s.table) near s
  unfolding visit
  visit-made e = rw e

  pub visit-left : enough (entry s.table i).num (total_of z near i s.table) least ≡ false
      → visit n least z near i s ≡ left_at z i near s
  unfolding visit
  visit-left e = rw e

  -- the same, for a number that is the total
  pub made_by : (k : ℕ) → k ≡ total_of z near i s.table → enough (entry s.table i).num k least ≡ true
      → visit n least z near i s ≡ made_at n z i k near s
  made_by k q = subst (λ (m : ℕ). enough (entry s.table i).num m least ≡ true → visit n least z near i s ≡ made_at n z i m near s)
      (sym q) visit-made

  pub left_by : (k : ℕ) → k ≡ total_of z near i s.table → enough (entry s.table i).num k least ≡ false
      → visit n least z near i s ≡ left_at z i near s
  left_by k q = subst (λ (m : ℕ). enough (entry s.table i).num m least ≡ false → visit n least z near i s ≡ left_at z i near s)
      (sym q) visit-left

module _ (n least z : ℕ) (near : Float → Float → List ℕ) (s : Scan) (i : ℕ) where
  pub scan-seen : (entry s.table i).seen ≤ z → scan_one n least z near s i ≡ s
  unfolding scan_one
  scan-seen h = rw (le-ltb z (entry s.table i).seen h)

  pub scan-visit : z < (entry s.table i).seen
      → scan_one n least z near s i ≡ visit n least z (near (entry s.table i).x (entry s.table i).y) i (mark_at z i s)
  unfolding scan_one
  scan-visit h = rw (lt-ltb z (entry s.table i).seen h)
