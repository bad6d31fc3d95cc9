-- A property of tables that each store of a scan keeps is kept by the scan. So are every field but seen and parent, the length, and what
-- is seen; what is unseen does not grow; and an entry that was scanned is seen. Assumes nothing.
use Rattle.std.specs.Prelude.{◌≡◌, Bool, true, false, length, set, Float}
use Rattle.std.proofs.Math.Path.{refl, subst}
use Rattle.std.proofs.Common.{sym, ◌∙◌, le_refl, le_trans, eq-or-lt_of_le, ltb-true, ltb-false, length-set}
use Rattle.std.proofs.Math.Logic.{⊎_elim}
use mathlib.Core.List.{List, [], ◌∷◌, ◌++◌, map}
use Prim.Native.Nat.{ℕ, zero, suc, ◌+◌, ◌<◌, ◌≤◌}
use native.Mathlib.Omega.{arith}
use Rattle.std.proofs.Math.Seq.{map-set_same}
use Rattle.kdslots.specs.laws.All.{All, all_get_d, all_set}
use Rattle.build_tables.specs.declared.Entry.{Entry}
use Rattle.build_tables.specs.Entries.{Table, entry, none, unseen, marked, under}
use Rattle.build_tables.specs.Ids.{cluster_id}
use Rattle.build_one_zoom.specs.Scanned.{unseen_count, unseen_of}
use Rattle.build_one_zoom.specs.Zoom.{Absorbed, absorb_one, absorb, started, Scan, copy_one, copy_all, enough, visit, mark_at, scan_one}
use Rattle.build_one_zoom.specs.Zoom.{scan_from}
use Rattle.build_one_zoom.specs.Zoom.{cluster}
use Rattle.build_one_zoom.specs.laws.Steps.{absorb_one-yes, absorb_one-no, copy_one-yes, copy_one-no, total_of, visit-made, visit-left}
use Rattle.build_one_zoom.specs.laws.Steps.{scan-seen}
use Rattle.build_one_zoom.specs.laws.Steps.{scan-visit}
use Rattle.build_one_zoom.specs.laws.Unseen.{unseen_count-le, unseen_of-le, unseen_count-under, unseen_of-under}

-- what each entry has, the entry at a place has
pub all-at : (P : Entry → Type 0) (t : Table) (i : ℕ) → All P t → i < length t → P (entry t i)
all-at P t i a h = all_get_d P t i none a h

-- ---- what a scan keeps

-- its three stores keep the property: of a neighbour of a cluster, of an entry that is marked, of the origin of a cluster
pub record Keeps (z : ℕ) (R : Table → Type 0) : Type 0 where
  pub join : (t : Table) (k p : ℕ) → R t → R (set t k (under p (marked z (entry t k))))
  pub mark : (t : Table) (k : ℕ) → R t → R (set t k (marked z (entry t k)))
  pub hang : (t : Table) (k p : ℕ) → R t → R (set t k (under p (entry t k)))

module _ (z : ℕ) (R : Table → Type 0) (K : Keeps z R) where
  pub keep-absorb_one : (p : ℕ) (s : Absorbed) (k : ℕ) (b : Bool) → unseen z (entry s.table k) ≡ b → R s.table
      → R (absorb_one z p s k).table
  keep-absorb_one p s k true e r = rw (absorb_one-yes z p s k e) (K.join s.table k p r)
  keep-absorb_one p s k false e r = rw (absorb_one-no z p s k e) r

  pub keep-absorb : (p : ℕ) (s : Absorbed) (l : List ℕ) → R s.table → R (absorb z p s l).table
  unfolding absorb
  keep-absorb p s [] r = r
  keep-absorb p s (k ∷ ks) r = keep-absorb p (absorb_one z p s k) ks (keep-absorb_one p s k _ refl r)

  pub keep-copy : (s : Scan) (k : ℕ) (b : Bool) → unseen z (entry s.table k) ≡ b → R s.table → R (copy_one z s k).table
  keep-copy s k true e r = rw (copy_one-yes z s k e) (K.mark s.table k r)
  keep-copy s k false e r = rw (copy_one-no z s k e) r

  keep-copy_all : (s : Scan) (l : List ℕ) → R s.table → R (copy_all z s l).table
  unfolding copy_all
  keep-copy_all s [] r = r
  keep-copy_all s (k ∷ ks) r = keep-copy_all (copy_one z s k) ks (keep-copy s k _ refl r)

  module _ (n least : ℕ) where
    keep-visit : (near : List ℕ) (i : ℕ) (s : Scan) (b : Bool) → enough (entry s.table i).num (total_of z near i s.table) least ≡ b
        → R s.table → R (visit n least z near i s).table
    keep-visit near i s true e r =
        let p = cluster_id n z i in
        rw (visit-made n least z near i s e)
        (K.hang (absorb z p (started s.table (entry s.table i)) near).table i p
        (keep-absorb p (started s.table (entry s.table i)) near r))
    keep-visit near i s false e r =
        rw (visit-left n least z near i s e)
        (keep-copy_all (record { table = s.table; next = s.next ++ (entry s.table i ∷ []) }) near r)

    pub keep_one : (near : Float → Float → List ℕ) (s : Scan) (i : ℕ) (b : Bool) → unseen z (entry s.table i) ≡ b → R s.table
        → R (scan_one n least z near s i).table
    keep_one near s i true e r =
        rw (scan-visit n least z near s i (ltb-true z (entry s.table i).seen e))
        (keep-visit (near (entry s.table i).x (entry s.table i).y) i (mark_at z i s) _ refl (K.mark s.table i r))
    keep_one near s i false e r = rw (scan-seen n least z near s i (ltb-false z (entry s.table i).seen e)) r

    pub keep-scan : (near : Float → Float → List ℕ) (s : Scan) (i k : ℕ) → R s.table → R (scan_from n least z near s i k).table
    unfolding scan_from
    keep-scan near s i zero r = r
    keep-scan near s i (suc k) r = keep-scan near (scan_one n least z near s i) (suc i) k (keep_one near s i _ refl r)

-- ---- what is kept

-- a field other than seen and parent
pub kept_field : {B : Type 0} (f : Entry → B) (z : ℕ) (t₀ : Table) → ((e : Entry) (q : ℕ) → f (marked q e) ≡ f e)
    → ((e : Entry) (q : ℕ) → f (under q e) ≡ f e)
    → Keeps z (λ t. map f t ≡ map f t₀)
kept_field f z t₀ a b =
    record {
      join = λ t k p r. map-set_same f t k (under p (marked z (entry t k))) none (b (marked z (entry t k)) p ∙ a (entry t k) z) ∙ r;
      mark = λ t k r. map-set_same f t k (marked z (entry t k)) none (a (entry t k) z) ∙ r;
      hang = λ t k p r. map-set_same f t k (under p (entry t k)) none (b (entry t k) p) ∙ r;
    }

-- a property of each entry that looks at neither seen nor parent
pub kept-all : (P : Entry → Type 0) (z : ℕ) → ((e : Entry) (q : ℕ) → P e → P (marked q e)) → ((e : Entry) (q : ℕ) → P e → P (under q e))
    → Keeps z (λ t. All P t)
kept-all P z f g =
    record {
      join = λ t k p a. all_set P t k none (under p (marked z (entry t k))) (λ w. g (marked z (entry t k)) p (f (entry t k) z w)) a;
      mark = λ t k a. all_set P t k none (marked z (entry t k)) (f (entry t k) z) a;
      hang = λ t k p a. all_set P t k none (under p (entry t k)) (g (entry t k) p) a;
    }

pub kept-length : (z n : ℕ) → Keeps z (λ t. length t ≡ n)
kept-length z n =
    record {
      join = λ t k p r. length-set t k (under p (marked z (entry t k))) ∙ r;
      mark = λ t k r. length-set t k (marked z (entry t k)) ∙ r;
      hang = λ t k p r. length-set t k (under p (entry t k)) ∙ r;
    }

-- no store adds to what is unseen
pub kept-unseen_count : (z m : ℕ) → Keeps z (λ t. unseen_count z t ≤ m)
kept-unseen_count z m =
    record {
      join = λ t k p r. le_trans (unseen_count-le z t k (under p (marked z (entry t k))) (le_refl z)) r;
      mark = λ t k r. le_trans (unseen_count-le z t k (marked z (entry t k)) (le_refl z)) r;
      hang = λ t k p r. rw (unseen_count-under z t k p) r;
    }

pub kept-unseen_of : (f : Entry → ℕ) → ((e : Entry) (q : ℕ) → f (under q e) ≡ f e) → (z m : ℕ) → Keeps z (λ t. unseen_of f z t ≤ m)
kept-unseen_of f g z m =
    record {
      join = λ t k p r. le_trans (unseen_of-le f z t k (under p (marked z (entry t k))) (le_refl z)) r;
      mark = λ t k r. le_trans (unseen_of-le f z t k (marked z (entry t k)) (le_refl z)) r;
      hang = λ t k p r. rw (unseen_of-under f g z t k p) r;
    }

-- an entry that is seen stays seen
seen-set : (z : ℕ) (t : Table) (k : ℕ) (e : Entry) (j : ℕ) → e.seen ≤ z → (entry t j).seen ≤ z → (entry (set t k e) j).seen ≤ z
seen-set z [] k e j h m = m
seen-set z (a ∷ t) zero e zero h m = h
seen-set z (a ∷ t) zero e (suc j) h m = m
seen-set z (a ∷ t) (suc k) e zero h m = m
seen-set z (a ∷ t) (suc k) e (suc j) h m = seen-set z t k e j h m

-- a parent changes no mark
seen-under : (z : ℕ) (t : Table) (k p j : ℕ) → (entry t j).seen ≤ z → (entry (set t k (under p (entry t k))) j).seen ≤ z
seen-under z [] k p j m = m
seen-under z (a ∷ t) zero p zero m = m
seen-under z (a ∷ t) zero p (suc j) m = m
seen-under z (a ∷ t) (suc k) p zero m = m
seen-under z (a ∷ t) (suc k) p (suc j) m = seen-under z t k p j m

seen-mark : (z : ℕ) (t : Table) (k : ℕ) → (entry (set t k (marked z (entry t k))) k).seen ≤ z
seen-mark z [] k = omega arith
seen-mark z (a ∷ t) zero = le_refl z
seen-mark z (a ∷ t) (suc k) = seen-mark z t k

kept_seen : (z j : ℕ) → Keeps z (λ t. (entry t j).seen ≤ z)
kept_seen z j =
    record {
      join = λ t k p r. seen-set z t k (under p (marked z (entry t k))) j (le_refl z) r;
      mark = λ t k r. seen-set z t k (marked z (entry t k)) j (le_refl z) r;
      hang = λ t k p r. seen-under z t k p j r;
    }

-- ---- what was scanned is seen

module _ (n least z : ℕ) (near : Float → Float → List ℕ) where
  -- the entry i, whichever way it goes
  one-sees : (s : Scan) (i : ℕ) (b : Bool) → unseen z (entry s.table i) ≡ b → (entry (scan_one n least z near s i).table i).seen ≤ z
  one-sees s i true e =
      rw (scan-visit n least z near s i (ltb-true z (entry s.table i).seen e))
      (keep-visit z (λ t. (entry t i).seen ≤ z) (kept_seen z i) n least (near (entry s.table i).x (entry s.table i).y) i
      (mark_at z i s) _ refl (seen-mark z s.table i))
  one-sees s i false e = let h = ltb-false z (entry s.table i).seen e in rw (scan-seen n least z near s i h) h

  -- after k entries from i on
  pub scan-sees : (s : Scan) (i k j : ℕ) → (j < i → (entry s.table j).seen ≤ z) → j < i + k
      → (entry (scan_from n least z near s i k).table j).seen ≤ z
  unfolding scan_from
  scan-sees s i zero j f h = f (omega arith)
  scan-sees s i (suc k) j f h = scan-sees (scan_one n least z near s i) (suc i) k j step (omega arith)
    where
      step : j < suc i → (entry (scan_one n least z near s i).table j).seen ≤ z
      step l = ⊎_elim
          (λ e. subst (λ (q : ℕ). (entry (scan_one n least z near s i).table q).seen ≤ z) (sym e) (one-sees s i _ refl))
          (λ g. keep_one z (λ t. (entry t j).seen ≤ z) (kept_seen z j) n least near s i _ refl (f g))
          (eq-or-lt_of_le (let q : j ≤ i = omega arith in q))

-- a zoom keeps the length of its table
pub cluster-long : (n least z : ℕ) (near : Float → Float → List ℕ) (t : Table) → length (cluster n least z near t).table ≡ length t
unfolding cluster
cluster-long n least z near t = keep-scan z (λ q. length q ≡ length t) (kept-length z (length t)) n least near
    (record { table = t; next = [] }) 0 (length t) refl
