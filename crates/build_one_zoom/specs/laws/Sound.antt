-- One zoom on a table whose entries lie from 0 to 1 and count one lamp or more: so do those of the next table, which counts the same lamps.
-- Assumes nothing.
use Rattle.std.specs.Prelude.{◌≡◌, Bool, set, Float}
use Rattle.std.proofs.Math.Path.{refl, ap, sym}
use Rattle.std.proofs.Common.{◌∙◌, subst, arith, le_refl, le_trans, length-set, get_or-set_same}
use Rattle.std.proofs.Math.Bool.{true, false}
use mathlib.Core.List.{List, [], ◌∷◌, ◌++◌, map}
use Prim.Native.Nat.{ℕ, zero, suc, ◌+◌, ◌^◌, ◌<◌, ◌≤◌}
use Rattle.std.proofs.Math.Nat.{add-zero}
use borrow.Author.Tests.{ltb-true, ltb-false, lt-ltb}
use Rattle.std.proofs.Math.ListN.{length}
use Rattle.floats.specs.laws.Centre.{Weighted, weigh-one, weigh-more, weigh-mean}
use Rattle.floats.specs.laws.Unit.{In01}
use Rattle.kdslots.specs.laws.All.{All, all_snoc, all_map}
use Rattle.kdslots.specs.laws.Members.{Distinct, NotIn}
use Rattle.build_tables.specs.declared.Entry.{Entry}
use Rattle.build_tables.specs.Entries.{Table, entry, none, unseen, marked, under}
use Rattle.build_tables.specs.Ids.{cluster_id}
use Rattle.build_one_zoom.specs.Scanned.{unseen_of, unseen_num}
use Rattle.build_one_zoom.specs.Zoom.{num_of, energy_of, more, Absorbed, absorb_one, absorb, started, centre, Scan, copy_one, copy_all}
use Rattle.build_one_zoom.specs.Zoom.{enough}
use Rattle.build_one_zoom.specs.Zoom.{visit, mark_at, scan_one, scan_from, cluster}
use Rattle.build_one_zoom.specs.laws.Steps.{joined_step, absorb_one-yes, absorb_one-no, copy_one-yes, copy_one-no, more-nil, more_yes}
use Rattle.build_one_zoom.specs.laws.Steps.{more_no, total_of}
use Rattle.build_one_zoom.specs.laws.Steps.{visit-made, visit-left, scan-seen, scan-visit}
use Rattle.build_one_zoom.specs.laws.Unseen.{unseen-in, unseen_count-length, unseen_of-mark, unseen_of-none, more_same}
use Rattle.build_one_zoom.specs.laws.Keeps.{all-at, Keeps, kept-all, keep-copy, keep_one, keep-scan, kept_field, kept-length}
use Rattle.build_one_zoom.specs.laws.Keeps.{scan-sees}
use Rattle.build_one_zoom.specs.laws.Fewer.{from-fewer}
use Rattle.build_one_zoom.specs.laws.Lamps.{sum_of, lamp_total, Carried, num-carried, energy-carried, absorb-weighs, scan-weighs-by}
use Rattle.build_one_zoom.specs.laws.Lamps.{from-weighs}

-- a place from 0 to 1, and one lamp or more
abbrev pub Body : Entry → Type 0
Body e = In01 e.x × In01 e.y × (1 ≤ e.num)

-- and not seen by a zoom below z
abbrev pub Next : ℕ → Entry → Type 0
Next z e = Body e × (z ≤ e.seen)

kept-body : (z : ℕ) → Keeps z (λ t. All Body t)
kept-body z = kept-all Body z (λ e q b. b) (λ e q b. b)

-- all entries are unseen
pub unseen_of-all : (f : Entry → ℕ) (z : ℕ) (t : Table) → All (Next (suc z)) t → unseen_of f z t ≡ sum_of f t
unfolding unseen_of sum_of All
unseen_of-all f z [] a = refl
unseen_of-all f z (e ∷ t) a =
    let r = unseen_of-all f z t a.1 in
    let q : z < e.seen = omega (arith, a.0.1) in
    rw (lt-ltb z e.seen q) (omega (arith, r))

-- ---- the centres: sums of what counts at most B lamps

module _ (z p B : ℕ) (few : B ≤ 2 ^ 53) where
  both-weighted : (s : Absorbed) (S : ℕ) → Type 0
  both-weighted s S = Weighted s.sx S × Weighted s.sy S

  -- one neighbour, once what is said holds of the others
  absorb-by : (s : Absorbed) (k : ℕ) (ks : List ℕ) (S : ℕ)
      → ((s' : Absorbed) (S' : ℕ) → All Body s'.table → both-weighted s' S' → S' + more z s'.table ks ≤ B
      → both-weighted (absorb z p s' ks) (S' + more z s'.table ks))
      → NotIn k ks → All Body s.table → both-weighted s S → S + more z s.table (k ∷ ks) ≤ B
      → (b : Bool) → unseen z (entry s.table k) ≡ b → both-weighted (absorb z p (absorb_one z p s k) ks) (S + more z s.table (k ∷ ks))
  unfolding both-weighted
  absorb-by s k ks S ih d a w h true e =
      let t = s.table in
      let u : z < (entry t k).seen = ltb-true z (entry t k).seen e in
      let f = all-at Body t k a (unseen-in z t k u) in
      let s' = joined_step z p s k in
      let m : more z s'.table ks ≡ more z t ks = more_same num_of z t k (under p (marked z (entry t k))) ks d in
      let my = more_yes num_of z t k ks e in
      let q : S + (entry t k).num + more z s'.table ks ≡ S + more z t (k ∷ ks) = omega (arith, m, my) in
      let hb : S + (entry t k).num ≤ B = omega (arith, my, h) in
      let hb2 : S + (entry t k).num + more z s'.table ks ≤ B = omega (arith, q, h) in
      rw (absorb_one-yes z p s k e) (subst (λ (x : ℕ). both-weighted (absorb z p s' ks) x) q
      (ih s' (S + (entry t k).num) ((kept-body z).join t k p a) (
        weigh-more s.sx S (entry t k).x (entry t k).num w.0 f.0 f.2 (le_trans hb few),
        weigh-more s.sy S (entry t k).y (entry t k).num w.1 f.1 f.2 (le_trans hb few),
      ) hb2))
  absorb-by s k ks S ih d a w h false e =
      let mn = more_no num_of z s.table k ks e in
      rw (absorb_one-no z p s k e, mn) (ih s S a w (omega (arith, mn, h)))

  absorb-weighted : (s : Absorbed) (l : List ℕ) (S : ℕ) → Distinct l → All Body s.table → both-weighted s S → S + more z s.table l ≤ B
      → both-weighted (absorb z p s l) (S + more z s.table l)
  unfolding absorb both-weighted
  absorb-weighted s [] S o a w h = rw (more-nil num_of z s.table, add-zero S) w
  absorb-weighted s (k ∷ ks) S o a w h = absorb-by s k ks S (λ s' S' a' w' h'. absorb-weighted s' ks S' o.1 a' w' h') o.0 a w h _ refl

-- the entry that a cluster gets
module _ (n least z B : ℕ) (few : B ≤ 2 ^ 53) (zs : z ≤ 255) (near : List ℕ) (i : ℕ) (s : Scan) (o : Distinct near)
    (a : All Body s.table) (hi : i < length s.table)
    (light : (entry s.table i).num + unseen_num z s.table ≤ B) where
  made-next : Next z (centre (absorb z (cluster_id n z i) (started s.table (entry s.table i)) near) (cluster_id n z i)
      (total_of z near i s.table))
  unfolding both-weighted
  made-next =
      let t = s.table in
      let p = cluster_id n z i in
      let st = started t (entry t i) in
      let f = all-at Body t i a hi in
      let num = (entry t i).num in
      let l : num + more z t near ≤ B = omega (arith, light, absorb-weighs num_of z p st near o) in
      let l1 : num ≤ B = omega (arith, l) in
      let l2 : 1 ≤ num + more z t near = omega (arith, f.2) in
      let w : both-weighted z p B few (absorb z p st near) (num + more z t near) =
      absorb-weighted z p B few st near num o a (
        weigh-one (entry t i).x num f.0 f.2 (le_trans l1 few),
        weigh-one (entry t i).y num f.1 f.2 (le_trans l1 few),
      ) l in (
        (
          weigh-mean (absorb z p st near).sx (num + more z t near) w.0 l2 (le_trans l few),
          weigh-mean (absorb z p st near).sy (num + more z t near) w.1 l2 (le_trans l few),
          l2,
        ),
        zs,
      )

-- ---- the entries of the next table

copy_one-next : (z : ℕ) (s : Scan) (k : ℕ) (b : Bool) → unseen z (entry s.table k) ≡ b → All Body s.table → All (Next z) s.next
    → All (Next z) (copy_one z s k).next
copy_one-next z s k true e a x =
    let u = unseen-in z s.table k (ltb-true z (entry s.table k).seen e) in
    rw (copy_one-yes z s k e) (all_snoc (Next z) s.next (marked z (entry s.table k)) x (all-at Body s.table k a u, le_refl z))
copy_one-next z s k false e a x = rw (copy_one-no z s k e) x

copy_all-next : (z : ℕ) (s : Scan) (l : List ℕ) → All Body s.table → All (Next z) s.next → All (Next z) (copy_all z s l).next
unfolding copy_all
copy_all-next z s [] a x = x
copy_all-next z s (k ∷ ks) a x = copy_all-next z (copy_one z s k) ks (keep-copy z (λ t. All Body t) (kept-body z) s k _ refl a)
    (copy_one-next z s k _ refl a x)

module _ (n least z B : ℕ) (few : B ≤ 2 ^ 53) (zs : z ≤ 255) where
  visit-next : (near : List ℕ) (i : ℕ) (s : Scan) → Distinct near → All Body s.table → i < length s.table
      → z ≤ (entry s.table i).seen
      → (entry s.table i).num + unseen_num z s.table ≤ B → All (Next z) s.next
      → (b : Bool) → enough (entry s.table i).num (total_of z near i s.table) least ≡ b
      → All (Next z) (visit n least z near i s).next
  visit-next near i s o a hi hs light x true e =
      rw (visit-made n least z near i s e) (all_snoc (Next z) s.next _ x (made-next n least z B few zs near i s o a hi light))
  visit-next near i s o a hi hs light x false e =
      rw (visit-left n least z near i s e)
      (copy_all-next z (record { table = s.table; next = s.next ++ (entry s.table i ∷ []) }) near a
      (all_snoc (Next z) s.next (entry s.table i) x (all-at Body s.table i a hi, hs)))

  module _ (near : Float → Float → List ℕ) (o : (qx qy : Float) → Distinct (near qx qy)) where
    one-next : (s : Scan) (i : ℕ) → All Body s.table → unseen_num z s.table ≤ B → All (Next z) s.next
        → (b : Bool) → unseen z (entry s.table i) ≡ b → All (Next z) (scan_one n least z near s i).next
    one-next s i a light x true e =
        let t = s.table in
        let u : z < (entry t i).seen = ltb-true z (entry t i).seen e in
        let hin = unseen-in z t i u in
        let m = marked z (entry t i) in
        let g : entry (set t i m) i ≡ m = get_or-set_same t i m none hin in
        let hn : (entry (set t i m) i).num ≡ (entry t i).num = ap (λ (q : Entry). q.num) g in
        let hs : (entry (set t i m) i).seen ≡ z = ap (λ (q : Entry). q.seen) g in
        let l : length (set t i m) ≡ length t = length-set t i m in
        rw (scan-visit n least z near s i u)
        (visit-next (near (entry t i).x (entry t i).y) i (mark_at z i s) (o _ _) ((kept-body z).mark t i a) (omega (arith, l, hin))
        (omega (arith, hs))
        (omega (arith, hn, light, unseen_of-mark num_of z t i m hin u (le_refl z))) x _ refl)
    one-next s i a light x false e = rw (scan-seen n least z near s i (ltb-false z (entry s.table i).seen e)) x

    scan-next : (s : Scan) (i k : ℕ) → All Body s.table → unseen_num z s.table + lamp_total s.next ≤ B → All (Next z) s.next
        → All (Next z) (scan_from n least z near s i k).next
    unfolding scan_from
    scan-next s i zero a light x = x
    scan-next s i (suc k) a light x =
        let w = scan-weighs-by num_of num-carried n least z near o s i _ refl in
        scan-next (scan_one n least z near s i) (suc i) k (keep_one z (λ t. All Body t) (kept-body z) n least near s i _ refl a)
        (omega (arith, w, light))
        (one-next s i a (omega (arith, light)) x _ refl)

-- the same numbers give the same sum
sum : List ℕ → ℕ
sum [] = 0
sum (a ∷ l) = a + sum l

sum-map : (f : Entry → ℕ) (t : Table) → sum_of f t ≡ sum (map f t)
unfolding sum_of sum
sum-map f [] = refl
sum-map f (e ∷ t) = ap (λ (q : ℕ). f e + q) (sum-map f t)

-- what one zoom does to a table whose entries are unseen by it
pub record Sound (z : ℕ) (t : Table) (s : Scan) : Type 0 where
  pub body : All Body s.table
  pub next : All (Next z) s.next
  pub lamps : lamp_total s.next ≡ lamp_total t
  pub lamps-kept : lamp_total s.table ≡ lamp_total t
  pub energies : sum_of energy_of s.next ≡ sum_of energy_of t
  pub energies-kept : sum_of energy_of s.table ≡ sum_of energy_of t
  pub xs : map (λ e. e.x) s.table ≡ map (λ e. e.x) t
  pub ys : map (λ e. e.y) s.table ≡ map (λ e. e.y) t
  pub shorter : length s.next ≤ length t
  pub long : length s.table ≡ length t

module _ (n least z : ℕ) (near : Float → Float → List ℕ) (o : (qx qy : Float) → Distinct (near qx qy)) (t : Table)
    (a : All (Next (suc z)) t) (few : lamp_total t ≤ 2 ^ 53) (zs : z ≤ 255) where
  first : Scan
  first = record { table = t; next = [] }

  last : Scan
  last = scan_from n least z near first 0 (length t)

  -- a number that the entries carry: in the next table, and in the table with its marks
  module _ (f : Entry → ℕ) (C : Carried f) where
    carried-next : sum_of f last.next ≡ sum_of f t
    unfolding first last sum_of
    carried-next =
        let w = from-weighs f C n least z near o first 0 (length t) in
        let len : length last.table ≡ length t
        = keep-scan z (λ q. length q ≡ length t) (kept-length z (length t)) n least near first 0 (length t) refl in
        let left : unseen_of f z last.table ≡ 0
        = unseen_of-none f z last.table
        (λ j h. scan-sees n least z near first 0 (length t) j (λ q. absurd (omega arith)) (omega (arith, len, h))) in
        omega (arith, w, unseen_of-all f z t a, left)

    carried-table : sum_of f last.table ≡ sum_of f t
    unfolding first last
    carried-table =
        let same = keep-scan z (λ q. map f q ≡ map f t) (kept_field f z t C.marks C.hangs) n least near first 0 (length t) refl in
        sum-map f last.table ∙ ap sum same ∙ sym (sum-map f t)

  pub cluster-sound : Sound z t (cluster n least z near t)
  unfolding cluster sum_of All first last
  cluster-sound =
      let s₀ : Scan = first in
      let b = all_map (Next (suc z)) Body (λ e q. q.0) t a in
      let hv = unseen_of-all num_of z t a in
      record {
        body = keep-scan z (λ q. All Body q) (kept-body z) n least near s₀ 0 (length t) b;
        next = scan-next n least z (lamp_total t) few zs near o s₀ 0 (length t) b (omega (arith, hv)) tt;
        lamps = carried-next num_of num-carried;
        lamps-kept = carried-table num_of num-carried;
        energies = carried-next energy_of energy-carried;
        energies-kept = carried-table energy_of energy-carried;
        xs = keep-scan z (λ q. map (λ e. e.x) q ≡ map (λ e. e.x) t) (kept_field (λ e. e.x) z t (λ e q. refl) (λ e q. refl)) n least near
            s₀ 0 (length t) refl;
        ys = keep-scan z (λ q. map (λ e. e.y) q ≡ map (λ e. e.y) t) (kept_field (λ e. e.y) z t (λ e q. refl) (λ e q. refl)) n least near
            s₀ 0 (length t) refl;
        shorter = omega (arith, from-fewer n least z near s₀ 0 (length t), unseen_count-length z t);
        long = keep-scan z (λ q. length q ≡ length t) (kept-length z (length t)) n least near s₀ 0 (length t) refl;
      }
