-- No lamp is lost or counted twice, and no energy: at each step of a scan what is unseen and what is made add up to the same. So the next
-- table adds up to no more than the table. Said once, of any number that an entry carries: a mark and a parent leave it, and a cluster's
-- is the sum. Assumes nothing.
use Rattle.std.specs.Prelude.{◌≡◌, Bool, true, false, length, set, Float}
use Rattle.std.proofs.Math.Path.{refl}
use Rattle.std.proofs.Common.{ap, ◌∙◌, arith, le_refl, ltb-true, ltb-false, get_or-set_same}
use mathlib.Core.List.{List, [], ◌∷◌, ◌++◌}
use Prim.Native.Nat.{ℕ, zero, suc, ◌+◌, ◌<◌, ◌≤◌}
use Rattle.kdslots.specs.laws.Members.{Distinct, NotIn}
use Rattle.build_tables.specs.declared.Entry.{Entry}
use Rattle.build_tables.specs.Entries.{Table, entry, none, unseen, marked, under}
use Rattle.build_tables.specs.Ids.{cluster_id}
use Rattle.build_one_zoom.specs.Scanned.{unseen_of}
use Rattle.build_one_zoom.specs.Zoom.{num_of, energy_of, adds, more_of, Absorbed, absorb_one, absorb, started, centre, Scan, copy_one}
use Rattle.build_one_zoom.specs.Zoom.{copy_all}
use Rattle.build_one_zoom.specs.Zoom.{enough, visit, mark_at, scan_one, scan_from, cluster}
use Rattle.build_one_zoom.specs.laws.Steps.{joined_step, absorb_one-yes, absorb_one-no, copy_one-yes, copy_one-no, more-nil, more_yes}
use Rattle.build_one_zoom.specs.laws.Steps.{more_no, total_of}
use Rattle.build_one_zoom.specs.laws.Steps.{visit-made, visit-left, scan-seen, scan-visit}
use Rattle.build_one_zoom.specs.laws.Unseen.{unseen-in, unseen_of-mark, unseen_of-under, more_same}

-- f of a table's entries, added up
unfoldable pub sum_of : (Entry → ℕ) → Table → ℕ
sum_of f [] = 0
sum_of f (e ∷ t) = f e + sum_of f t

-- the lamps that a table counts
abbrev pub lamp_total : Table → ℕ
lamp_total t = sum_of num_of t

sum-snoc : (f : Entry → ℕ) (t : Table) (e : Entry) → sum_of f (t ++ (e ∷ [])) ≡ sum_of f t + f e
unfolding sum_of
sum-snoc f [] e = omega arith
sum-snoc f (a ∷ t) e = let r = sum-snoc f t e in omega (arith, r)

pub unseen_of-sum : (f : Entry → ℕ) (z : ℕ) (t : Table) → unseen_of f z t ≤ sum_of f t
unfolding unseen_of sum_of
unseen_of-sum f z [] = le_refl 0
unseen_of-sum f z (a ∷ t) = by (unseen z a) refl (unseen_of-sum f z t)
  where
    by : (b : Bool) → unseen z a ≡ b → unseen_of f z t ≤ sum_of f t → adds f z a + unseen_of f z t ≤ f a + sum_of f t
    by true e h = rw e (omega (arith, h))
    by false e h = rw e (omega (arith, h))

-- one neighbour, the others being other entries
absorb_one-weighs : (f : Entry → ℕ) (z p : ℕ) (s : Absorbed) (k : ℕ) (ks : List ℕ) → NotIn k ks
    → (b : Bool) → unseen z (entry s.table k) ≡ b
    → unseen_of f z (absorb_one z p s k).table + more_of f z s.table (k ∷ ks)
    ≡ unseen_of f z s.table + more_of f z (absorb_one z p s k).table ks
absorb_one-weighs f z p s k ks o true e =
    let t = s.table in
    let u : z < (entry t k).seen = ltb-true z (entry t k).seen e in
    let m = under p (marked z (entry t k)) in
    let h = unseen_of-mark f z t k m (unseen-in z t k u) u (le_refl z) in
    rw (absorb_one-yes z p s k e) (omega (arith, more_yes f z t k ks e, h, more_same f z t k m ks o))
absorb_one-weighs f z p s k ks o false e = rw (absorb_one-no z p s k e) (omega (arith, more_no f z s.table k ks e))

-- the neighbours of a cluster: what they add is no longer unseen
pub absorb-weighs : (f : Entry → ℕ) (z p : ℕ) (s : Absorbed) (l : List ℕ) → Distinct l
    → unseen_of f z (absorb z p s l).table + more_of f z s.table l ≡ unseen_of f z s.table
unfolding absorb
absorb-weighs f z p s [] o = omega (arith, more-nil f z s.table)
absorb-weighs f z p s (k ∷ ks) o =
    let h = absorb-weighs f z p (absorb_one z p s k) ks o.1 in
    let w = absorb_one-weighs f z p s k ks o.0 _ refl in
    omega (arith, h, w)

-- ---- a number that an entry carries

-- a mark and a parent leave it, and a cluster's is the sum of what its origin and its unseen neighbours carry
pub record Carried (f : Entry → ℕ) : Type 0 where
  pub marks : (e : Entry) (q : ℕ) → f (marked q e) ≡ f e
  pub hangs : (e : Entry) (q : ℕ) → f (under q e) ≡ f e
  pub sums : (z p i : ℕ) (near : List ℕ) (t : Table) → Distinct near
      → f (centre (absorb z p (started t (entry t i)) near) p (total_of z near i t)) ≡ f (entry t i) + more_of f z t near

pub num-carried : Carried num_of
num-carried = record { marks = λ e q. refl; hangs = λ e q. refl; sums = λ z p i near t o. refl }

-- the running sum of energies
energy-by : (z p : ℕ) (s : Absorbed) (k : ℕ) (ks : List ℕ)
    → ((s' : Absorbed) → (absorb z p s' ks).se ≡ s'.se + more_of energy_of z s'.table ks) → NotIn k ks → (b : Bool)
    → unseen z (entry s.table k) ≡ b
    → (absorb z p (absorb_one z p s k) ks).se ≡ s.se + more_of energy_of z s.table (k ∷ ks)
energy-by z p s k ks ih o true e =
    let t = s.table in
    let m = more_same energy_of z t k (under p (marked z (entry t k))) ks o in
    rw (absorb_one-yes z p s k e) (omega (arith, ih (joined_step z p s k), m, more_yes energy_of z t k ks e))
energy-by z p s k ks ih o false e = rw (absorb_one-no z p s k e) (omega (arith, ih s, more_no energy_of z s.table k ks e))

absorb-energy : (z p : ℕ) (s : Absorbed) (l : List ℕ) → Distinct l → (absorb z p s l).se ≡ s.se + more_of energy_of z s.table l
unfolding absorb
absorb-energy z p s [] o = omega (arith, more-nil energy_of z s.table)
absorb-energy z p s (k ∷ ks) o = energy-by z p s k ks (λ s'. absorb-energy z p s' ks o.1) o.0 _ refl

pub energy-carried : Carried energy_of
energy-carried = record {
  marks = λ e q. refl;
  hangs = λ e q. refl;
  sums =
      λ z p i near t o. absorb-energy z p (started t (entry t i)) near o;
}

-- ---- a scan

-- what is unseen and what is made
abbrev pub held_of : (Entry → ℕ) → ℕ → Scan → ℕ
held_of f z s = unseen_of f z s.table + sum_of f s.next

module _ (f : Entry → ℕ) (C : Carried f) where
  -- copies: what is no longer unseen is in the next table
  copy_one-weighs-by : (z : ℕ) (s : Scan) (k : ℕ) (b : Bool) → unseen z (entry s.table k) ≡ b
      → held_of f z (copy_one z s k) ≡ held_of f z s
  copy_one-weighs-by z s k true e =
      let u : z < (entry s.table k).seen = ltb-true z (entry s.table k).seen e in
      let m = marked z (entry s.table k) in
      let h = unseen_of-mark f z s.table k m (unseen-in z s.table k u) u (le_refl z) in
      rw (copy_one-yes z s k e) (omega (arith, h, sum-snoc f s.next m, C.marks (entry s.table k) z))
  copy_one-weighs-by z s k false e = rw (copy_one-no z s k e)

  copy_all-weighs : (z : ℕ) (s : Scan) (l : List ℕ) → held_of f z (copy_all z s l) ≡ held_of f z s
  unfolding copy_all
  copy_all-weighs z s [] = refl
  copy_all-weighs z s (k ∷ ks) = copy_all-weighs z (copy_one z s k) ks ∙ copy_one-weighs-by z s k _ refl

  -- the entry i was marked before: its number is in neither
  visit-weighs-by : (n least z : ℕ) (near : List ℕ) (i : ℕ) (s : Scan) → Distinct near → (b : Bool)
      → enough (entry s.table i).num (total_of z near i s.table) least ≡ b
      → held_of f z (visit n least z near i s) ≡ f (entry s.table i) + held_of f z s
  visit-weighs-by n least z near i s o true e =
      let p = cluster_id n z i in
      let t = s.table in
      let st = started t (entry t i) in
      let g = absorb z p st near in
      rw (visit-made n least z near i s e)
      (omega (
        arith,
        absorb-weighs f z p st near o,
        unseen_of-under f C.hangs z g.table i p,
        sum-snoc f s.next (centre g p (total_of z near i t)),
        C.sums z p i near t o,
      ))
  visit-weighs-by n least z near i s o false e =
      let own = entry s.table i in
      let h = copy_all-weighs z (record { table = s.table; next = s.next ++ (own ∷ []) }) near in
      rw (visit-left n least z near i s e) (omega (arith, h, sum-snoc f s.next own))

  module _ (n least z : ℕ) (near : Float → Float → List ℕ) (o : (qx qy : Float) → Distinct (near qx qy)) where
    pub scan-weighs-by : (s : Scan) (i : ℕ) (b : Bool) → unseen z (entry s.table i) ≡ b
        → held_of f z (scan_one n least z near s i) ≡ held_of f z s
    scan-weighs-by s i true e =
        let u : z < (entry s.table i).seen = ltb-true z (entry s.table i).seen e in
        let m = marked z (entry s.table i) in
        let hin = unseen-in z s.table i u in
        let g : entry (set s.table i m) i ≡ m = get_or-set_same s.table i m none hin in
        let v = visit-weighs-by n least z (near (entry s.table i).x (entry s.table i).y) i (mark_at z i s) (o _ _) _ refl in
        rw (scan-visit n least z near s i u)
        (omega (arith, v, ap f g, C.marks (entry s.table i) z, unseen_of-mark f z s.table i m hin u (le_refl z)))
    scan-weighs-by s i false e = rw (scan-seen n least z near s i (ltb-false z (entry s.table i).seen e))

    pub from-weighs : (s : Scan) (i k : ℕ) → held_of f z (scan_from n least z near s i k) ≡ held_of f z s
    unfolding scan_from
    from-weighs s i zero = refl
    from-weighs s i (suc k) = from-weighs (scan_one n least z near s i) (suc i) k ∙ scan-weighs-by s i _ refl

    -- the next table adds up to no more than the table
    pub next-total : (t : Table) → sum_of f (cluster n least z near t).next ≤ sum_of f t
    unfolding cluster sum_of
    next-total t = omega (arith, from-weighs (record { table = t; next = [] }) 0 (length t), unseen_of-sum f z t)
