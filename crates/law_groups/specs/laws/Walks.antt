-- Each walk of the zoom over the answers, by the list of those that are unseen: the total, what is absorbed, what is copied. Assumes
-- nothing.
use Rattle.std.specs.Prelude.{◌≡◌, refl, List, [], ◌∷◌, ◌++◌, map, Bool, true, false, cond, ℕ, ◌+◌, ◌≤◌, ◌<◌, ltb, eqb, set, Float}
use Rattle.std.proofs.Common.{sym, ap, ap₂, ◌∙◌, append-nil, arith, get_or-set_other}
use Rattle.std.proofs.Math.Seq.{append_snoc}
use Rattle.std.specs.Float.{binary64}
use Rattle.std.specs.Float.Ieee.{add, mul}
use Rattle.floats.specs.Numbers.{float}
use Rattle.kdslots.specs.Keep.{put, keep}
use Rattle.build_tables.specs.declared.Entry.{Entry}
use Rattle.build_tables.specs.Entries.{Table, entry, none, marked}
use Rattle.build_one_zoom.specs.laws.Steps.{joined_step, copied_one}
use Rattle.build_one_zoom.specs.Zoom.{more_of, Absorbed, absorb_one, absorb, Scan, copy_one, copy_all}
use Rattle.law_groups.specs.Sums.{one_if, sum, count}
use Rattle.law_groups.specs.laws.Sums.{eqb_same, count_head, keep-ext, keep-in}
use Rattle.law_groups.specs.Groups.{unseen_at, took, change, sweep, weighed_sum}

-- ---- lists of places that stand once

-- the rest of the list, after its head is set
rest-same : (d : Table) (k : ℕ) (v : Entry) (ks : List ℕ) → count k ks ≡ 0 → (j : ℕ) → 0 < count j ks → entry (set d k v) j ≡ entry d j
rest-same d k v ks h j l = get_or-set_other d k j v none (λ e. let a : count j ks ≡ count k ks = ap (λ (i : ℕ). count i ks) e in omega arith)

rest-kept : (z : ℕ) (d : Table) (k : ℕ) (v : Entry) (ks : List ℕ) → count k ks ≡ 0
    → keep (unseen_at z (set d k v)) ks ≡ keep (unseen_at z d) ks
rest-kept z d k v ks h = keep-ext (unseen_at z (set d k v)) (unseen_at z d) ks
    (λ j l. ap (λ (e : Entry). ltb z e.seen) (rest-same d k v ks h j l))

alone : (k : ℕ) (ks : List ℕ) → ((j : ℕ) → count j (k ∷ ks) ≤ 1) → count k ks ≡ 0
alone k ks h = let a = h k in let b : one_if (eqb k k) ≡ 1 = ap one_if (eqb_same k) in omega arith

pub map-ext : {A : Type 0} (f g : ℕ → A) (ks : List ℕ) → ((k : ℕ) → 0 < count k ks → f k ≡ g k) → map f ks ≡ map g ks
map-ext f g [] h = refl
map-ext {A} f g (k ∷ ks) h = ap₂ (λ (a : A) (l : List A). a ∷ l) (h k (count_head k ks)) (map-ext f g ks (λ j l. h j (omega arith)))

-- ---- what the unseen carry

pub more-is : (f : Entry → ℕ) (z : ℕ) (d : Table) (ks : List ℕ) → more_of f z d ks ≡ sum (λ k. f (entry d k)) (keep (unseen_at z d) ks)
unfolding more_of
more-is f z d [] = refl
more-is f z d (k ∷ ks) = go (unseen_at z d k) (more-is f z d ks)
  where
    go : (b : Bool) → more_of f z d ks ≡ sum (λ k. f (entry d k)) (keep (unseen_at z d) ks)
        → cond b (f (entry d k)) 0 + more_of f z d ks ≡ sum (λ k. f (entry d k)) (put b k (keep (unseen_at z d) ks))
    go true h = omega arith
    go false h = omega arith

-- ---- what is absorbed

-- one neighbour, where b says whether it is unseen
abbrev absorb_by : Bool → ℕ → ℕ → Absorbed → ℕ → Absorbed
absorb_by b z p s k = cond b (joined_step z p s k) s

pub absorb-table : (z p : ℕ) (s : Absorbed) (ks : List ℕ) → (absorb z p s ks).table ≡ sweep z (took z p) ks s.table
unfolding absorb absorb_one
absorb-table z p s [] = refl
absorb-table z p s (k ∷ ks) = go (λ u. absorb-table z p u ks) (unseen_at z s.table k)
  where
    go : ((u : Absorbed) → (absorb z p u ks).table ≡ sweep z (took z p) ks u.table) → (b : Bool) →
        (absorb z p (absorb_by b z p s k) ks).table ≡ sweep z (took z p) ks (change b (took z p) s.table k)
    go ih true = ih (absorb_by true z p s k)
    go ih false = ih s

-- the sums look at coordinates and nums only
pub weighed-ext : (c : Entry → Float) (d e : Table) (ks : List ℕ) (w : Float)
    → ((k : ℕ) → 0 < count k ks → (c (entry d k) ≡ c (entry e k)) × ((entry d k).num ≡ (entry e k).num)) →
    weighed_sum c d w ks ≡ weighed_sum c e w ks
unfolding weighed_sum
weighed-ext c d e [] w h = refl
weighed-ext c d e (k ∷ ks) w h =
    let a = h k (count_head k ks) in
    weighed-ext c d e ks (add binary64 w (mul binary64 (c (entry d k)) (float (entry d k).num))) (λ j l. h j (omega arith))
    ∙ ap₂ (λ (u : Float) (n : ℕ). weighed_sum c e (add binary64 w (mul binary64 u (float n))) ks) a.0 a.1

-- the running sums are those over the unseen
abbrev SumsAre : Table → ℕ → List ℕ → Absorbed → Absorbed → Type 0
SumsAre d z ks s r = (r.sx ≡ weighed_sum (λ e. e.x) d s.sx (keep (unseen_at z d) ks))
    × (r.sy ≡ weighed_sum (λ e. e.y) d s.sy (keep (unseen_at z d) ks))

pub absorb-sums : (z p : ℕ) (s : Absorbed) (ks : List ℕ) → ((j : ℕ) → count j ks ≤ 1) → SumsAre s.table z ks s (absorb z p s ks)
unfolding absorb absorb_one weighed_sum
absorb-sums z p s [] h = (refl, refl)
absorb-sums z p s (k ∷ ks) h = go (λ u. absorb-sums z p u ks (λ j. let a = h j in omega arith)) (unseen_at z s.table k)
  where
    moved : (c : Entry → Float) (w : Float) →
        weighed_sum c (set s.table k (took z p (entry s.table k))) w
        (keep (unseen_at z (set s.table k (took z p (entry s.table k)))) ks) ≡ weighed_sum c s.table w
        (keep (unseen_at z s.table) ks)
    moved c w =
        let t : Table = s.table in
        let u : Table = set t k (took z p (entry t k)) in
        ap (λ (l : List ℕ). weighed_sum c u w l) (rest-kept z t k (took z p (entry t k)) ks (alone k ks h))
        ∙ weighed-ext c u t (keep (unseen_at z t) ks) w
        (λ j l. let a = rest-same t k (took z p (entry t k)) ks (alone k ks h) j (keep-in (unseen_at z t) ks j l) in
        (ap c a, ap (λ (e : Entry). e.num) a))

    go : ((u : Absorbed) → SumsAre u.table z ks u (absorb z p u ks)) → (b : Bool) →
        ((absorb z p (absorb_by b z p s k) ks).sx ≡ weighed_sum (λ e. e.x) s.table s.sx (put b k (keep (unseen_at z s.table) ks)))
        × ((absorb z p (absorb_by b z p s k) ks).sy ≡ weighed_sum (λ e. e.y) s.table s.sy (put b k (keep (unseen_at z s.table) ks)))
    go ih true =
        let r = absorb_by true z p s k in
        let a = ih r in
        (a.0 ∙ moved (λ e. e.x) r.sx, a.1 ∙ moved (λ e. e.y) r.sy)
    go ih false = ih s

-- ---- what is copied

-- one neighbour, where b says whether it is unseen
abbrev copy_by : Bool → ℕ → Scan → ℕ → Scan
copy_by b z s k = cond b (copied_one z s k) s

-- the unseen in order, marked in the table, and their copies at the end of the next one
abbrev pub copies_of : ℕ → Scan → List ℕ → Scan
copies_of z s ks = record {
  table = sweep z (marked z) ks s.table;
  next =
      s.next ++ map (λ k. marked z (entry s.table k)) (keep (unseen_at z s.table) ks);
}

pub copy_is : (z : ℕ) (s : Scan) (ks : List ℕ) → ((j : ℕ) → count j ks ≤ 1) → copy_all z s ks ≡ copies_of z s ks
unfolding copy_all copy_one
copy_is z s [] h = λ i. record { table = s.table; next = sym (append-nil s.next) i }
copy_is z s (k ∷ ks) h = go (λ u. copy_is z u ks (λ j. let a = h j in omega arith)) (unseen_at z s.table k)
  where
    rest : map (λ j. marked z (entry (set s.table k (marked z (entry s.table k))) j))
        (keep (unseen_at z (set s.table k (marked z (entry s.table k)))) ks)
        ≡ map (λ j. marked z (entry s.table j)) (keep (unseen_at z s.table) ks)
    rest =
        let t : Table = s.table in
        let u : Table = set t k (marked z (entry t k)) in
        ap (λ (l : List ℕ). map (λ j. marked z (entry u j)) l) (rest-kept z t k (marked z (entry t k)) ks (alone k ks h))
        ∙ map-ext (λ j. marked z (entry u j)) (λ j. marked z (entry t j)) (keep (unseen_at z t) ks)
        (λ j l. ap (λ (e : Entry). marked z e) (rest-same t k (marked z (entry t k)) ks (alone k ks h) j (keep-in (unseen_at z t) ks j l)))

    go : ((u : Scan) → copy_all z u ks ≡ copies_of z u ks) → (b : Bool) →
        copy_all z (copy_by b z s k) ks ≡ record {
          table = sweep z (marked z) ks (change b (marked z) s.table k);
          next =
              s.next ++ map (λ k. marked z (entry s.table k)) (put b k (keep (unseen_at z s.table) ks));
        }
    go ih true =
        ih (copy_by true z s k)
        ∙ ap (λ (l : Table). record { table = sweep z (marked z) ks (set s.table k (marked z (entry s.table k))); next = l })
        (ap (λ (l : Table). s.next ++ (marked z (entry s.table k) ∷ []) ++ l) rest
        ∙ append_snoc s.next (marked z (entry s.table k))
        (map (λ j. marked z (entry s.table j)) (keep (unseen_at z s.table) ks)))
    go ih false = ih s
