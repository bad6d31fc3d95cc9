-- The scans and passes of a partition: the scans stop within the interval, and the passes leave what is not above the pivot left and what
-- is not below it right. Assumes nothing.
use Rattle.std.specs.Prelude.{◌≡◌, refl, ◌⊎◌, Bool, true, false, List, ℕ, zero, suc, ◌+◌, ◌-◌, ◌*◌, ◌<◌, ◌≤◌, ltb, length, Float}
use Rattle.std.proofs.Common.{sym, ap, ◌∙◌, ⊎_elim, inl, inr, le_refl, eq-or-lt_of_le, arith, ltb-true, ltb-false}
use Rattle.std.specs.Float.Ieee.{lt}
use Rattle.floats.specs.laws.NotAbove.{below-not-above}
use Rattle.kdsort.specs.Cols.{IndexCols, swap_item, swap_co, swap_ids, key}
use Rattle.kdsort.specs.Select.{Cut, up, down, scan_up, scan_down, passes}
use Rattle.kdsort.specs.Tree.{Permuted}
use Rattle.kdsort.specs.laws.Swaps.{tr, tr-left, tr-right, tr-other, key-swap, length-swap_ids, length-swap_co}
use Rattle.kdsort.specs.laws.Perms.{le-or-lt, perm_same, perm-swap, perm-trans}
use Rattle.kdsort.specs.laws.Scans.{Up, Down, before-stop, after_stop}

-- ---- the scans

-- the scan up from i, which q stops at the latest, ends at e
pub record UpAt (a : ℕ) (t : Float) (c : List Float) (i q e : ℕ) : Type 0 where
  pub scan : Up a t c i e
  pub to : e ≤ q
  pub stop : lt (key a c e) t ≡ false

pub record DownAt (a : ℕ) (t : Float) (c : List Float) (j q e : ℕ) : Type 0 where
  pub scan : Down a t c j e
  pub to : q ≤ e
  pub stop : lt t (key a c e) ≡ false

pub up-finds : (f : ℕ) (b : Bool) (a : ℕ) (t : Float) (c : List Float) (i q : ℕ) → lt (key a c i) t ≡ b → i ≤ q → q - i ≤ f
    → lt (key a c q) t ≡ false → UpAt a t c i q (up f b a t c i)
unfolding up
up-finds zero b a t c i q e le fu at =
    let s : q ≡ i = omega arith in
    record {
      scan = record { from = le_refl i; past = λ p h k. absurd (omega arith) };
      to = le;
      stop =
          ap (λ (x : ℕ). lt (key a c x) t) (sym s) ∙ at;
    }
up-finds (suc f) false a t c i q e le fu at =
    record { scan = record { from = le_refl i; past = λ p h k. absurd (omega arith) }; to = le; stop = e }
up-finds (suc f) true a t c i q e le fu at =
    let l = before-stop a t c i q le e at in
    let w = up-finds f (lt (key a c (i + 1)) t) a t c (i + 1) q refl (omega arith) (omega arith) at in
    let v = w.scan.from in
    record {
      scan = record {
        from = omega arith;
        past = λ p h k. ⊎_elim (λ s. ap (λ (x : ℕ). lt (key a c x) t) (sym s) ∙ e)
            (λ s. w.scan.past p (omega arith) k) (eq-or-lt_of_le h);
      };
      to = w.to;
      stop = w.stop;
    }

pub down-finds : (f : ℕ) (b : Bool) (a : ℕ) (t : Float) (c : List Float) (j q : ℕ) → lt t (key a c j) ≡ b → q ≤ j → j - q ≤ f
    → lt t (key a c q) ≡ false → DownAt a t c j q (down f b a t c j)
unfolding down
down-finds zero b a t c j q e le fu at =
    let s : q ≡ j = omega arith in
    record {
      scan = record { from = le_refl j; past = λ p h k. absurd (omega arith) };
      to = le;
      stop =
          ap (λ (x : ℕ). lt t (key a c x)) (sym s) ∙ at;
    }
down-finds (suc f) false a t c j q e le fu at =
    record { scan = record { from = le_refl j; past = λ p h k. absurd (omega arith) }; to = le; stop = e }
down-finds (suc f) true a t c j q e le fu at =
    let l = after_stop a t c j q le e at in
    let w = down-finds f (lt t (key a c (j - 1))) a t c (j - 1) q refl (omega arith) (omega arith) at in
    let v = w.scan.from in
    record {
      scan = record {
        from = omega arith;
        past = λ p h k. ⊎_elim (λ s. ap (λ (x : ℕ). lt t (key a c x)) s ∙ e)
            (λ s. w.scan.past p h (omega arith)) (eq-or-lt_of_le k);
      };
      to = w.to;
      stop = w.stop;
    }

-- ---- the passes

-- at the head of a pass: what stands left of i is not above the pivot t, what stands right of j not below it, and t stands at one end
pub record Split (a : ℕ) (t : Float) (l r : ℕ) (c : List Float) (i j : ℕ) : Type 0 where
  pub i-from : l ≤ i
  pub i-to : i ≤ r
  pub j-from : l ≤ j
  pub j-to : j ≤ r
  pub i-stop : lt (key a c i) t ≡ false
  pub j-stop : lt t (key a c j) ≡ false
  pub low : (p : ℕ) → l ≤ p → p < i → lt t (key a c p) ≡ false
  pub high : (p : ℕ) → j < p → p ≤ r → lt (key a c p) t ≡ false
  pub ends : (key a c l ≡ t) ⊎ (key a c r ≡ t)
  pub stage : ((i ≡ l) × (j ≡ r)) ⊎ ((l < i) × (j < r))

pub record PartFits (l r a n m : ℕ) : Type 0 where
  pub lr : l < r
  pub rn : r < n
  pub nm : 2 * r + 1 < m
  pub a2 : a < 2

module _ (a : ℕ) (t : Float) (l r : ℕ) (c : List Float) (i j i' j' n : ℕ) (F : PartFits l r a n (length c)) (S : Split a t l r c i j)
    (ij : i < j)
    (U : UpAt a t (swap_co c i j) (i + 1) j i') (D : DownAt a t (swap_co c i j) (j - 1) i j') where
  at : (p : ℕ) → key a (swap_co c i j) p ≡ key a c (tr i j p)
  at p = let x = S.i-from in let y = S.j-to in key-swap c i j p (omega arith) (omega arith) a F.a2

  at_i : key a (swap_co c i j) i ≡ key a c j
  at_i = at i ∙ ap (key a c) (tr-left i j)

  at_j : key a (swap_co c i j) j ≡ key a c i
  at_j = at j ∙ ap (key a c) (tr-right i j)

  at_other : (p : ℕ) → (p ≡ i → ⊥) → (p ≡ j → ⊥) → key a (swap_co c i j) p ≡ key a c p
  at_other p x y = at p ∙ ap (key a c) (tr-other i j p x y)

  low' : (p : ℕ) → l ≤ p → p < i' → lt t (key a (swap_co c i j) p) ≡ false
  low' p h k =
      ⊎_elim
      (λ u. ⊎_elim
      (λ e. ap (λ (x : ℕ). lt t (key a (swap_co c i j) x)) e ∙ ap (lt t) at_i ∙ S.j-stop)
      (λ v. ap (lt t) (at_other p (λ e. omega arith) (λ e. omega arith)) ∙ S.low p h v)
      (eq-or-lt_of_le u))
      (λ u. below-not-above (key a (swap_co c i j) p) t (U.scan.past p (omega arith) k))
      (le-or-lt p i)

  high' : (p : ℕ) → j' < p → p ≤ r → lt (key a (swap_co c i j) p) t ≡ false
  high' p h k =
      ⊎_elim
      (λ u. ⊎_elim
      (λ e. ap (λ (x : ℕ). lt (key a (swap_co c i j) x) t) (sym e) ∙ ap (λ (x : Float). lt x t) at_j ∙ S.i-stop)
      (λ v. ap (λ (x : Float). lt x t) (at_other p (λ e. omega arith) (λ e. omega arith)) ∙ S.high p v k)
      (eq-or-lt_of_le u))
      (λ u. below-not-above t (key a (swap_co c i j) p) (D.scan.past p h (omega arith)))
      (le-or-lt j p)

  ends' : (key a (swap_co c i j) l ≡ t) ⊎ (key a (swap_co c i j) r ≡ t)
  ends' =
      ⊎_elim
      (λ w. ⊎_elim
      (λ e. inr (ap (key a (swap_co c i j)) (sym w.1) ∙ at_j ∙ ap (key a c) w.0 ∙ e))
      (λ e. inl (ap (key a (swap_co c i j)) (sym w.0) ∙ at_i ∙ ap (key a c) w.1 ∙ e))
      S.ends)
      (λ w.
      let x = w.0 in
      let y = w.1 in
      ⊎_elim
      (λ e. inl (at_other l (λ q. omega arith) (λ q. omega arith) ∙ e))
      (λ e. inr (at_other r (λ q. omega arith) (λ q. omega arith) ∙ e))
      S.ends)
      S.stage

  pub split-turn : Split a t l r (swap_co c i j) i' j'
  split-turn =
      let x = S.i-from in
      let y = S.j-to in
      let u = U.scan.from in
      let d = D.scan.from in
      let u' = U.to in
      let d' = D.to in
      record {
        i-from = omega arith;
        i-to = omega arith;
        j-from = omega arith;
        j-to = omega arith;
        i-stop = U.stop;
        j-stop = D.stop;
        low = low';
        high = high';
        ends = ends';
        stage = inr (omega arith, omega arith);
      }

-- how the passes end
pub record Passed (a : ℕ) (t : Float) (l r : ℕ) (s : IndexCols) (P : Cut) : Type 0 where
  pub i-end : ℕ
  pub met : P.slot ≤ i-end
  pub split : Split a t l r P.at.co i-end P.slot
  pub perm : Permuted l r s P.at

pub swap-up : (a : ℕ) (t : Float) (l r : ℕ) (s : IndexCols) (i j : ℕ) → PartFits l r a (length s.ids) (length s.co)
    → Split a t l r s.co i j → i < j → UpAt a t (swap_co s.co i j) (i + 1) j (scan_up j a t (swap_co s.co i j) (i + 1))
swap-up a t l r s i j F S ij =
    let x = S.i-from in
    let y = S.j-to in
    up-finds j (lt (key a (swap_co s.co i j) (i + 1)) t) a t (swap_co s.co i j) (i + 1) j refl (omega arith) (omega arith)
    (ap (λ (x : Float). lt x t) (key-swap s.co i j j (omega arith) (omega arith) a F.a2 ∙ ap (key a s.co) (tr-right i j))
    ∙ S.i-stop)

pub swap-down : (a : ℕ) (t : Float) (l r : ℕ) (s : IndexCols) (i j : ℕ) → PartFits l r a (length s.ids) (length s.co)
    → Split a t l r s.co i j → i < j → DownAt a t (swap_co s.co i j) (j - 1) i (scan_down j a t (swap_co s.co i j) (j - 1))
swap-down a t l r s i j F S ij =
    let x = S.i-from in
    let y = S.j-to in
    down-finds j (lt t (key a (swap_co s.co i j) (j - 1))) a t (swap_co s.co i j) (j - 1) i refl (omega arith) (omega arith)
    (ap (lt t) (key-swap s.co i j i (omega arith) (omega arith) a F.a2 ∙ ap (key a s.co) (tr-left i j)) ∙ S.j-stop)

pub fits-swap : (l r a : ℕ) (s : IndexCols) (i j : ℕ) → PartFits l r a (length s.ids) (length s.co)
    → PartFits l r a (length (swap_ids s.ids i j)) (length (swap_co s.co i j))
fits-swap l r a s i j F = rw (length-swap_ids s.ids i j, length-swap_co s.co i j) F

pub passes-end : (f : ℕ) (b : Bool) (a : ℕ) (t : Float) (l r : ℕ) (s : IndexCols) (i j : ℕ) → ltb i j ≡ b → j - i ≤ f
    → PartFits l r a (length s.ids) (length s.co) → Split a t l r s.co i j → Passed a t l r s (passes f b a t s i j)
unfolding passes
passes-end zero b a t l r s i j e fu F S = record { i-end = i; met = omega arith; split = S; perm = perm_same l r s }
passes-end (suc f) false a t l r s i j e fu F S = record { i-end = i; met = ltb-false i j e; split = S; perm = perm_same l r s }
passes-end (suc f) true a t l r s i j e fu F S = passes-more f a t l r s i j (ltb-true i j e) fu F S
    (passes-end f (ltb (scan_up j a t (swap_co s.co i j) (i + 1)) (scan_down j a t (swap_co s.co i j) (j - 1))) a t l r (swap_item s i j)
    (scan_up j a t (swap_co s.co i j) (i + 1)) (scan_down j a t (swap_co s.co i j) (j - 1)) refl
    (let ij = ltb-true i j e in let u = (swap-up a t l r s i j F S ij).scan.from in let d = (swap-down a t l r s i j F S ij).scan.from in
    omega arith)
    (fits-swap l r a s i j F)
    (split-turn a t l r s.co i j _ _ (length s.ids) F S (ltb-true i j e) (swap-up a t l r s i j F S (ltb-true i j e))
    (swap-down a t l r s i j F S (ltb-true i j e)))) where
      passes-more : (f : ℕ) (a : ℕ) (t : Float) (l r : ℕ) (s : IndexCols) (i j : ℕ) → i < j → j - i ≤ suc f
          → PartFits l r a (length s.ids) (length s.co) → Split a t l r s.co i j
          → {P : Cut} → Passed a t l r (swap_item s i j) P → Passed a t l r s P
      passes-more f a t l r s i j ij fu F S Q =
          let x = S.i-from in
          let y = S.j-to in
          record {
            i-end = Q.i-end;
            met = Q.met;
            split = Q.split;
            perm =
                perm-trans l r s (swap_item s i j) _ (perm-swap l r s i j S.i-from S.i-to S.j-from S.j-to F.rn F.nm)
                Q.perm;
          }
