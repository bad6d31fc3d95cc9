-- A partition: after its passes what is not above the pivot stands left and what is not below it right, the slots are permuted, and the
-- fuel of its steps is never used up. Assumes nothing.
use Rattle.std.specs.Prelude.{◌≡◌, refl, ◌⊎◌, Bool, true, false, cond, not, List, ℕ, zero, suc, ◌+◌, ◌-◌, ◌*◌, ◌<◌, ◌≤◌, T, ltb, length, Float}
use Rattle.std.proofs.Common.{sym, ap, ◌∙◌, ⊎_elim, inl, inr, true≢false, le_refl, eq-or-lt_of_le, arith, ltb-true}
use Rattle.std.specs.Float.Ieee.{lt, eq, is_nan}
use Rattle.floats.specs.laws.NotAbove.{self-not-above, equal-not-above, number-equals-itself}
use Rattle.kdsort.specs.Cols.{IndexCols, swap_item, swap_co, key}
use Rattle.kdsort.specs.Room.{Here}
use Rattle.kdsort.specs.Select.{Cut, cut, scan_up, scan_down, passes, placed, settled, parted}
use Rattle.kdsort.specs.Tree.{Permuted}
use Rattle.kdsort.specs.laws.Swaps.{tr-left, tr-right, tr-other, key-swap, length-swap_ids, length-swap_co}
use Rattle.kdsort.specs.laws.Perms.{perm-swap, perm-trans}
use Rattle.kdsort.specs.laws.Scans.{up-stops, down-stops, placed-stops}
use Rattle.kdsort.specs.laws.Splits.{up-finds, down-finds, Split, PartFits, split-turn, Passed, swap-up, swap-down, fits-swap}
use Rattle.kdsort.specs.laws.Splits.{passes-end}

-- ---- before the passes

placed-ends : (a : ℕ) (s : IndexCols) (k l r : ℕ) → Here k l r a (length s.ids) (length s.co)
    → (key a (placed a (key a s.co k) s k l r).co l ≡ key a s.co k)
    ⊎ (key a (placed a (key a s.co k) s k l r).co r ≡ key a s.co k)
placed-ends a s k l r h = go (lt (key a s.co k) (key a (swap_item s l k).co r)) where
  ll : 2 * l + 1 < length s.co
  ll = omega arith

  lk : 2 * k + 1 < length s.co
  lk = omega arith

  ll' : 2 * l + 1 < length (swap_co s.co l k)
  ll' = rw length-swap_co ll

  lr' : 2 * r + 1 < length (swap_co s.co l k)
  lr' = rw length-swap_co (omega arith)

  first : key a (swap_co s.co l k) l ≡ key a s.co k
  first = key-swap s.co l k l ll lk a h.a2 ∙ ap (key a s.co) (tr-left l k)

  go : (b : Bool) → (key a (cond b (swap_item (swap_item s l k) l r) (swap_item s l k)).co l ≡ key a s.co k)
      ⊎ (key a (cond b (swap_item (swap_item s l k) l r) (swap_item s l k)).co r ≡ key a s.co k)
  go true = inr (key-swap (swap_co s.co l k) l r r ll' lr' a h.a2 ∙ ap (key a (swap_co s.co l k)) (tr-right l r) ∙ first)
  go false = inl first

placed-perm : (a : ℕ) (t : Float) (s : IndexCols) (k l r : ℕ) → Here k l r a (length s.ids) (length s.co)
    → Permuted l r s (placed a t s k l r)
placed-perm a t s k l r h = go (lt t (key a (swap_item s l k).co r)) where
  one : Permuted l r s (swap_item s l k)
  one = perm-swap l r s l k (le_refl l) (omega arith) (omega arith) (omega arith) h.rn h.nm

  go : (b : Bool) → Permuted l r s (cond b (swap_item (swap_item s l k) l r) (swap_item s l k))
  go true = perm-trans l r s (swap_item s l k) (swap_item (swap_item s l k) l r) one
      (perm-swap l r (swap_item s l k) l r (le_refl l) (omega arith) (omega arith) (le_refl r) (rw length-swap_ids h.rn)
      (rw length-swap_co h.nm))
  go false = one

placed-split : (a : ℕ) (s : IndexCols) (k l r : ℕ) → Here k l r a (length s.ids) (length s.co)
    → Split a (key a s.co k) l r (placed a (key a s.co k) s k l r).co l r
placed-split a s k l r h =
    let w = placed-stops a s k l r h in
    record {
      i-from = le_refl l;
      i-to = omega arith;
      j-from = omega arith;
      j-to = le_refl r;
      i-stop = w.0;
      j-stop = w.1;
      low = λ p u v. absurd (omega arith);
      high = λ p u v. absurd (omega arith);
      ends = placed-ends a s k l r h;
      stage = inl (refl, refl);
    }

-- ---- after the passes

-- the slot j stands between what is not above t and what is not below it
pub record Parted (a : ℕ) (t : Float) (l r : ℕ) (c : List Float) (j : ℕ) : Type 0 where
  pub j-from : l ≤ j
  pub j-to : j ≤ r
  pub low : (p : ℕ) → l ≤ p → p < j → lt t (key a c p) ≡ false
  pub high : (p : ℕ) → j < p → p ≤ r → lt (key a c p) t ≡ false
  pub at_low : lt t (key a c j) ≡ false
  pub at_high : lt (key a c j) t ≡ false

last-stage : (a : ℕ) (t : Float) (l r : ℕ) (c : List Float) (i j : ℕ) → l < r → Split a t l r c i j → j ≤ i → (l < i) × (j < r)
last-stage a t l r c i j lr S m = ⊎_elim (λ w. let x = w.0 in let y = w.1 in absurd (omega arith)) (λ w. w) S.stage

settled-then : (a : ℕ) (t : Float) (l r : ℕ) (c : List Float) (i j n : ℕ) → PartFits l r a n (length c) → Split a t l r c i j → j ≤ i
    → eq (key a c l) t ≡ true → Parted a t l r (swap_co c l j) j
settled-then a t l r c i j n F S m e =
    let st = last-stage a t l r c i j F.lr S m in
    let j1 = S.j-from in
    let j2 = S.j-to in
    let li : 2 * l + 1 < length c = omega arith in
    let lj : 2 * j + 1 < length c = omega arith in
    let at-l : key a (swap_co c l j) l ≡ key a c j = key-swap c l j l li lj a F.a2 ∙ ap (key a c) (tr-left l j) in
    let at_j : key a (swap_co c l j) j ≡ key a c l = key-swap c l j j li lj a F.a2 ∙ ap (key a c) (tr-right l j) in
    record {
      j-from = S.j-from;
      j-to = S.j-to;
      low = λ p h k. ⊎_elim
          (λ q. ap (λ (x : ℕ). lt t (key a (swap_co c l j) x)) (sym q) ∙ ap (lt t) at-l ∙ S.j-stop)
          (λ q. ap (lt t) (key-swap c l j p li lj a F.a2 ∙ ap (key a c) (tr-other l j p (λ u. omega arith) (λ u. omega arith)))
          ∙ S.low p h (omega arith))
          (eq-or-lt_of_le h);
      high = λ p h k. ap (λ (x : Float). lt x t)
          (key-swap c l j p li lj a F.a2 ∙ ap (key a c) (tr-other l j p (λ u. omega arith) (λ u. omega arith))) ∙ S.high p h k;
      at_low = ap (lt t) at_j ∙ (equal-not-above (key a c l) t e).1;
      at_high = ap (λ (x : Float). lt x t) at_j ∙ (equal-not-above (key a c l) t e).0;
    }

settled-else : (a : ℕ) (t : Float) (l r : ℕ) (c : List Float) (i j n : ℕ) → PartFits l r a n (length c) → Split a t l r c i j → j ≤ i
    → T (not (is_nan t)) → eq (key a c l) t ≡ false → Parted a t l r (swap_co c (j + 1) r) (j + 1)
settled-else a t l r c i j n F S m num e =
    let st = last-stage a t l r c i j F.lr S m in
    let j1 = S.j-from in
    let jr : j < r = st.1 in
    let li : 2 * (j + 1) + 1 < length c = omega arith in
    let lj : 2 * r + 1 < length c = omega arith in
    let at-r : key a (swap_co c (j + 1) r) r ≡ key a c (j + 1) = key-swap c (j + 1) r r li lj a F.a2
    ∙ ap (key a c) (tr-right (j + 1) r) in
    let is-t : key a c r ≡ t = ⊎_elim (λ q. absurd (true≢false (sym (number-equals-itself t num) ∙ ap (λ (x : Float). eq x t) (sym q) ∙ e)))
    (λ q. q) S.ends in
    let at_j : key a (swap_co c (j + 1) r) (j + 1) ≡ t = key-swap c (j + 1) r (j + 1) li lj a F.a2 ∙ ap (key a c) (tr-left (j + 1) r)
    ∙ is-t in
    record {
      j-from = omega arith;
      j-to = omega arith;
      low = λ p h k. ap (lt t) (key-swap c (j + 1) r p li lj a F.a2
          ∙ ap (key a c) (tr-other (j + 1) r p (λ u. omega arith) (λ u. omega arith)))
          ∙ ⊎_elim (λ q. ap (λ (x : ℕ). lt t (key a c x)) q ∙ S.j-stop) (λ q. S.low p h (omega arith))
          (eq-or-lt_of_le (le-of-lt-one p j k));
      high = λ p h k. ⊎_elim
          (λ q. ap (λ (x : ℕ). lt (key a (swap_co c (j + 1) r) x) t) q ∙ ap (λ (x : Float). lt x t) at-r
          ∙ S.high (j + 1) (omega arith) (omega arith))
          (λ q. ap (λ (x : Float). lt x t)
          (key-swap c (j + 1) r p li lj a F.a2 ∙ ap (key a c) (tr-other (j + 1) r p (λ u. omega arith) (λ u. omega arith)))
          ∙ S.high p (omega arith) k)
          (eq-or-lt_of_le k);
      at_low = ap (lt t) at_j ∙ self-not-above t;
      at_high = ap (λ (x : Float). lt x t) at_j ∙ self-not-above t;
    } where
      le-of-lt-one : (p j : ℕ) → p < j + 1 → p ≤ j
      le-of-lt-one p j h = omega arith

pub record Cutting (a : ℕ) (t : Float) (l r : ℕ) (s : IndexCols) (P : Cut) : Type 0 where
  pub part : Parted a t l r P.at.co P.slot
  pub perm : Permuted l r s P.at

settled-ok : (a : ℕ) (t : Float) (l r : ℕ) (s : IndexCols) (P : Cut) → PartFits l r a (length P.at.ids) (length P.at.co)
    → T (not (is_nan t)) → Passed a t l r s P → Cutting a t l r s (settled a t P l r)
settled-ok a t l r s P F num W = go (eq (key a P.at.co l) t) refl where
  go : (b : Bool) → eq (key a P.at.co l) t ≡ b
      → Cutting a t l r s (cond b (cut (swap_item P.at l P.slot) P.slot) (cut (swap_item P.at (P.slot + 1) r) (P.slot + 1)))
  go true e = record {
    part = settled-then a t l r P.at.co W.i-end P.slot (length P.at.ids) F W.split W.met e;
    perm = let j1 = W.split.j-from in let j2 = W.split.j-to in perm-trans l r s P.at (swap_item P.at l P.slot) W.perm
        (perm-swap l r P.at l P.slot (le_refl l) (omega arith) (omega arith) (omega arith) F.rn F.nm);
  }
  go false e = record {
    part = settled-else a t l r P.at.co W.i-end P.slot (length P.at.ids) F W.split W.met num e;
    perm =
        let st = last-stage a t l r P.at.co W.i-end P.slot F.lr W.split W.met in
        let j1 = W.split.j-from in
        let jr : P.slot < r = st.1 in
        perm-trans l r s P.at (swap_item P.at (P.slot + 1) r) W.perm
        (perm-swap l r P.at (P.slot + 1) r (omega arith) (omega arith) (omega arith) (le_refl r) F.rn F.nm);
  }

pub parted-ok : (a k : ℕ) (s : IndexCols) (l r : ℕ) → Here k l r a (length s.ids) (length s.co) → T (not (is_nan (key a s.co k)))
    → Cutting a (key a s.co k) l r s (parted a k s l r)
unfolding parted
parted-ok a k s l r h num =
    settled-ok a (key a s.co k) l r s _ F' num W' where
      t : Float
      t = key a s.co k

      s1 : IndexCols
      s1 = placed a (key a s.co k) s k l r

      P : Permuted l r s s1
      P = placed-perm a t s k l r h

      F : PartFits l r a (length s1.ids) (length s1.co)
      F = rw (P.ids-long, P.co-long) (record { lr = h.lr; rn = h.rn; nm = h.nm; a2 = h.a2 })

      W : Passed a t l r s1 (passes (r - l) (ltb l r) a t s1 l r)
      W = passes-end (r - l) (ltb l r) a t l r s1 l r refl (le_refl (r - l)) F (placed-split a s k l r h)

      W' : Passed a t l r s (passes (r - l) (ltb l r) a t s1 l r)
      W' = record { i-end = W.i-end; met = W.met; split = W.split; perm = perm-trans l r s s1 _ P W.perm }

      F' : PartFits l r a (length (passes (r - l) (ltb l r) a t s1 l r).at.ids) (length (passes (r - l) (ltb l r) a t s1 l r).at.co)
      F' = rw (W.perm.ids-long, W.perm.co-long) F

-- ---- the fuel is never used up: with any that is enough a step comes to the same

pub up-enough : (f f' a : ℕ) (t : Float) (c : List Float) (i q : ℕ) → i ≤ q → q - i ≤ f → q - i ≤ f' → lt (key a c q) t ≡ false
    → scan_up f a t c i ≡ scan_up f' a t c i
up-enough f f' a t c i q le h h' at =
    let U = up-finds f' (lt (key a c i) t) a t c i q refl le h' at in
    let to = U.to in
    up-stops f a t c i (scan_up f' a t c i) U.scan (omega arith) U.stop

pub down-enough : (f f' a : ℕ) (t : Float) (c : List Float) (j q : ℕ) → q ≤ j → j - q ≤ f → j - q ≤ f' → lt t (key a c q) ≡ false
    → scan_down f a t c j ≡ scan_down f' a t c j
down-enough f f' a t c j q le h h' at =
    let D = down-finds f' (lt t (key a c j)) a t c j q refl le h' at in
    let to = D.to in
    down-stops f a t c j (scan_down f' a t c j) D.scan (omega arith) D.stop

passes_same : (f f' : ℕ) (b : Bool) (a : ℕ) (t : Float) (l r : ℕ) (s : IndexCols) (i j : ℕ) → ltb i j ≡ b → j - i ≤ f → j - i ≤ f'
    → PartFits l r a (length s.ids) (length s.co) → Split a t l r s.co i j
    → passes f b a t s i j ≡ passes f' b a t s i j
unfolding passes
passes_same zero zero b a t l r s i j e h h' F S = refl
passes_same zero (suc f') true a t l r s i j e h h' F S = let ij = ltb-true i j e in absurd (omega arith)
passes_same zero (suc f') false a t l r s i j e h h' F S = refl
passes_same (suc f) zero true a t l r s i j e h h' F S = let ij = ltb-true i j e in absurd (omega arith)
passes_same (suc f) zero false a t l r s i j e h h' F S = refl
passes_same (suc f) (suc f') false a t l r s i j e h h' F S = refl
passes_same (suc f) (suc f') true a t l r s i j e h h' F S =
    let ij = ltb-true i j e in
    let U = swap-up a t l r s i j F S ij in
    let D = swap-down a t l r s i j F S ij in
    let u = U.scan.from in
    let d = D.scan.from in
    passes_same f f' _ a t l r (swap_item s i j) (scan_up j a t (swap_co s.co i j) (i + 1)) (scan_down j a t (swap_co s.co i j) (j - 1))
    refl (omega arith) (omega arith) (fits-swap l r a s i j F)
    (split-turn a t l r s.co i j _ _ (length s.ids) F S ij U D)

pub passes-enough : (f a k : ℕ) (s : IndexCols) (l r : ℕ) → Here k l r a (length s.ids) (length s.co) → r - l ≤ f
    → passes f (ltb l r) a (key a s.co k) (placed a (key a s.co k) s k l r) l r ≡ passes (r - l) (ltb l r) a (key a s.co k)
    (placed a (key a s.co k) s k l r) l r
passes-enough f a k s l r h fu =
    let P = placed-perm a (key a s.co k) s k l r h in
    passes_same f (r - l) (ltb l r) a (key a s.co k) l r (placed a (key a s.co k) s k l r) l r refl fu (le_refl (r - l))
    (rw (P.ids-long, P.co-long) (record { lr = h.lr; rn = h.rn; nm = h.nm; a2 = h.a2 })) (placed-split a s k l r h)
