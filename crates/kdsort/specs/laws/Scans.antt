-- What a scan of the partition stops at, and how a partition begins: the pivot stands at one end, and each scan has a slot that stops it.
-- Assumes nothing.
use Rattle.std.specs.Prelude.{◌≡◌, refl, Bool, true, false, cond, List, ℕ, zero, suc, ◌+◌, ◌-◌, ◌*◌, ◌<◌, ◌≤◌, length, Float}
use Rattle.std.proofs.Common.{sym, ap, ◌∙◌, ⊎_elim, true≢false, le_refl, eq-or-lt_of_le, arith}
use Rattle.std.specs.Float.Ieee.{lt}
use Rattle.floats.specs.laws.NotAbove.{below-not-above, self-not-above}
use Rattle.kdsort.specs.Cols.{IndexCols, swap_item, swap_co, swap_ids, key}
use Rattle.kdsort.specs.Room.{Here}
use Rattle.kdsort.specs.Select.{up, down, scan_up, scan_down, placed}
use Rattle.kdsort.specs.laws.Swaps.{tr-left, tr-right, length-swap_ids, length-swap_co, key-swap}

-- ---- the scans

-- each of the slots from i up to r is below t, and r is not: the scan from i stops at r
up_is : (f : ℕ) (b : Bool) (a : ℕ) (t : Float) (c : List Float) (i r : ℕ) → lt (key a c i) t ≡ b → i ≤ r → r - i ≤ f
    → ((p : ℕ) → i ≤ p → p < r → lt (key a c p) t ≡ true) → lt (key a c r) t ≡ false → up f b a t c i ≡ r
unfolding up
up_is zero b a t c i r e le fu pre at = omega arith
up_is (suc f) false a t c i r e le fu pre at =
    ⊎_elim (λ q. q) (λ l. absurd (true≢false (sym (pre i (le_refl i) l) ∙ e))) (eq-or-lt_of_le le)
up_is (suc f) true a t c i r e le fu pre at =
    ⊎_elim (λ q. absurd (true≢false (sym e ∙ ap (λ (x : ℕ). lt (key a c x) t) q ∙ at)))
    (λ l. up_is f (lt (key a c (i + 1)) t) a t c (i + 1) r refl (omega arith) (omega arith) (λ p h k. pre p (omega arith) k) at)
    (eq-or-lt_of_le le)

down_is : (f : ℕ) (b : Bool) (a : ℕ) (t : Float) (c : List Float) (j r : ℕ) → lt t (key a c j) ≡ b → r ≤ j → j - r ≤ f
    → ((p : ℕ) → r < p → p ≤ j → lt t (key a c p) ≡ true) → lt t (key a c r) ≡ false → down f b a t c j ≡ r
unfolding down
down_is zero b a t c j r e le fu pre at = omega arith
down_is (suc f) false a t c j r e le fu pre at =
    ⊎_elim (λ q. sym q) (λ l. absurd (true≢false (sym (pre j l (le_refl j)) ∙ e))) (eq-or-lt_of_le le)
down_is (suc f) true a t c j r e le fu pre at =
    ⊎_elim (λ q. absurd (true≢false (sym e ∙ ap (λ (x : ℕ). lt t (key a c x)) (sym q) ∙ at)))
    (λ l. down_is f (lt t (key a c (j - 1))) a t c (j - 1) r refl (omega arith) (omega arith) (λ p h k. pre p h (omega arith)) at)
    (eq-or-lt_of_le le)

-- what a scan up from i that stops at r has found
pub record Up (a : ℕ) (t : Float) (c : List Float) (i r : ℕ) : Type 0 where
  pub from : i ≤ r
  pub past : (p : ℕ) → i ≤ p → p < r → lt (key a c p) t ≡ true

pub record Down (a : ℕ) (t : Float) (c : List Float) (j r : ℕ) : Type 0 where
  pub from : r ≤ j
  pub past : (p : ℕ) → r < p → p ≤ j → lt t (key a c p) ≡ true

pub up_none : (a : ℕ) (t : Float) (c : List Float) (i : ℕ) → Up a t c i i
up_none a t c i = record { from = le_refl i; past = λ p h k. absurd (omega arith) }

pub up_more : (a : ℕ) (t : Float) (c : List Float) (i r : ℕ) → Up a t c i r → lt (key a c r) t ≡ true → Up a t c i (r + 1)
up_more a t c i r u h =
    let w : i ≤ r = u.from in
    record {
      from = omega arith;
      past = λ p l k. ⊎_elim (λ q. ap (λ (x : ℕ). lt (key a c x) t) q ∙ h) (λ s. u.past p l s)
          (eq-or-lt_of_le (omega arith));
    }

pub down-none : (a : ℕ) (t : Float) (c : List Float) (j : ℕ) → Down a t c j j
down-none a t c j = record { from = le_refl j; past = λ p h k. absurd (omega arith) }

pub down-more : (a : ℕ) (t : Float) (c : List Float) (j r : ℕ) → 0 < r → Down a t c j r → lt t (key a c r) ≡ true → Down a t c j (r - 1)
down-more a t c j r z u h =
    let w : r ≤ j = u.from in
    record {
      from = omega arith;
      past = λ p l k. ⊎_elim (λ q. ap (λ (x : ℕ). lt t (key a c x)) (sym q) ∙ h) (λ s. u.past p s k)
          (eq-or-lt_of_le (omega arith));
    }

pub up-stops : (f a : ℕ) (t : Float) (c : List Float) (i r : ℕ) → Up a t c i r → r - i ≤ f → lt (key a c r) t ≡ false → scan_up f a t c i ≡ r
up-stops f a t c i r u fu at = up_is f (lt (key a c i) t) a t c i r refl u.from fu u.past at

pub down-stops : (f a : ℕ) (t : Float) (c : List Float) (j r : ℕ) → Down a t c j r → j - r ≤ f → lt t (key a c r) ≡ false
    → scan_down f a t c j ≡ r
down-stops f a t c j r u fu at = down_is f (lt t (key a c j)) a t c j r refl u.from fu u.past at

-- ---- before the passes

pub length-placed-ids : (a : ℕ) (t : Float) (s : IndexCols) (k l r : ℕ) → length (placed a t s k l r).ids ≡ length s.ids
length-placed-ids a t s k l r = go (lt t (key a (swap_item s l k).co r)) where
  go : (b : Bool) → length (cond b (swap_item (swap_item s l k) l r) (swap_item s l k)).ids ≡ length s.ids
  go true = length-swap_ids (swap_ids s.ids l k) l r ∙ length-swap_ids s.ids l k
  go false = length-swap_ids s.ids l k

pub length-placed-co : (a : ℕ) (t : Float) (s : IndexCols) (k l r : ℕ) → length (placed a t s k l r).co ≡ length s.co
length-placed-co a t s k l r = go (lt t (key a (swap_item s l k).co r)) where
  go : (b : Bool) → length (cond b (swap_item (swap_item s l k) l r) (swap_item s l k)).co ≡ length s.co
  go true = length-swap_co (swap_co s.co l k) l r ∙ length-swap_co s.co l k
  go false = length-swap_co s.co l k

pub placed-stops : (a : ℕ) (s : IndexCols) (k l r : ℕ) → Here k l r a (length s.ids) (length s.co)
    → (lt (key a (placed a (key a s.co k) s k l r).co l) (key a s.co k) ≡ false)
    × (lt (key a s.co k) (key a (placed a (key a s.co k) s k l r).co r) ≡ false)
placed-stops a s k l r h = go (lt t (key a (swap_item s l k).co r)) refl where
  t : Float
  t = key a s.co k

  ll : 2 * l + 1 < length s.co
  ll = omega arith

  lk : 2 * k + 1 < length s.co
  lk = omega arith

  ll' : 2 * l + 1 < length (swap_co s.co l k)
  ll' = rw length-swap_co ll

  lr' : 2 * r + 1 < length (swap_co s.co l k)
  lr' = rw length-swap_co (omega arith)

  first : key a (swap_co s.co l k) l ≡ t
  first = key-swap s.co l k l ll lk a h.a2 ∙ ap (key a s.co) (tr-left l k)

  go : (b : Bool) → lt t (key a (swap_item s l k).co r) ≡ b
      → (lt (key a (cond b (swap_item (swap_item s l k) l r) (swap_item s l k)).co l) t ≡ false)
      × (lt t (key a (cond b (swap_item (swap_item s l k) l r) (swap_item s l k)).co r) ≡ false)
  go true e = (
    ap (λ (x : Float). lt x t) (key-swap (swap_co s.co l k) l r l ll' lr' a h.a2 ∙ ap (key a (swap_co s.co l k)) (tr-left l r))
        ∙ below-not-above t (key a (swap_co s.co l k) r) e,
    ap (λ (x : Float). lt t x) (key-swap (swap_co s.co l k) l r r ll' lr' a h.a2 ∙ ap (key a (swap_co s.co l k)) (tr-right l r)
        ∙ first) ∙ self-not-above t,
  )
  go false e = (ap (λ (x : Float). lt x t) first ∙ self-not-above t, e)

-- a slot that is not below t stands at or past each slot that the scan has reached
pub before-stop : (a : ℕ) (t : Float) (c : List Float) (i q : ℕ) → i ≤ q → lt (key a c i) t ≡ true → lt (key a c q) t ≡ false → i < q
before-stop a t c i q le y n = ⊎_elim (λ e. absurd (true≢false (sym y ∙ ap (λ (x : ℕ). lt (key a c x) t) e ∙ n))) (λ l. l)
    (eq-or-lt_of_le le)

pub after_stop : (a : ℕ) (t : Float) (c : List Float) (j q : ℕ) → q ≤ j → lt t (key a c j) ≡ true → lt t (key a c q) ≡ false → q < j
after_stop a t c j q le y n = ⊎_elim (λ e. absurd (true≢false (sym y ∙ ap (λ (x : ℕ). lt t (key a c x)) (sym e) ∙ n))) (λ l. l)
    (eq-or-lt_of_le le)

-- a turn's exchange keeps what the scans stop at
pub swap-stops : (a : ℕ) (t : Float) (c : List Float) (i j : ℕ) → a < 2 → 2 * i + 1 < length c → 2 * j + 1 < length c
    → lt (key a c i) t ≡ false → lt t (key a c j) ≡ false
    → (lt (key a (swap_co c i j) j) t ≡ false) × (lt t (key a (swap_co c i j) i) ≡ false)
swap-stops a t c i j a2 li lj hi hj = (
  ap (λ (x : Float). lt x t) (key-swap c i j j li lj a a2 ∙ ap (key a c) (tr-right i j)) ∙ hi,
  ap (λ (x : Float). lt t x) (key-swap c i j i li lj a a2 ∙ ap (key a c) (tr-left i j)) ∙ hj,
)
