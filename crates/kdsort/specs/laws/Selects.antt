-- The selection: around k the interval is in order, its slots are permuted, and the fuel is never used up. Assumes nothing.
use Rattle.std.specs.Prelude.{◌≡◌, refl, ◌⊎◌, Bool, true, false, cond, not, List, ℕ, zero, suc, ◌+◌, ◌-◌, ◌*◌, ◌<◌, ◌≤◌, T, ltb, leb, length, Float}
use Rattle.std.proofs.Common.{sym, ap, ◌∙◌, subst, ⊎_elim, inl, inr, le_refl, eq-or-lt_of_le, arith, ltb-true, ltb-false, leb-true, leb-false}
use Rattle.std.specs.Float.Ieee.{lt, is_nan}
use Rattle.floats.specs.laws.NotAbove.{not-above-trans}
use Rattle.kdsort.specs.Cols.{IndexCols, key}
use Rattle.kdsort.specs.Room.{Here}
use Rattle.kdsort.specs.Select.{parted, sel, selected}
use Rattle.kdsort.specs.Tree.{Permuted, Numbers}
use Rattle.kdsort.specs.laws.Perms.{le-or-lt, perm_same, perm-trans, perm-widen, numbers-kept}
use Rattle.kdsort.specs.laws.Cuts.{Parted, Cutting, parted-ok}

-- on the axis a, nothing from f up to x is above anything from x to z
abbrev Apart : ℕ → ℕ → ℕ → List Float → ℕ → Type 0
Apart a f z c x = (p q : ℕ) → f ≤ p → p < x → x ≤ q → q ≤ z → lt (key a c q) (key a c p) ≡ false

-- where a slot comes from: a place on the same side of x, which is not within the interval
same-side : (f z l r x : ℕ) (s s' : IndexCols) (P : Permuted l r s s') → f ≤ l → r ≤ z → (x ≤ l) ⊎ (r < x) → (p : ℕ) → f ≤ p → p ≤ z
    → (f ≤ P.from p) × (P.from p ≤ z) × (p < x → P.from p < x) × (x ≤ p → x ≤ P.from p)
same-side f z l r x s s' P fl rz side p fp pz =
    ⊎_elim
    (λ u. ⊎_elim
    (λ v.
    let w = P.inside p u v in
    ⊎_elim
    (λ y. (omega arith, omega arith, λ h. omega arith, λ h. omega arith))
    (λ y. (omega arith, omega arith, λ h. omega arith, λ h. omega arith))
    side)
    (λ v. let e = P.after p v in (omega arith, omega arith, λ h. omega arith, λ h. omega arith))
    (le-or-lt p r))
    (λ u. let e = P.before p u in (omega arith, omega arith, λ h. omega arith, λ h. omega arith))
    (le-or-lt l p)

apart-kept : (a f z l r x : ℕ) (s s' : IndexCols) → Permuted l r s s' → a < 2 → f ≤ l → r ≤ z → (x ≤ l) ⊎ (r < x) → Apart a f z s.co x
    → Apart a f z s'.co x
apart-kept a f z l r x s s' P a2 fl rz side A p q fp px xq qz =
    let u = same-side f z l r x s s' P fl rz side p fp (omega arith) in
    let v = same-side f z l r x s s' P fl rz side q (omega arith) qz in
    ap (λ (y : Float). lt y (key a s'.co p)) (P.key_of a q a2)
    ∙ ap (lt (key a s.co (P.from q))) (P.key_of a p a2)
    ∙ A (P.from p) (P.from q) u.0 (u.2 px) (v.3 xq) v.1

module _ (a f z l r j : ℕ) (t : Float) (c : List Float) (num : T (not (is_nan t))) (K : Parted a t l r c j) (L : Apart a f z c l)
    (R : Apart a f z c (r + 1)) where
  low-at : (p : ℕ) → l ≤ p → p ≤ j → lt t (key a c p) ≡ false
  low-at p h k = ⊎_elim (λ e. ap (λ (x : ℕ). lt t (key a c x)) e ∙ K.at_low) (λ u. K.low p h u) (eq-or-lt_of_le k)

  high-at : (p : ℕ) → j ≤ p → p ≤ r → lt (key a c p) t ≡ false
  high-at p h k = ⊎_elim (λ e. ap (λ (x : ℕ). lt (key a c x) t) (sym e) ∙ K.at_high) (λ u. K.high p u k) (eq-or-lt_of_le h)

  -- across the pivot, at either side of its slot
  across : (x : ℕ) → j ≤ x → x ≤ j + 1 → Apart a f z c x
  across x jx xj p q fp px xq qz =
      let j1 = K.j-from in
      let j2 = K.j-to in
      ⊎_elim
      (λ u. ⊎_elim
      (λ v. not-above-trans (key a c p) t (key a c q) num (low-at p u (omega arith)) (high-at q (omega arith) v))
      (λ v. R p q fp (omega arith) (omega arith) qz)
      (le-or-lt q r))
      (λ u. L p q fp u (omega arith) qz)
      (le-or-lt l p)

-- what the selection comes to
pub record Chosen (a k f z : ℕ) (s S : IndexCols) : Type 0 where
  pub perm : Permuted f z s S
  pub left : (p : ℕ) → f ≤ p → p < k → lt (key a S.co k) (key a S.co p) ≡ false
  pub right : (p : ℕ) → k < p → p ≤ z → lt (key a S.co p) (key a S.co k) ≡ false

-- where it stands: the interval holds k, or k has been cut out
record Stand (a k f z l r : ℕ) (s : IndexCols) : Type 0 where
  a2 : a < 2
  k1 : 1 ≤ k
  fk : f ≤ k
  kz : k ≤ z
  fl : f ≤ l
  rz : r ≤ z
  zn : z < length s.ids
  nm : 2 * z + 1 < length s.co
  mid : ((l ≤ k) × (k ≤ r)) ⊎ ((l ≡ k + 1) × (r + 1 ≡ k))
  numbers : Numbers f z s
  lows : Apart a f z s.co l
  highs : Apart a f z s.co (r + 1)

ended : (a k f z l r : ℕ) (s : IndexCols) → Stand a k f z l r s → r ≤ l → Chosen a k f z s s
ended a k f z l r s S le =
    ⊎_elim
    (λ w.
    let x = w.0 in
    let y = w.1 in
    record {
      perm = perm_same f z s;
      left = λ p h u. S.lows p k h (omega arith) x S.kz;
      right = λ p u h. S.highs k p S.fk (omega arith) (omega arith) h;
    })
    (λ w.
    let x = w.0 in
    let y = w.1 in
    record {
      perm = perm_same f z s;
      left = λ p h u. S.highs p k h (omega arith) (omega arith) S.kz;
      right = λ p u h. S.lows k p S.fk (omega arith) (omega arith) h;
    })
    S.mid

module _ (a k f z l r : ℕ) (s : IndexCols) (S : Stand a k f z l r s) (lr : l < r) where
  inner : (l ≤ k) × (k ≤ r)
  inner = ⊎_elim (λ w. w) (λ w. let x = w.0 in let y = w.1 in absurd (omega arith)) S.mid

  here : Here k l r a (length s.ids) (length s.co)
  here = record { lr = lr; lk = inner.0; kr = inner.1; rn = omega arith; nm = omega arith; a2 = S.a2 }

  num : T (not (is_nan (key a s.co k)))
  unfolding Numbers
  num = S.numbers a k S.a2 S.fk S.kz

  made : Cutting a (key a s.co k) l r s (parted a k s l r)
  made = parted-ok a k s l r here num

  wide : Permuted f z s (parted a k s l r).at
  wide = perm-widen f z l r s (parted a k s l r).at S.fl S.rz made.perm

  abbrev l-next : ℕ
  l-next = cond (leb (parted a k s l r).slot k) ((parted a k s l r).slot + 1) l

  abbrev r-next : ℕ
  r-next = cond (leb k (parted a k s l r).slot) ((parted a k s l r).slot - 1) r

  l-cases : (((parted a k s l r).slot ≤ k) × (l-next ≡ (parted a k s l r).slot + 1)) ⊎ ((k < (parted a k s l r).slot) × (l-next ≡ l))
  l-cases = go (leb (parted a k s l r).slot k) refl where
    go : (b : Bool) → leb (parted a k s l r).slot k ≡ b
        → (((parted a k s l r).slot ≤ k) × (cond b ((parted a k s l r).slot + 1) l ≡ (parted a k s l r).slot + 1))
        ⊎ ((k < (parted a k s l r).slot) × (cond b ((parted a k s l r).slot + 1) l ≡ l))
    go true e = inl (leb-true _ _ e, refl)
    go false e = inr (leb-false _ _ e, refl)

  r-cases : ((k ≤ (parted a k s l r).slot) × (r-next ≡ (parted a k s l r).slot - 1)) ⊎ (((parted a k s l r).slot < k) × (r-next ≡ r))
  r-cases = go (leb k (parted a k s l r).slot) refl where
    go : (b : Bool) → leb k (parted a k s l r).slot ≡ b
        → ((k ≤ (parted a k s l r).slot) × (cond b ((parted a k s l r).slot - 1) r ≡ (parted a k s l r).slot - 1))
        ⊎ (((parted a k s l r).slot < k) × (cond b ((parted a k s l r).slot - 1) r ≡ r))
    go true e = inl (leb-true _ _ e, refl)
    go false e = inr (leb-false _ _ e, refl)

  L' : Apart a f z (parted a k s l r).at.co l
  L' = apart-kept a f z l r l s (parted a k s l r).at made.perm S.a2 S.fl S.rz (inl (le_refl l)) S.lows

  R' : Apart a f z (parted a k s l r).at.co (r + 1)
  R' = apart-kept a f z l r (r + 1) s (parted a k s l r).at made.perm S.a2 S.fl S.rz (inr (omega arith)) S.highs

  next-less : r-next - l-next < r - l
  next-less =
      let j1 = made.part.j-from in
      let j2 = made.part.j-to in
      let k1 = S.k1 in
      ⊎_elim
      (λ u. let e = u.1 in ⊎_elim (λ v. let d = v.1 in omega arith) (λ v. let d = v.1 in omega arith) r-cases)
      (λ u. let e = u.1 in ⊎_elim (λ v. let d = v.1 in omega arith) (λ v. let d = v.1 in omega arith) r-cases)
      l-cases

  next : Stand a k f z l-next r-next (parted a k s l r).at
  next =
      let j1 = made.part.j-from in
      let j2 = made.part.j-to in
      let k1 = S.k1 in
      let i = inner in
      let F = S.fl in
      let Z = S.rz in
      record {
        a2 = S.a2;
        k1 = S.k1;
        fk = S.fk;
        kz = S.kz;
        fl = ⊎_elim (λ u. let e = u.1 in omega arith) (λ u. let e = u.1 in omega arith) l-cases;
        rz = ⊎_elim (λ u. let e = u.1 in omega arith) (λ u. let e = u.1 in omega arith) r-cases;
        zn = rw made.perm.ids-long S.zn;
        nm = rw made.perm.co-long S.nm;
        mid =
            ⊎_elim
            (λ u. let e = u.1 in ⊎_elim (λ v. let d = v.1 in inr (omega arith, omega arith))
            (λ v. let d = v.1 in inl (omega arith, omega arith)) r-cases)
            (λ u. let e = u.1 in ⊎_elim (λ v. let d = v.1 in inl (omega arith, omega arith)) (λ v. let d = v.1 in absurd (omega arith))
            r-cases)
            l-cases;
        numbers = numbers-kept f z s (parted a k s l r).at wide S.numbers;
        lows =
            ⊎_elim
            (λ u. subst (Apart a f z (parted a k s l r).at.co) (sym u.1)
            (across a f z l r (parted a k s l r).slot (key a s.co k) (parted a k s l r).at.co num made.part L' R'
            ((parted a k s l r).slot + 1) (omega arith) (omega arith)))
            (λ u. subst (Apart a f z (parted a k s l r).at.co) (sym u.1) L')
            l-cases;
        highs =
            ⊎_elim
            (λ u. let e : r-next + 1 ≡ (parted a k s l r).slot = (let d = u.1 in omega arith) in
            subst (Apart a f z (parted a k s l r).at.co) (sym e)
            (across a f z l r (parted a k s l r).slot (key a s.co k) (parted a k s l r).at.co num made.part L' R'
            (parted a k s l r).slot (le_refl _) (omega arith)))
            (λ u. subst (λ (x : ℕ). Apart a f z (parted a k s l r).at.co (x + 1)) (sym u.1) R')
            r-cases;
      }

through : (a k f z : ℕ) (s s' S : IndexCols) → Permuted f z s s' → Chosen a k f z s' S → Chosen a k f z s S
through a k f z s s' S P C = record { perm = perm-trans f z s s' S P C.perm; left = C.left; right = C.right }

sel-ok : (g : ℕ) (b : Bool) (a k f z l r : ℕ) (s : IndexCols) → ltb l r ≡ b → r - l ≤ g → Stand a k f z l r s
    → Chosen a k f z s (sel g b a k s l r)
unfolding sel
sel-ok zero b a k f z l r s e fu S = ended a k f z l r s S (omega arith)
sel-ok (suc g) false a k f z l r s e fu S = ended a k f z l r s S (ltb-false l r e)
sel-ok (suc g) true a k f z l r s e fu S =
    through a k f z s (parted a k s l r).at _ (wide a k f z l r s S (ltb-true l r e))
    (sel-ok g (ltb (cond (leb (parted a k s l r).slot k) ((parted a k s l r).slot + 1) l)
    (cond (leb k (parted a k s l r).slot) ((parted a k s l r).slot - 1) r)) a k f z
    (cond (leb (parted a k s l r).slot k) ((parted a k s l r).slot + 1) l)
    (cond (leb k (parted a k s l r).slot) ((parted a k s l r).slot - 1) r) (parted a k s l r).at refl
    (let w = next-less a k f z l r s S (ltb-true l r e) in omega arith)
    (next a k f z l r s S (ltb-true l r e)))

-- of columns with no NaN between l and r, the selection of k from there
pub selected-ok : (a k : ℕ) (s : IndexCols) (l r : ℕ) → a < 2 → 1 ≤ k → l ≤ k → k ≤ r → r < length s.ids → 2 * r + 1 < length s.co
    → Numbers l r s → Chosen a k l r s (selected a k s l r)
unfolding selected
selected-ok a k s l r a2 k1 lk kr rn nm N =
    sel-ok (r - l) (ltb l r) a k l r l r s refl (le_refl (r - l))
    (record {
      a2 = a2;
      k1 = k1;
      fk = lk;
      kz = kr;
      fl = le_refl l;
      rz = le_refl r;
      zn = rn;
      nm = nm;
      mid = inl (lk, kr);
      numbers = N;
      lows = λ p q h u v w. absurd (omega arith);
      highs = λ p q h u v w. absurd (omega arith);
    })

-- ---- the fuel is never used up

sel-same : (g g' : ℕ) (b : Bool) (a k f z l r : ℕ) (s : IndexCols) → ltb l r ≡ b → r - l ≤ g → r - l ≤ g' → Stand a k f z l r s
    → sel g b a k s l r ≡ sel g' b a k s l r
unfolding sel
sel-same zero zero b a k f z l r s e h h' S = refl
sel-same zero (suc g') true a k f z l r s e h h' S = let w = ltb-true l r e in absurd (omega arith)
sel-same zero (suc g') false a k f z l r s e h h' S = refl
sel-same (suc g) zero true a k f z l r s e h h' S = let w = ltb-true l r e in absurd (omega arith)
sel-same (suc g) zero false a k f z l r s e h h' S = refl
sel-same (suc g) (suc g') false a k f z l r s e h h' S = refl
sel-same (suc g) (suc g') true a k f z l r s e h h' S =
    let w = next-less a k f z l r s S (ltb-true l r e) in
    sel-same g g' _ a k f z (cond (leb (parted a k s l r).slot k) ((parted a k s l r).slot + 1) l)
    (cond (leb k (parted a k s l r).slot) ((parted a k s l r).slot - 1) r) (parted a k s l r).at refl
    (omega arith) (omega arith) (next a k f z l r s S (ltb-true l r e))

pub selected-enough : (g a k : ℕ) (s : IndexCols) (l r : ℕ) → a < 2 → 1 ≤ k → l ≤ k → k ≤ r → r < length s.ids
    → 2 * r + 1 < length s.co → Numbers l r s → r - l ≤ g → sel g (ltb l r) a k s l r ≡ selected a k s l r
unfolding selected
selected-enough g a k s l r a2 k1 lk kr rn nm N h =
    sel-same g (r - l) (ltb l r) a k l r l r s refl h (le_refl (r - l))
    (record {
      a2 = a2;
      k1 = k1;
      fk = lk;
      kz = kr;
      fl = le_refl l;
      rz = le_refl r;
      zn = rn;
      nm = nm;
      mid = inl (lk, kr);
      numbers = N;
      lows = λ p q x u v w. absurd (omega arith);
      highs = λ p q x u v w. absurd (omega arith);
    })
