-- The index of points: the columns as the points fill them, and what their sort is. Each slot holds one point and each point has one
-- slot, ids and both coordinates moved together, in the order of the tree; what lies past them is as it was. Assumes nothing.
use Rattle.std.specs.Prelude.{◌≡◌, not, List, set, Float}
use Rattle.std.proofs.Math.Path.{refl, sym, ap, subst}
use Rattle.std.proofs.Common.{◌∙◌, eq-or-lt_of_le, add-zero, add-one, ext_get_or}
use Rattle.std.proofs.Math.Logic.{⊎_elim}
use Prim.Native.Nat.{ℕ, zero, suc, ◌+◌, ◌-◌, ◌*◌, ◌/◌, ◌%◌, ◌<◌, ◌≤◌}
use native.Mathlib.Omega.{arith}
use Rattle.std.proofs.Math.Dec.{T}
use Rattle.std.proofs.Math.ListN.{length, get_or, length-set}
use Rattle.std.proofs.Math.Seq.{get_or-set_same, get_or-set_other}
use Rattle.std.specs.Float.Ieee.{nan, is_nan}
use Rattle.kdsort.specs.Cols.{IndexCols, index_cols, key}
use Rattle.kdsort.specs.Shape.{shape}
use Rattle.kdsort.specs.Sort.{filled_slots, sorted, indexed}
use Rattle.kdsort.specs.Tree.{Numbers, Points, Index}
use Rattle.kdsort.specs.laws.Swaps.{axis-cases}
use Rattle.kdsort.specs.laws.Perms.{le-or-lt}
use Rattle.kdsort.specs.laws.Trees.{Built, sorted-ok}

pub filled_more : (i : ℕ) (xs ys : List Float) (s S : IndexCols) → S ≡ filled_slots i xs ys s
    → index_cols (set S.ids i i) (set (set S.co (2 * i) (get_or xs i nan)) (2 * i + 1) (get_or ys i nan)) ≡ filled_slots (i + 1) xs ys s
unfolding filled_slots
filled_more i xs ys s S e =
    rw (add-one i) (ap (λ (x : IndexCols). index_cols (set x.ids i i)
    (set (set x.co (2 * i) (get_or xs i nan)) (2 * i + 1) (get_or ys i nan))) e)

module _ (xs ys : List Float) (s : IndexCols) where
  ids-long : (i : ℕ) → length (filled_slots i xs ys s).ids ≡ length s.ids
  unfolding filled_slots
  ids-long zero = refl
  ids-long (suc i) = length-set (filled_slots i xs ys s).ids i i ∙ ids-long i

  co-long : (i : ℕ) → length (filled_slots i xs ys s).co ≡ length s.co
  unfolding filled_slots
  co-long zero = refl
  co-long (suc i) = length-set (set (filled_slots i xs ys s).co (2 * i) (get_or xs i nan)) (2 * i + 1) (get_or ys i nan)
      ∙ length-set (filled_slots i xs ys s).co (2 * i) (get_or xs i nan) ∙ co-long i

  id-at : (i p : ℕ) → p < i → i ≤ length s.ids → get_or (filled_slots i xs ys s).ids p 0 ≡ p
  unfolding filled_slots
  id-at zero p h k = absurd (omega arith)
  id-at (suc i) p h k =
      let w = ids-long i in
      ⊎_elim
      (λ e. ap (λ (x : ℕ). get_or (set (filled_slots i xs ys s).ids i i) x 0) e
      ∙ get_or-set_same (filled_slots i xs ys s).ids i i 0 (omega arith) ∙ sym e)
      (λ l. get_or-set_other (filled_slots i xs ys s).ids i p i 0 (λ e. omega arith) ∙ id-at i p l (omega arith))
      (eq-or-lt_of_le (omega arith))

  id-rest : (i p : ℕ) → i ≤ p → get_or (filled_slots i xs ys s).ids p 0 ≡ get_or s.ids p 0
  unfolding filled_slots
  id-rest zero p h = refl
  id-rest (suc i) p h = get_or-set_other (filled_slots i xs ys s).ids i p i 0 (λ e. omega arith) ∙ id-rest i p (omega arith)

  co-rest : (i p : ℕ) → 2 * i ≤ p → get_or (filled_slots i xs ys s).co p nan ≡ get_or s.co p nan
  unfolding filled_slots
  co-rest zero p h = refl
  co-rest (suc i) p h =
      get_or-set_other (set (filled_slots i xs ys s).co (2 * i) (get_or xs i nan)) (2 * i + 1) p (get_or ys i nan) nan (λ e. omega arith)
      ∙ get_or-set_other (filled_slots i xs ys s).co (2 * i) p (get_or xs i nan) nan (λ e. omega arith) ∙ co-rest i p (omega arith)

  x-at : (i p : ℕ) → p < i → 2 * i ≤ length s.co → get_or (filled_slots i xs ys s).co (2 * p) nan ≡ get_or xs p nan
  unfolding filled_slots
  x-at zero p h k = absurd (omega arith)
  x-at (suc i) p h k =
      let w = co-long i in
      get_or-set_other (set (filled_slots i xs ys s).co (2 * i) (get_or xs i nan)) (2 * i + 1) (2 * p) (get_or ys i nan) nan (λ e. omega arith)
      ∙ ⊎_elim
      (λ e. ap (λ (x : ℕ). get_or (set (filled_slots i xs ys s).co (2 * i) (get_or xs i nan)) (2 * x) nan) e
      ∙ get_or-set_same (filled_slots i xs ys s).co (2 * i) (get_or xs i nan) nan (omega arith) ∙ ap (λ (x : ℕ). get_or xs x nan) (sym e))
      (λ l. get_or-set_other (filled_slots i xs ys s).co (2 * i) (2 * p) (get_or xs i nan) nan (λ e. omega arith) ∙ x-at i p l (omega arith))
      (eq-or-lt_of_le (omega arith))

  y-at : (i p : ℕ) → p < i → 2 * i ≤ length s.co → get_or (filled_slots i xs ys s).co (2 * p + 1) nan ≡ get_or ys p nan
  unfolding filled_slots
  y-at zero p h k = absurd (omega arith)
  y-at (suc i) p h k =
      let w = co-long i in
      let v : 2 * i + 1 < length (set (filled_slots i xs ys s).co (2 * i) (get_or xs i nan)) = simp length-set (omega arith) in
      ⊎_elim
      (λ e. ap (λ (x : ℕ). get_or (set (set (filled_slots i xs ys s).co (2 * i) (get_or xs i nan)) (2 * i + 1) (get_or ys i nan)) (2 * x + 1) nan)
      e ∙ get_or-set_same (set (filled_slots i xs ys s).co (2 * i) (get_or xs i nan)) (2 * i + 1) (get_or ys i nan) nan v
      ∙ ap (λ (x : ℕ). get_or ys x nan) (sym e))
      (λ l.
      get_or-set_other (set (filled_slots i xs ys s).co (2 * i) (get_or xs i nan)) (2 * i + 1) (2 * p + 1) (get_or ys i nan) nan
      (λ e. omega arith)
      ∙ get_or-set_other (filled_slots i xs ys s).co (2 * i) (2 * p + 1) (get_or xs i nan) nan (λ e. omega arith) ∙ y-at i p l (omega arith))
      (eq-or-lt_of_le (omega arith))

  module _ (n : ℕ) (n1 : 1 ≤ n) (some : 1 ≤ length xs) (room : length xs ≤ length s.ids) (room2 : 2 * length xs ≤ length s.co)
      (num : Points xs ys) where
    abbrev F : IndexCols
    F = filled_slots (length xs) xs ys s

    abbrev S : IndexCols
    S = sorted 0 0 (length xs) (shape (n + 1) 0 (length xs)) (filled_slots (length xs) xs ys s)

    x-key : (p : ℕ) → p < length xs → key 0 F.co p ≡ get_or xs p nan
    x-key p h = rw add-zero (x-at (length xs) p h room2)

    numbers : Numbers 0 (length xs - 1) F
    unfolding Numbers Points
    numbers a p a2 h k =
        let l : p < length xs = omega arith in
        ⊎_elim
        (λ e. rw e (subst (λ (x : Float). T (not (is_nan x))) (sym (x-key p l)) (num p l).0))
        (λ e. rw e (subst (λ (x : Float). T (not (is_nan x))) (sym (y-at (length xs) p l room2)) (num p l).1))
        (axis-cases a a2)

    built : Built 0 (n + 1) 0 (length xs) F S
    built =
        let i = ids-long (length xs) in
        let c = co-long (length xs) in
        sorted-ok 0 (n + 1) 0 (length xs) F (omega arith) (omega arith) (omega arith) (omega arith) numbers

    from_in : (p : ℕ) → p < length xs → built.perm.from p < length xs
    from_in p h = let w = built.perm.inside p (omega arith) (omega arith) in omega arith

    id-is : (p : ℕ) → p < length xs → get_or S.ids p 0 ≡ built.perm.from p
    id-is p h = built.perm.id-of p ∙ id-at (length xs) (built.perm.from p) (from_in p h) room

    to_in : (q : ℕ) → q < length xs → built.perm.to q < length xs
    to_in q h =
        let b = built.perm.back q in
        ⊎_elim (λ l. let e = built.perm.after (built.perm.to q) (omega arith) in absurd (omega arith)) (λ l. l)
        (le-or-lt (length xs) (built.perm.to q))

    rest_at : (p : ℕ) → 2 * length xs ≤ p → get_or S.co p nan ≡ get_or s.co p nan
    rest_at p h =
        let e : p ≡ 2 * (p / 2) + p % 2 = omega arith in
        let P = built.perm in
        ap (λ (x : ℕ). get_or S.co x nan) e
        ∙ P.key_of (p % 2) (p / 2) (omega arith)
        ∙ ap (key (p % 2) F.co) (P.after (p / 2) (omega arith))
        ∙ ap (λ (x : ℕ). get_or F.co x nan) (sym e)
        ∙ co-rest (length xs) p h

    pub indexed-ok : Index n xs ys s (indexed n xs ys s)
    unfolding indexed
    indexed-ok =
        let P = built.perm in
        record {
          id-in = λ p h. subst (λ (x : ℕ). x < length xs) (sym (id-is p h)) (from_in p h);
          x-of = λ p h. P.key_of 0 p (omega arith) ∙ x-key (P.from p) (from_in p h) ∙ ap (λ (q : ℕ). get_or xs q nan) (sym (id-is p h));
          y_of = λ p h. P.key_of 1 p (omega arith) ∙ y-at (length xs) (P.from p) (from_in p h) room2
              ∙ ap (λ (q : ℕ). get_or ys q nan) (sym (id-is p h));
          slot_of = P.to;
          slot-in = to_in;
          id-back = λ q h. id-is (P.to q) (to_in q h) ∙ P.back q;
          slot-back = λ p h. ap P.to (id-is p h) ∙ P.there p;
          ids-rest = λ p h. P.id-of p ∙ ap (λ (x : ℕ). get_or F.ids x 0) (P.after p (omega arith)) ∙ id-rest (length xs) p h;
          co-rest = rest_at;
          ids-long = P.ids-long ∙ ids-long (length xs);
          co-long = P.co-long ∙ co-long (length xs);
          tree = built.tree;
        }

-- what the columns held before is gone where they have just room
module _ (xs ys : List Float) (s t : IndexCols) (a : length s.ids ≡ length xs) (b : length t.ids ≡ length xs)
    (c : length s.co ≡ 2 * length xs) (d : length t.co ≡ 2 * length xs) where
  same-ids : (filled_slots (length xs) xs ys s).ids ≡ (filled_slots (length xs) xs ys t).ids
  same-ids =
      let p = ids-long xs ys s (length xs) in
      let q = ids-long xs ys t (length xs) in
      ext_get_or 0 (filled_slots (length xs) xs ys s).ids (filled_slots (length xs) xs ys t).ids (omega arith)
      (λ i h. id-at xs ys s (length xs) i (omega arith) (omega arith) ∙ sym (id-at xs ys t (length xs) i (omega arith) (omega arith)))

  same_at : (i : ℕ) → i < 2 * length xs
      → get_or (filled_slots (length xs) xs ys s).co i nan ≡ get_or (filled_slots (length xs) xs ys t).co i nan
  same_at i h =
      let e : i ≡ 2 * (i / 2) + i % 2 = omega arith in
      let two : i % 2 < 2 = omega arith in
      let l : i / 2 < length xs = omega arith in
      ⊎_elim
      (λ z. let f : i ≡ 2 * (i / 2) = omega arith in
      ap (λ (x : ℕ). get_or (filled_slots (length xs) xs ys s).co x nan) f ∙ x-at xs ys s (length xs) (i / 2) l (omega arith)
      ∙ sym (x-at xs ys t (length xs) (i / 2) l (omega arith)) ∙ ap (λ (x : ℕ). get_or (filled_slots (length xs) xs ys t).co x nan) (sym f))
      (λ z. let f : i ≡ 2 * (i / 2) + 1 = omega arith in
      ap (λ (x : ℕ). get_or (filled_slots (length xs) xs ys s).co x nan) f ∙ y-at xs ys s (length xs) (i / 2) l (omega arith)
      ∙ sym (y-at xs ys t (length xs) (i / 2) l (omega arith)) ∙ ap (λ (x : ℕ). get_or (filled_slots (length xs) xs ys t).co x nan) (sym f))
      (axis-cases (i % 2) two)

  same-co : (filled_slots (length xs) xs ys s).co ≡ (filled_slots (length xs) xs ys t).co
  same-co =
      let p = co-long xs ys s (length xs) in
      let q = co-long xs ys t (length xs) in
      ext_get_or nan (filled_slots (length xs) xs ys s).co (filled_slots (length xs) xs ys t).co (omega arith)
      (λ i h. same_at i (omega arith))

  pub indexed-same : (n : ℕ) → indexed n xs ys s ≡ indexed n xs ys t
  unfolding indexed
  indexed-same n =
      let f : filled_slots (length xs) xs ys s ≡ filled_slots (length xs) xs ys t = λ i. index_cols (same-ids i) (same-co i) in
      ap (λ (x : IndexCols). sorted 0 0 (length xs) (shape (n + 1) 0 (length xs)) x) f
