-- `kdsort::partition` meets its contract: the columns placed, then pass after pass by the definition's steps, then settled. Each scan has
-- a slot that stops it at the latest, so no index leaves the interval. Assumes nothing.
use Rattle.std.specs.Prelude.{◌≡◌, List, ℕ, ◌+◌, ◌-◌, ◌*◌, ◌<◌, ltb, length, Float}
use Rattle.std.proofs.Common.{refl, sym, ap, ◌∙◌, subst, le_refl, arith}
use native.Mathlib.Nat.{le_of_lt, lt_of_lt_of_le, lt_irrefl}
use Rattle.std.specs.Float.Ieee.{lt}
use Rattle.kdsort.specs.Cols.{IndexCols, index_cols, swap_item, key}
use Rattle.kdsort.specs.Lent.{index_held_mut, SameIndex}
use Rattle.kdsort.specs.Room.{Here}
use Rattle.kdsort.specs.Select.{Cut, passes, placed}
use Rattle.kdsort.specs.laws.Batches.{Nearer}
use Rattle.kdsort.specs.laws.Scans.{up_none, down-none, placed-stops}
use Rattle.kdsort.specs.laws.Passes.{Passing, PassScanning, passing-starts, passing-ends, scanning-turn, scanning-cols}
use Rattle.kdsort.proofs.Loans.{same-then}
use Rattle.kdsort.proofs.Turns.{Pass, placed-then, placed-else, parted-then, parted-else, cut-eq}
use Rattle.kdsort.proofs.partition.Goals.{then-index-right, else-index-right}
use Rattle.kdsort.proofs.partition.Goals as goal

-- ---- before the passes

-- at the first pass, where S are the columns placed
pass-first : (a k l r : ℕ) (s S : IndexCols) → Here k l r a (length s.ids) (length s.co) → S ≡ placed a (key a s.co k) s k l r
    → let t = key a s.co k in
    Pass (passes (r - l) (ltb l r) a t (placed a t s k l r) l r) a t l r S l r
pass-first a k l r s S h e =
    let t = key a s.co k in
    let w = placed-stops a s k l r h in
    let e' : S.co ≡ (placed a t s k l r).co = ap (λ (x : IndexCols). x.co) e in
    record {
      i-from = le_refl _;
      i-to = le_of_lt h.lr;
      j-from = le_of_lt h.lr;
      j-to = le_refl _;
      i-stop = ap (λ (x : List Float). lt (key a x l) t) e' ∙ w.0;
      j-stop = ap (λ (x : List Float). lt t (key a x r)) e' ∙ w.1;
      moved = λ q. absurd (lt_irrefl _ (lt_of_lt_of_le h.lr q));
      goes = subst (λ (x : IndexCols). Passing (passes (r - l) (ltb l r) a t (placed a t s k l r) l r) a t x l r) (sym e)
          (passing-starts a t (placed a t s k l r) l r);
    }

pub passes-init : goal.passes-init
passes-init c =
    let a = c.args in
    let s = index_held_mut a.index.now in
    let t = key a.axis s.co a.k in
    let one = index_cols c.swap_item.new.ids c.swap_item.new.coords in
    let e : index_held_mut c.if-index-right.index ≡ placed a.axis t s a.k a.left a.right =
    elim c.if-index-right.branch [
      | then-index-right w ↦ ap index_held_mut w.index-is
          ∙ placed-then a.axis t s one (index_cols w.swap_item-then-index-right.new.ids w.swap_item-then-index-right.new.coords) a.k
          a.left a.right c.swap_item.ensures w.if-index-right.true w.swap_item-then-index-right.ensures
      | else-index-right w ↦ ap index_held_mut w.index-is
          ∙ placed-else a.axis t s one a.k a.left a.right c.swap_item.ensures w.if-index-right.false
    ] in
    let same : SameIndex a.index.now c.if-index-right.index =
    elim c.if-index-right.branch [
      | then-index-right w ↦
          let two = w.swap_item-then-index-right.auto in
          rw w.index-is
          (record {
            ids = refl;
            coords = refl;
            ids_length = two.ids ∙ c.swap_item.auto.ids;
            coords_length = two.coords ∙ c.swap_item.auto.coords;
          })
      | else-index-right w ↦
          rw w.index-is
          (record { ids = refl; coords = refl; ids_length = c.swap_item.auto.ids; coords_length = c.swap_item.auto.coords })
    ] in
    (pass-first a.axis a.k a.left a.right s (index_held_mut c.if-index-right.index) c.requires e, same)

-- ---- a pass

-- from the exchange of i and j on, through a batch of exchanges
scanning : (P : Cut) (a : ℕ) (t : Float) (l r : ℕ) (s S B : IndexCols) (i j x y : ℕ) → Pass P a t l r s i j → i < j
    → a < 2 → 2 * r + 1 < length s.co → S ≡ swap_item s i j → Nearer a t S B (i + 1) (j - 1) x y → PassScanning P a t B x y
scanning P a t l r s S B i j x y p ij a2 long e g =
    let jr = p.j-to in
    let room : 2 * j + 1 < length s.co = omega arith in
    g.goes P
    (scanning-cols P a t S (swap_item s i j) (i + 1) (j - 1) e (scanning-turn P a t s i j p.goes ij a2 room p.i-stop p.j-stop))

pub up-init : goal.up-init
up-init c =
    let a = c.args in
    let room : 2 * a.right + 1 < length c.passes.index.coords.now = omega arith in
    let h = scanning _ a.axis _ a.left a.right (index_held_mut c.passes.index)
    (index_cols c.swap_item-in-passes.new.ids c.swap_item-in-passes.new.coords) (index_held_mut c.batch-e.new.index)
    c.passes.i c.passes.j c.batch-e.result.up c.batch-e.result.down c.passes.invariant.0
    c.passes-test.true c.requires.a2 room c.swap_item-in-passes.ensures c.batch-e.ensures.slots in
    (up_none _ _ _ _, c.batch-e.ensures.slots.meet, h.j-stop)

pub down-init : goal.down-init
down-init c =
    let a = c.args in
    let room : 2 * a.right + 1 < length c.passes.index.coords.now = omega arith in
    let h = scanning _ a.axis _ a.left a.right (index_held_mut c.passes.index)
    (index_cols c.swap_item-in-passes.new.ids c.swap_item-in-passes.new.coords) (index_held_mut c.batch-e.new.index)
    c.passes.i c.passes.j c.batch-e.result.up c.batch-e.result.down c.passes.invariant.0
    c.passes-test.true c.requires.a2 room c.swap_item-in-passes.ensures c.batch-e.ensures.slots in (
      down-none _ _ _ _,
      record { slot = c.batch-e.result.up - 1; from = omega arith; to = omega arith; stop = h.i-stop },
    )

pub passes-preserved : goal.passes-preserved
passes-preserved c =
    let a = c.args in
    let room : 2 * a.right + 1 < length c.passes.index.coords.now = omega arith in
    let h = scanning _ a.axis _ a.left a.right (index_held_mut c.passes.index)
    (index_cols c.swap_item-in-passes.new.ids c.swap_item-in-passes.new.coords) (index_held_mut c.batch-e.new.index)
    c.passes.i c.passes.j c.batch-e.result.up c.batch-e.result.down c.passes.invariant.0
    c.passes-test.true c.requires.a2 room c.swap_item-in-passes.ensures c.batch-e.ensures.slots in
    let i-end = c.up-test.false in
    let j-end = c.down-test.false in
    let u = c.up.invariant in
    let d = c.down.invariant in (
      record {
        i-from = omega arith;
        i-to = omega arith;
        j-from = omega arith;
        j-to = omega arith;
        i-stop = i-end;
        j-stop = j-end;
        moved = λ q. omega arith;
        goes = h.goes c.up.i c.down.j u.1 u.0 i-end d.0 j-end;
      },
      same-then _ _ _ (same-then _ _ _ c.passes.invariant.1
          (record {
            ids = refl;
            coords = refl;
            ids_length = c.swap_item-in-passes.auto.ids;
            coords_length = c.swap_item-in-passes.auto.coords;
          })) c.batch-e.ensures.lent,
    )

-- ---- after the passes

pub returns-then-index-left-clause-slots : goal.returns-then-index-left-clause-slots
returns-then-index-left-clause-slots c =
    let a = c.args in
    let x = index_held_mut c.passes.index in
    let s = index_held_mut a.index.now in
    let t = key a.axis s.co a.k in
    let P = passes (a.right - a.left) (ltb a.left a.right) a.axis t (placed a.axis t s a.k a.left a.right) a.left a.right in
    let p = passing-ends P a.axis t x c.passes.i c.passes.j c.passes.invariant.0.goes c.passes-test.false in
    cut-eq c.swap_item-then-index-left.ensures refl
    ∙ sym (parted-then a.axis a.k s x a.left a.right c.passes.j p c.if-index-left.true)

pub returns-clause-slots : goal.returns-clause-slots
returns-clause-slots c =
    let a = c.args in
    let x = index_held_mut c.passes.index in
    let s = index_held_mut a.index.now in
    let t = key a.axis s.co a.k in
    let P = passes (a.right - a.left) (ltb a.left a.right) a.axis t (placed a.axis t s a.k a.left a.right) a.left a.right in
    let p = passing-ends P a.axis t x c.passes.i c.passes.j c.passes.invariant.0.goes c.passes-test.false in
    cut-eq c.swap_item-2.ensures refl
    ∙ sym (parted-else a.axis a.k s x a.left a.right c.passes.j p c.if-index-left.false)
