-- `kdsort::select` meets its contract: each turn is one partition of the definition's, on the side of k. Assumes nothing.
use Rattle.std.specs.Prelude.{◌≡◌, Bool, cond, ℕ, ◌+◌, ◌-◌, ◌<◌, ◌≤◌, leb}
use Rattle.std.proofs.Common.{sym, ap, ◌∙◌, le_refl, arith, le-leb}
use borrow.Author.Tests.{lt-leb}
use Rattle.kdsort.specs.Cols.{IndexCols}
use Rattle.kdsort.specs.Lent.{index_held_mut}
use Rattle.kdsort.specs.Select.{cut, parted}
use Rattle.kdsort.proofs.Loans.{same-self, same-then}
use Rattle.kdsort.proofs.Turns.{Parts, selecting-starts, selecting-turn, selecting-ends}
use Rattle.kdsort.proofs.select.Goals.{then-j-k, else-j-k}
use Rattle.kdsort.proofs.select.Goals as goal

-- a turn from l and r to l' and r': s is cut at the slot j, and what is left is the side of k
parts-turn : (S : IndexCols) (a k last : ℕ) (s s' : IndexCols) (l r j l' r' : ℕ) → Parts S a k last s l r → l < r
    → (l ≤ j) × (j ≤ r) → cut s' j ≡ parted a k s l r → cond (leb j k) (j + 1) l ≡ l'
    → cond (leb k j) (j - 1) r ≡ r' → r' ≤ r → (l' < r' → (l' ≤ k) × (k ≤ r')) → r' - l' < r - l
    → Parts S a k last s' l' r'
parts-turn S a k last s s' l r j l' r' v lr b p el er rr ar less =
    let rt : r ≤ last = v.r-to in
    record { r-to = omega arith; around = ar; goes = selecting-turn S a k s l r l' r' s' j v.goes lr less (sym p) el er }

pub loop-left-init : goal.loop-left-init
loop-left-init c =
    let w = c.requires.first_le_k in
    (record { r-to = le_refl _; around = λ l. (w.0, w.1); goes = selecting-starts _ _ _ _ _ }, same-self _)

pub loop-left-preserved-then-k-j : goal.loop-left-preserved-then-k-j
loop-left-preserved-then-k-j c =
    let k = c.args.k in
    let l = c.loop-left in
    let j = c.partition-j.result in
    let x = index_held_mut c.partition-j.new.index in
    let b = c.partition-j.ensures.between in
    let w = l.invariant.0.around c.loop-left-test.true in
    let er : cond (leb k j) (j - 1) l.right ≡ j - 1 = ap (λ (b : Bool). cond b (j - 1) l.right) (le-leb k j c.if-k-j.true) in (
      elim c.if-j-k.branch [
        | then-j-k v ↦
            let el : cond (leb j k) (j + 1) l.left ≡ c.if-j-k.left =
            ap (λ (b : Bool). cond b (j + 1) l.left) (le-leb j k v.if-j-k.true) ∙ sym v.left-is in
            parts-turn _ c.args.axis k c.args.last (index_held_mut l.index) x l.left l.right j c.if-j-k.left (j - 1) l.invariant.0
            c.loop-left-test.true b c.partition-j.ensures.slots el er (omega arith) (λ q. absurd (omega arith)) (omega arith)
        | else-j-k v ↦
            let el : cond (leb j k) (j + 1) l.left ≡ c.if-j-k.left =
            ap (λ (b : Bool). cond b (j + 1) l.left) (lt-leb j k v.if-j-k.false) ∙ sym v.left-is in
            parts-turn _ c.args.axis k c.args.last (index_held_mut l.index) x l.left l.right j c.if-j-k.left (j - 1) l.invariant.0
            c.loop-left-test.true b c.partition-j.ensures.slots el er (omega arith) (λ q. (omega arith, omega arith)) (omega arith)
      ],
      same-then _ _ _ l.invariant.1 c.partition-j.ensures.lent,
    )

pub loop-left-preserved : goal.loop-left-preserved
loop-left-preserved c =
    let k = c.args.k in
    let l = c.loop-left in
    let j = c.partition-j.result in
    let x = index_held_mut c.partition-j.new.index in
    let b = c.partition-j.ensures.between in
    let w = l.invariant.0.around c.loop-left-test.true in
    let er : cond (leb k j) (j - 1) l.right ≡ l.right = ap (λ (b : Bool). cond b (j - 1) l.right) (lt-leb k j c.if-k-j.false) in (
      elim c.if-j-k.branch [
        | then-j-k v ↦
            let el : cond (leb j k) (j + 1) l.left ≡ c.if-j-k.left =
            ap (λ (b : Bool). cond b (j + 1) l.left) (le-leb j k v.if-j-k.true) ∙ sym v.left-is in
            parts-turn _ c.args.axis k c.args.last (index_held_mut l.index) x l.left l.right j c.if-j-k.left l.right l.invariant.0
            c.loop-left-test.true b c.partition-j.ensures.slots el er (omega arith) (λ q. (omega arith, omega arith)) (omega arith)
        | else-j-k v ↦ absurd (omega arith)
      ],
      same-then _ _ _ l.invariant.1 c.partition-j.ensures.lent,
    )

pub returns-clause-slots : goal.returns-clause-slots
returns-clause-slots c = selecting-ends _ _ _ _ _ _ c.loop-left.invariant.0.goes c.loop-left-test.false
