-- The definition's steps, said as a loop's turns: a turn of the selection is one step of the definition's, with fuel enough for what is
-- left; and what holds at the head of each loop. Assumes nothing.
use mathlib.Core.Path.{◌≡◌, refl, sym, ap, ◌∙◌}
use mathlib.Core.Bool.{Bool, true, false, cond}
use mathlib.Core.List.{List}
use Prim.Native.Nat.{ℕ, zero, suc, ◌+◌, ◌-◌, ◌<◌, ◌≤◌}
use native.Mathlib.Nat.{le_refl}
use native.Mathlib.Omega.{arith}
use lib.Dec.{ltb, leb}
use lib.Ieee.{Float, lt, eq}
use borrow.Author.Tests.{lt-ltb, le-ltb}
use Rattle.kdsort.specs.Cols.{IndexCols, index_cols, swap_item, key}
use Rattle.kdsort.specs.Select.{Cut, cut, passes, placed, settled, parted, sel, selected}
use Rattle.kdsort.specs.laws.Passes.{Passing}

-- ---- the selection

pub Selecting : IndexCols → ℕ → ℕ → IndexCols → ℕ → ℕ → Type 0
Selecting S a k s l r = (f : ℕ) × (r - l ≤ f) × (sel f (ltb l r) a k s l r ≡ S)

pub selecting-starts : (a k : ℕ) (s : IndexCols) (l r : ℕ) → Selecting (selected a k s l r) a k s l r
unfolding Selecting selected
selecting-starts a k s l r = (r - l, le_refl (r - l), refl)

pub selecting-turn : (S : IndexCols) (a k : ℕ) (s : IndexCols) (l r l' r' : ℕ) (s' : IndexCols) (j : ℕ) → Selecting S a k s l r → l < r
    → r' - l' < r - l
    → parted a k s l r ≡ cut s' j → cond (leb j k) (j + 1) l ≡ l' → cond (leb k j) (j - 1) r ≡ r' → Selecting S a k s' l' r'
unfolding Selecting sel
selecting-turn S a k s l r l' r' s' j h lr less p el er = go h.0 h.1 (rw (lt-ltb l r lr) at h.2) where
  go : (f : ℕ) → r - l ≤ f → sel f true a k s l r ≡ S → (f : ℕ) × (r' - l' ≤ f) × (sel f (ltb l' r') a k s' l' r' ≡ S)
  go zero fu e = absurd (omega arith)
  go (suc f) fu e = (f, omega arith, rw (← el, ← er) (rw p at e))

pub selecting-ends : (S : IndexCols) (a k : ℕ) (s : IndexCols) (l r : ℕ) → Selecting S a k s l r → r ≤ l → s ≡ S
unfolding Selecting sel
selecting-ends S a k s l r h lr = go h.0 (rw (le-ltb l r lr) at h.2) where
  go : (f : ℕ) → sel f false a k s l r ≡ S → s ≡ S
  go zero e = e
  go (suc f) e = e

-- ---- what holds at the head of each loop of `select`

-- a slot at which the scan down stops at the latest
pub record Low (a : ℕ) (t : Float) (c : List Float) (l j : ℕ) : Type 0 where
  pub slot : ℕ
  pub from : l ≤ slot
  pub to : slot ≤ j
  pub stop : lt t (key a c slot) ≡ false

-- at the head of a pass
pub record Pass (P : Cut) (a : ℕ) (t : Float) (l r : ℕ) (s : IndexCols) (i j : ℕ) : Type 0 where
  pub i-from : l ≤ i
  pub i-to : i ≤ r
  pub j-from : l ≤ j
  pub j-to : j ≤ r
  pub i-stop : lt (key a s.co i) t ≡ false
  pub j-stop : lt t (key a s.co j) ≡ false
  pub moved : j ≤ i → j < r
  pub goes : Passing P a t s i j

-- at the head of a cut
pub record Parts (S : IndexCols) (a k last : ℕ) (s : IndexCols) (l r : ℕ) : Type 0 where
  pub r-to : r ≤ last
  pub around : l < r → (l ≤ k) × (k ≤ r)
  pub goes : Selecting S a k s l r

-- ---- before and after the passes

pub placed-then : (a : ℕ) (t : Float) (s S S' : IndexCols) (k l r : ℕ) → S ≡ swap_item s l k → lt t (key a S.co r) ≡ true
    → S' ≡ swap_item S l r → S' ≡ placed a t s k l r
placed-then a t s S S' k l r e y e' =
    e' ∙ sym (ap (λ (b : Bool). cond b (swap_item S l r) S) y) ∙ ap (λ (Z : IndexCols). cond (lt t (key a Z.co r)) (swap_item Z l r) Z) e

pub placed-else : (a : ℕ) (t : Float) (s S : IndexCols) (k l r : ℕ) → S ≡ swap_item s l k → lt t (key a S.co r) ≡ false
    → S ≡ placed a t s k l r
placed-else a t s S k l r e n =
    sym (ap (λ (b : Bool). cond b (swap_item S l r) S) n) ∙ ap (λ (Z : IndexCols). cond (lt t (key a Z.co r)) (swap_item Z l r) Z) e

-- the cut, by how the passes end
pub parted-then : (a k : ℕ) (s S : IndexCols) (l r j : ℕ)
    → passes (r - l) (ltb l r) a (key a s.co k) (placed a (key a s.co k) s k l r) l r ≡ cut S j
    → eq (key a S.co l) (key a s.co k) ≡ true
    → parted a k s l r ≡ cut (swap_item S l j) j
unfolding parted
parted-then a k s S l r j e y =
    ap (λ (p : Cut). settled a (key a s.co k) p l r) e
    ∙ ap (λ (b : Bool). cond b (cut (swap_item S l j) j) (cut (swap_item S (j + 1) r) (j + 1))) y

pub parted-else : (a k : ℕ) (s S : IndexCols) (l r j : ℕ)
    → passes (r - l) (ltb l r) a (key a s.co k) (placed a (key a s.co k) s k l r) l r ≡ cut S j
    → eq (key a S.co l) (key a s.co k) ≡ false
    → parted a k s l r ≡ cut (swap_item S (j + 1) r) (j + 1)
unfolding parted
parted-else a k s S l r j e y =
    ap (λ (p : Cut). settled a (key a s.co k) p l r) e
    ∙ ap (λ (b : Bool). cond b (cut (swap_item S l j) j) (cut (swap_item S (j + 1) r) (j + 1))) y

-- ---- small things
pub cols-eq : {l l' : List ℕ} {c c' : List Float} → l ≡ l' → c ≡ c' → index_cols l c ≡ index_cols l' c'
cols-eq p q = cc

pub cut-eq : {s s' : IndexCols} {j j' : ℕ} → s ≡ s' → j ≡ j' → cut s j ≡ cut s' j'
cut-eq p q = cc
