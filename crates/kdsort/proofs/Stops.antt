-- The stops of a scan as a list that is written one entry a turn: an entry is written over where its slot does not stop the scan. Assumes
-- nothing.
use mathlib.Core.Path.{◌≡◌, refl}
use mathlib.Core.Bool.{Bool, true, false, not}
use mathlib.Core.List.{List}
use Prim.Native.Nat.{ℕ, ◌+◌, ◌-◌, ◌<◌, ◌≤◌}
use native.Mathlib.Nat.{le_refl, add-zero}
use native.Mathlib.Omega.{arith}
use mir.Val.{bool_byte}
use lib.ListN.{length, set}
use lib.Seq.{get_or-set_same, get_or-set_other}
use lib.Ieee.{Float, lt}
use Rattle.kdsort.specs.Cols.{key}
use Rattle.kdsort.specs.laws.Scans.{up_none, down-none}
use Rattle.kdsort.specs.laws.Batches.{batch_entry, next_up, next_down, Ups, Downs, ups-past, ups-stop, downs-past, downs-stop}

pub ups-starts : (a : ℕ) (t : Float) (c : List Float) (from : ℕ) (xs : List ℕ) → 0 < length xs
    → Ups a t c from from (batch_entry (set xs 0 from)) 0
unfolding next_up
ups-starts a t c from xs l = record {
  scans = λ k h. rw (at-0 k h) (rw first (up_none a t c from));
  stops = λ k h. absurd (omega arith);
  over = λ k h. rw (at-0 k h) (rw first (le_refl from));
  under = λ k h. absurd (omega arith);
  last = first;
  few = omega arith;
} where
  first : batch_entry (set xs 0 from) 0 ≡ from
  first = get_or-set_same xs 0 from 0 l

  at-0 : (k : ℕ) → k ≤ 0 → k ≡ 0
  at-0 k h = omega arith

pub downs-starts : (a : ℕ) (t : Float) (c : List Float) (from : ℕ) (xs : List ℕ) → 0 < length xs
    → Downs a t c from from (batch_entry (set xs 0 from)) 0
unfolding next_down
downs-starts a t c from xs l = record {
  scans = λ k h. rw (at-0 k h) (rw first (down-none a t c from));
  stops = λ k h. absurd (omega arith);
  under = λ k h. rw (at-0 k h) (rw first (le_refl from));
  over = λ k h. absurd (omega arith);
  last = first;
  few = omega arith;
} where
  first : batch_entry (set xs 0 from) 0 ≡ from
  first = get_or-set_same xs 0 from 0 l

  at-0 : (k : ℕ) → k ≤ 0 → k ≡ 0
  at-0 k h = omega arith

-- the slot p, which a scan up has reached, after n stops
pub ups-more : (a : ℕ) (t : Float) (c : List Float) (from p n : ℕ) (xs : List ℕ) → Ups a t c from p (batch_entry xs) n → n + 1 < length xs
    → let r = n + bool_byte (not (lt (key a c p) t)) in Ups a t c from (p + 1) (batch_entry (set xs r (p + 1))) r
ups-more a t c from p n xs u l = go (lt (key a c p) t) refl where
  go : (b : Bool) → lt (key a c p) t ≡ b
      → Ups a t c from (p + 1) (batch_entry (set xs (n + bool_byte (not b)) (p + 1))) (n + bool_byte (not b))
  go true h =
      rw (add-zero n) (ups-past a t c from p n (batch_entry xs) (batch_entry (set xs n (p + 1))) u
      (λ k m. get_or-set_other xs n k (p + 1) 0 (λ q. omega arith)) (get_or-set_same xs n (p + 1) 0 (omega arith)) h)
  go false h =
      ups-stop a t c from p n (batch_entry xs) (batch_entry (set xs (n + 1) (p + 1))) u
      (λ k m. get_or-set_other xs (n + 1) k (p + 1) 0 (λ q. omega arith)) (get_or-set_same xs (n + 1) (p + 1) 0 l) h

pub downs-more : (a : ℕ) (t : Float) (c : List Float) (from p n : ℕ) (xs : List ℕ) → Downs a t c from p (batch_entry xs) n → 0 < p
    → n + 1 < length xs
    → let r = n + bool_byte (not (lt t (key a c p))) in Downs a t c from (p - 1) (batch_entry (set xs r (p - 1))) r
downs-more a t c from p n xs u z l = go (lt t (key a c p)) refl where
  go : (b : Bool) → lt t (key a c p) ≡ b
      → Downs a t c from (p - 1) (batch_entry (set xs (n + bool_byte (not b)) (p - 1))) (n + bool_byte (not b))
  go true h =
      rw (add-zero n) (downs-past a t c from p n (batch_entry xs) (batch_entry (set xs n (p - 1))) u z
      (λ k m. get_or-set_other xs n k (p - 1) 0 (λ q. omega arith)) (get_or-set_same xs n (p - 1) 0 (omega arith)) h)
  go false h =
      downs-stop a t c from p n (batch_entry xs) (batch_entry (set xs (n + 1) (p - 1))) u z
      (λ k m. get_or-set_other xs (n + 1) k (p - 1) 0 (λ q. omega arith)) (get_or-set_same xs (n + 1) (p - 1) 0 l) h
