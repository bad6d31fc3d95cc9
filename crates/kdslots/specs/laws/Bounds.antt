-- What the tests of a node size, a count and an index say, as numbers, and what a test of two says of each. Assumes nothing.
use Rattle.std.specs.Prelude.{◌≡◌, refl, Bool, true, false, cond, ◌&&◌, ℕ, ◌*◌, ◌≤◌, leb}
use Rattle.std.proofs.Common.{sym, true≢false, leb-true}
use Rattle.kdslots.specs.Bounds.{node_size_ok, count_ok, coords_ok}

-- ---- tests

pub yes : {A : Type 0} (b : Bool) (x y : A) → b ≡ true → cond b x y ≡ x
yes b x y e = rw e

pub no : {A : Type 0} (b : Bool) (x y : A) → b ≡ false → cond b x y ≡ y
no b x y e = rw e

pub first-false : {a : Bool} (b : Bool) → a ≡ false → (a && b) ≡ false
first-false b e = rw e

pub second-false : {a b : Bool} → a ≡ true → b ≡ false → (a && b) ≡ false
second-false e f = rw (e, f)

pub both_true : {a b : Bool} → a ≡ true → b ≡ true → (a && b) ≡ true
both_true e f = rw (e, f)

pub and_both : (a b : Bool) → (a && b) ≡ true → (a ≡ true) × (b ≡ true)
and_both true b e = (refl, e)
and_both false b e = absurd (true≢false (sym e))

-- ---- as numbers

pub size_is : (size : ℕ) → node_size_ok size ≡ true → (1 ≤ size) × (size ≤ 65535)
size_is size e = let w = and_both (leb 1 size) (leb size 65535) e in (leb-true 1 size w.0, leb-true size 65535 w.1)

pub count-is : (n : ℕ) → count_ok n ≡ true → (1 ≤ n) × (n ≤ 1048576)
count-is n e = let w = and_both (leb 1 n) (leb n 1048576) e in (leb-true 1 n w.0, leb-true n 1048576 w.1)

-- an index whose coordinates may be searched
pub record Searchable (size n co : ℕ) : Type 0 where
  pub size-from : 1 ≤ size
  pub size-to : size ≤ 65535
  pub n-from : 1 ≤ n
  pub n-to : n ≤ 1048576
  pub pairs : 2 * n ≤ co

pub coords-is : (size n co : ℕ) → coords_ok size n co ≡ true → Searchable size n co
coords-is size n co e =
    let w = and_both (node_size_ok size && count_ok n) (leb (2 * n) co) e in
    let v = and_both (node_size_ok size) (count_ok n) w.0 in
    let s = size_is size v.0 in
    let c = count-is n v.1 in
    record { size-from = s.0; size-to = s.1; n-from = c.0; n-to = c.1; pairs = leb-true (2 * n) co w.1 }
