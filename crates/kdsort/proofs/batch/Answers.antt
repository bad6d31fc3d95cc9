-- `kdsort::batch` meets its contract: the stops that are written down are those of the next passes, so that their exchanges are theirs.
-- Assumes nothing.
use mathlib.Core.Path.{◌≡◌}
use mathlib.Core.List.{List}
use Prim.Native.Nat.{ℕ, ◌+◌, ◌-◌, ◌/◌, ◌<◌, ◌≤◌}
use native.Mathlib.Omega.{arith}
use lib.ListN.{length}
use lib.Ieee.{Float}
use Rattle.kdsort.specs.Cols.{IndexCols}
use Rattle.kdsort.specs.Lent.{index_held_mut}
use Rattle.kdsort.specs.laws.Batches.{batch_entry, Ups, Downs, nearer-cols, batch-nearer}
use Rattle.kdsort.proofs.batch.Goals as goal

-- what is known before the exchanges: xs and ys are the two lists, m and n their numbers of stops among `len` slots each
record Known (i j len m n count : ℕ) (a : ℕ) (t : Float) (s : IndexCols) (xs ys : List ℕ) : Type 0 where
  up : Ups a t s.co i (i + len) (batch_entry xs) m
  down : Downs a t s.co j (j - len) (batch_entry ys) n
  apart : i + len ≤ j - len
  to-m : count ≤ m
  to-n : count ≤ n
  xs-long : count ≤ length xs
  ys-long : count ≤ length ys
  few : count < 65

known : (i j len m n count a : ℕ) (t : Float) (s : IndexCols) (xs ys : List ℕ) → i + 32 ≤ j → (len ≤ 64) × (len ≤ (j - i) / 2)
    → Ups a t s.co i (i + len) (batch_entry xs) m → Downs a t s.co j (j - len) (batch_entry ys) n → length xs ≡ 65 → length ys ≡ 65
    → (count ≤ m) × (count ≤ n) → Known i j len m n count a t s xs ys
known i j len m n count a t s xs ys far half u d xs-is ys-is least =
    let few-u : m + i ≤ i + len = u.few in
    let few-d : n + (j - len) ≤ j = d.few in
    record {
      up = u;
      down = d;
      apart = omega arith;
      to-m = least.0;
      to-n = least.1;
      xs-long = omega arith;
      ys-long = omega arith;
      few = omega arith;
    }

pub returns-clause-slots : goal.returns-clause-slots
returns-clause-slots c =
    let a = c.args in
    let s = index_held_mut a.index.now in
    let len = c.min-len.result in
    let count = c.min-count.result in
    let half : (len ≤ 64) × (len ≤ (a.j - a.i) / 2) = (omega arith, omega arith) in
    let least : (count ≤ c.stops_up-m.result) × (count ≤ c.stops_down-n.result) = (omega arith, omega arith) in
    let h = known a.i a.j len c.stops_up-m.result c.stops_down-n.result count a.axis a.t s c.stops_up-m.new.found c.stops_down-n.new.found
    c.if-j-i.false half c.stops_up-m.ensures c.stops_down-n.ensures c.stops_up-m.auto.found c.stops_down-n.auto.found least in
    nearer-cols _ _ _ _ _ _ _ _ _ c.exchange.ensures
    (batch-nearer a.axis a.t s a.i a.j _ _ _ _ _ _ h.up h.down h.apart count h.to-m h.to-n c.requires.3 c.requires.2)
