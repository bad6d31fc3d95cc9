-- A build that is not refused leaves an index of its points: each slot holds one point and each point has one slot, in the order of the
-- tree, and what lies past them is as it was. Every coordinate in it is from 0 to 1. Assumes nothing.
use Rattle.std.specs.Prelude.{◌≡◌, refl, Bool, true, false, ◌&&◌, List, [], ◌∷◌, ℕ, zero, suc, ◌*◌, ◌≤◌, ◌<◌, eqb, get_or, Float, Option, Some, None, Ok}
use Rattle.std.proofs.Common.{sym, subst, arith}
use borrow.Author.Tests.{leb-true, eqb-true, le-leb, eq-eqb}
use Rattle.std.proofs.Math.Dec.{leb}
use Rattle.std.proofs.Math.ListN.{length}
use Rattle.std.specs.Float.{nan}
use Rattle.floats.specs.laws.Fraction.{yes_of, is_true}
use Rattle.floats.specs.laws.Unit.{In01, in01→In01, In01→in01, In01-not-nan}
use Rattle.floats.specs.Unit.{in01}
use Rattle.kdsort.specs.Cols.{IndexCols}
use Rattle.kdsort.specs.Sort.{indexed}
use Rattle.kdsort.specs.Tree.{Points, Index}
use Rattle.kdsort.specs.laws.Indexes.{indexed-ok}
use Rattle.kdslots.specs.Bounds.{node_size_ok, count_ok}
use Rattle.kdslots.specs.laws.Bounds.{and_both, size_is, count-is}
use Rattle.kdbush.specs.Reply.{pair_ok, first_outside, in_order, index_checked, built}

-- what an accepted build was given
pub record AcceptedIndex (size : ℕ) (xs ys : List Float) (s : IndexCols) : Type 0 where
  pub size-from : 1 ≤ size
  pub size-to : size ≤ 65535
  pub some : 1 ≤ length xs
  pub most : length xs ≤ 1048576
  pub paired : length ys ≡ length xs
  pub inside : (p : ℕ) → p < length xs → In01 (get_or xs p nan) × In01 (get_or ys p nan)
  pub ids-room : length xs ≤ length s.ids
  pub co-room : 2 * length xs ≤ length s.co

-- where no point is outside, each is inside
pub none-outside : (xs ys : List Float) (i : ℕ) → first_outside xs ys i ≡ None → length ys ≡ length xs → (p : ℕ) → p < length xs
    → In01 (get_or xs p nan) × In01 (get_or ys p nan)
unfolding first_outside
none-outside [] ys i e l p h = absurd (omega arith)
none-outside (x ∷ xs) [] i e l p h = absurd (omega arith)
none-outside (x ∷ xs) (y ∷ ys) i e l p h = go (in01 x && in01 y) refl p h (λ f k q. none-outside xs ys (suc i) f (omega arith) k q)
  where
    go : (b : Bool) → (in01 x && in01 y) ≡ b → (p : ℕ) → p < suc (length xs)
        → (first_outside xs ys (suc i) ≡ None → (k : ℕ) → k < length xs → In01 (get_or xs k nan) × In01 (get_or ys k nan))
        → In01 (get_or (x ∷ xs) p nan) × In01 (get_or (y ∷ ys) p nan)
    go true f zero h r = let w = and_both (in01 x) (in01 y) f in (in01→In01 x (yes_of w.0), in01→In01 y (yes_of w.1))
    go true f (suc k) h r = r (rw (f, first_outside) at e) k (omega arith)
    go false f p h r = let g : Some i ≡ None = rw (f, first_outside) at e in absurd (let z : ◌≡◌ {A = ℕ} 0 1 = cc in omega arith)

-- a reply of `Ok` passed every test
pub done-tests : (a b : Bool) (o : Option ℕ) (c : Bool) → in_order a b o c ≡ Ok tt → (a ≡ true) × (b ≡ true) × (o ≡ None) × (c ≡ true)
done-tests true true None true e = (refl, refl, refl, refl)
done-tests true true None false e = absurd (let z : ◌≡◌ {A = ℕ} 0 1 = cc in omega arith)
done-tests true true (Some i) c e = absurd (let z : ◌≡◌ {A = ℕ} 0 1 = cc in omega arith)
done-tests true false o c e = absurd (let z : ◌≡◌ {A = ℕ} 0 1 = cc in omega arith)
done-tests false b o c e = absurd (let z : ◌≡◌ {A = ℕ} 0 1 = cc in omega arith)

module _ (size : ℕ) (xs ys : List Float) (s : IndexCols) (e : index_checked size xs ys s ≡ Ok tt) where
  pub accepted : AcceptedIndex size xs ys s
  unfolding index_checked
  accepted =
      let w = done-tests (node_size_ok size) (pair_ok xs ys) (first_outside xs ys 0)
      (leb (length xs) (length s.ids) && leb (2 * length xs) (length s.co)) e in
      let n = size_is size w.0 in
      let v = and_both (count_ok (length xs)) (eqb (length ys) (length xs)) w.1 in
      let c = count-is (length xs) v.0 in
      let l = eqb-true (length ys) (length xs) v.1 in
      let r = and_both (leb (length xs) (length s.ids)) (leb (2 * length xs) (length s.co)) w.3 in
      record {
        size-from = n.0;
        size-to = n.1;
        some = c.0;
        most = c.1;
        paired = l;
        inside = none-outside xs ys 0 w.2 l;
        ids-room = leb-true (length xs) (length s.ids) r.0;
        co-room = leb-true (2 * length xs) (length s.co) r.1;
      }

  points : Points xs ys
  unfolding Points
  points p h = let w = accepted.inside p h in (In01-not-nan (get_or xs p nan) w.0, In01-not-nan (get_or ys p nan) w.1)

  built-is : built size xs ys s ≡ indexed size xs ys s
  built-is = rw e

  -- the columns that it leaves are an index of the points
  pub build-is-index : Index size xs ys s (built size xs ys s)
  build-is-index =
      let A = accepted in
      subst (Index size xs ys s) (sym built-is) (indexed-ok xs ys s size A.size-from A.some A.ids-room A.co-room points)

-- ---- and such points, a node size and columns as SCOPE asks are accepted

no-outside : (xs ys : List Float) (i : ℕ) → length ys ≡ length xs → ((p : ℕ) → p < length xs → In01 (get_or xs p nan) × In01 (get_or ys p nan))
    → first_outside xs ys i ≡ None
unfolding first_outside
no-outside [] ys i l f = refl
no-outside (x ∷ xs) [] i l f = refl
no-outside (x ∷ xs) (y ∷ ys) i l f =
    let w = f 0 (omega arith) in
    rw (is_true (in01 x) (In01→in01 x w.0), is_true (in01 y) (In01→in01 y w.1), first_outside)
    (no-outside xs ys (suc i) (omega arith) (λ p h. f (suc p) (omega arith)))

pub accepts : (size : ℕ) (xs ys : List Float) (s : IndexCols) → AcceptedIndex size xs ys s → index_checked size xs ys s ≡ Ok tt
unfolding index_checked
accepts size xs ys s A =
    rw (
      le-leb 1 size A.size-from,
      le-leb size 65535 A.size-to,
      le-leb 1 (length xs) A.some,
      le-leb (length xs) 1048576 A.most,
      eq-eqb (length ys) (length xs) A.paired,
      no-outside xs ys 0 A.paired A.inside,
      le-leb (length xs) (length s.ids) A.ids-room,
      le-leb (2 * length xs) (length s.co) A.co-room,
    )
