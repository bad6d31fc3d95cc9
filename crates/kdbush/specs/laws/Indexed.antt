-- The index of points from 0 to 1 in columns that just hold it, for those who build tables of it, by kdbush's own names: a build of it is
-- not refused, what it leaves does not depend on what the columns held, and its searches keep the promises; a slot has the coordinates of
-- the point that it names; and around a point its own place is answered. Assumes nothing.
use Rattle.std.specs.Prelude.{◌≡◌, List, ℕ, ◌*◌, ◌<◌, ◌≤◌, T, get_or, Float}
use Rattle.std.proofs.Common.{◌∙◌, arith, le-leb}
use Rattle.std.proofs.Math.Path.{subst}
use Rattle.std.proofs.Math.ListN.{length, length-replicate}
use Rattle.std.specs.Float.Ieee.{nan}
use Rattle.std.specs.Float.Ieee.Scale.{finite}
use Rattle.floats.specs.laws.Unit.{In01, In01-not-nan, In01-finite}
use Rattle.kdsort.specs.Cols.{IndexCols, blank, key}
use Rattle.kdsort.specs.Tree.{Points, Index}
use Rattle.kdsort.specs.laws.Indexes.{indexed-same, indexed-ok}
use Rattle.kdslots.specs.declared.Query.TheVariants.{Within}
use Rattle.kdslots.specs.laws.Members.{In}
use Rattle.kdbush.specs.Reply.{built, index_of, found}
use Rattle.kdbush.specs.laws.Built.{AcceptedIndex, accepts, build-is-index}
use Rattle.kdbush.specs.laws.Promise.{Promised, promised, own-place}

-- each point lies from 0 to 1 on both axes
abbrev pub Inside : List Float → List Float → Type 0
Inside xs ys = (p : ℕ) → p < length xs → In01 (get_or xs p nan) × In01 (get_or ys p nan)

-- points of which an index can be built
pub record Indexable (size : ℕ) (xs ys : List Float) : Type 0 where
  pub size-from : 1 ≤ size
  pub size-to : size ≤ 65535
  pub some : 1 ≤ length xs
  pub most : length xs ≤ 1048576
  pub paired : length ys ≡ length xs
  pub inside : Inside xs ys

module _ (size : ℕ) (xs ys : List Float) (b : Indexable size xs ys) where
  taken : (s : IndexCols) → length xs ≤ length s.ids → 2 * length xs ≤ length s.co → AcceptedIndex size xs ys s
  taken s h k =
      record {
        size-from = b.size-from;
        size-to = b.size-to;
        some = b.some;
        most = b.most;
        paired = b.paired;
        inside = b.inside;
        ids-room = h;
        co-room = k;
      }

  -- columns that have just room for it hold the index, whatever they held
  pub built-is : (s : IndexCols) → length s.ids ≡ length xs → length s.co ≡ 2 * length xs → built size xs ys s ≡ index_of size xs ys
  unfolding index_of
  built-is s h k =
      let e = accepts size xs ys s (taken s (omega (arith, h)) (omega (arith, k))) in
      let a = length-replicate {A = ℕ} (length xs) 0 in
      let c = length-replicate (2 * length xs) nan in
      rw e (indexed-same xs ys s (blank (length xs)) h a k c size)

  index_is : Index size xs ys (blank (length xs)) (index_of size xs ys)
  unfolding index_of
  index_is =
      let a = length-replicate {A = ℕ} (length xs) 0 in
      let c = length-replicate (2 * length xs) nan in
      let none = blank (length xs) in
      subst (Index size xs ys none) (built-is none a c)
      (build-is-index size xs ys none (accepts size xs ys none (taken none (omega (arith, a)) (omega (arith, c)))))

  pub index-ids : length (index_of size xs ys).ids ≡ length xs
  index-ids = index_is.ids-long ∙ length-replicate {A = ℕ} (length xs) 0

  pub index-co : length (index_of size xs ys).co ≡ 2 * length xs
  index-co = index_is.co-long ∙ length-replicate (2 * length xs) nan

  pub index-promised : Promised size (length xs) (index_of size xs ys).ids (index_of size xs ys).co
  index-promised =
      let n = length xs in
      promised size xs ys (blank n) (index_of size xs ys) index_is
      (rw (
        le-leb 1 size b.size-from,
        le-leb size 65535 b.size-to,
        le-leb 1 n b.some,
        le-leb n 1048576 b.most,
        le-leb (2 * n) (length (index_of size xs ys).co) (omega (arith, index-co)),
      ))
      (omega (arith, index-ids))

-- ---- whatever its size is, and however many points there are

module _ (size : ℕ) (xs ys : List Float) (n1 : 1 ≤ size) (some : 1 ≤ length xs) (inside : Inside xs ys) where
  pub index-of : Index size xs ys (blank (length xs)) (index_of size xs ys)
  unfolding index_of Points
  index-of =
      let a = length-replicate {A = ℕ} (length xs) 0 in
      let c = length-replicate (2 * length xs) nan in
      indexed-ok xs ys (blank (length xs)) size n1 some (omega (arith, a)) (omega (arith, c)) points
    where
      points : Points xs ys
      points p h = let w = inside p h in (In01-not-nan (get_or xs p nan) w.0, In01-not-nan (get_or ys p nan) w.1)

  -- the slot s names a point, and has its coordinates
  pub slot-names : (s : ℕ) → s < length xs → get_or (index_of size xs ys).ids s 0 < length xs
  slot-names s h = index-of.id-in s h

  pub slot-x : (s : ℕ) → s < length xs → key 0 (index_of size xs ys).co s ≡ get_or xs (get_or (index_of size xs ys).ids s 0) nan
  slot-x s h = index-of.x-of s h

  pub slot-y : (s : ℕ) → s < length xs → key 1 (index_of size xs ys).co s ≡ get_or ys (get_or (index_of size xs ys).ids s 0) nan
  slot-y s h = index-of.y_of s h

  -- around the point p its own place is answered
  pub own-found : (r : Float) → T (finite r) → (p : ℕ) → p < length xs
      → In p (found (Within (get_or xs p nan) (get_or ys p nan) r) size (length xs) (index_of size xs ys).ids (index_of size xs ys).co)
  own-found r fr p h =
      let w = inside p h in
      own-place size xs ys (blank (length xs)) (index_of size xs ys) index-of p h r
      (In01-finite (get_or xs p nan) w.0) (In01-finite (get_or ys p nan) w.1) fr
