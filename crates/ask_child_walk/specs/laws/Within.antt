-- The walk over the ring around an entry goes over `within`'s whole answer, at any place: where the place is no finite number no entry
-- passes the distance test, so that `within` answers nothing, and the cursor, which refuses such a search, goes over the same slots. Of any
-- columns and any place reached. Assumes nothing.
use Rattle.std.specs.Prelude.{Bool, true, false, ◌&&◌, ◌≡◌, refl, List, [], ◌∷◌, ℕ, ◌-◌, ◌*◌, ◌^◌, ◌≤◌, T, length}
use Rattle.std.proofs.Common.{sym, ap, subst, le_of_eq, le_trans, arith, le-leb}
use Rattle.std.specs.Float.Ieee.{Float, binary64, le, fits, round, neg, add, sub, mul, div}
use Rattle.std.specs.Float.{nan, inf, fin, Format}
use Rattle.std.specs.Float.Ieee.Scale.{finite}
use Rattle.floats.specs.Numbers.{zero, one, pow16, float}
use Rattle.floats.specs.laws.Fraction.{is_true, yes_of}
use Rattle.floats.specs.laws.Order.{le-le-trans, between-finite}
use Rattle.floats.specs.laws.Monotone.{mul-mono-both, div_mono}
use Rattle.floats.specs.laws.Infinities.{square-nonneg}
use Rattle.floats.specs.Distance.{sq_dist}
use Rattle.floats.specs.laws.Radius.{scale-positive, radius-bounds}
use Rattle.kdsort.specs.Cols.{key}
use Rattle.kdslots.specs.declared.Query.{Query}
use Rattle.kdslots.specs.declared.Query.TheVariants.{Within}
use Rattle.kdslots.specs.Slots.{answers}
use Rattle.kdslots.specs.laws.Members.{In}
use Rattle.kdslots.specs.laws.Sound.{answers-sound}
use Rattle.kdslots.specs.laws.Bounds.{both_true}
use Rattle.kdslots.specs.Bounds.{coords_ok}
use Rattle.kdbush.specs.Run.{places}
use Rattle.kdwalk.specs.Reply.{walk}
use Rattle.build_tables.specs.declared.State.{State}
use Rattle.build_tables.specs.State.{len_of}
use Rattle.build_tables.specs.laws.Sound.{Stands, given}
use Rattle.build_tables.specs.Entries.{entry}
use Rattle.build_tables.specs.Radius.{radius_at}
use Rattle.build_tables.specs.laws.Radius.{radius-fine}
use Rattle.build_tables.specs.Room.{Columns, room_of}
use Rattle.ask_base.specs.Columns.{table_at, ids_at, coords_at}
use Rattle.ask_base.specs.laws.Columns.{coords-length, stands-index}
use Rattle.ask_base.specs.laws.Reached.{Reached, reached-stands, near}
use Rattle.ask_base.specs.laws.Around.{ring_at, slots_of}
use Rattle.ask_child_walk.specs.Kids.{query_around, places_around}

-- ---- a sum of squares that is not above a finite number has finite parts

added-inf : (f : Format) (y v : Float) → T (finite v) → T (le (add f (inf false) y) v) → ⊥
unfolding le add
added-inf f y nan p h = absurd p
added-inf f y (inf t) p h = absurd p
added-inf f nan (fin t n d) p h = h
added-inf f (inf true) (fin t n d) p h = h
added-inf f (inf false) (fin t n d) p h = h
added-inf f (fin s m e) (fin t n d) p h = h

inf-added : (f : Format) (x v : Float) → T (finite v) → T (le (add f x (inf false)) v) → ⊥
unfolding le add
inf-added f x nan p h = absurd p
inf-added f x (inf t) p h = absurd p
inf-added f nan (fin t n d) p h = h
inf-added f (inf true) (fin t n d) p h = h
inf-added f (inf false) (fin t n d) p h = h
inf-added f (fin s m e) (fin t n d) p h = h

nan-added : (f : Format) (x v : Float) → T (le (add f x nan) v) → ⊥
unfolding le add
nan-added f nan v h = h
nan-added f (inf s) v h = h
nan-added f (fin s m e) v h = h

left-finite : (f : Format) (x z v : Float) → T (finite v) → T (le (add f (mul f x x) z) v) → T (finite x)
left-finite f nan z v p h = absurd (unfold le add mul in h)
left-finite f (inf true) z v p h = absurd (added-inf f z v p (unfold mul in h))
left-finite f (inf false) z v p h = absurd (added-inf f z v p (unfold mul in h))
left-finite f (fin s m e) z v p h = tt

right-finite : (f : Format) (z y v : Float) → T (finite v) → T (le (add f z (mul f y y)) v) → T (finite y)
right-finite f z nan v p h = absurd (nan-added f z v (unfold mul in h))
right-finite f z (inf true) v p h = absurd (inf-added f z v p (unfold mul in h))
right-finite f z (inf false) v p h = absurd (inf-added f z v p (unfold mul in h))
right-finite f z (fin s m e) v p h = tt

-- what is taken off to give a finite number is one
taken-finite : (f : Format) (x y : Float) → T (finite (sub f x y)) → T (finite y)
unfolding sub neg add
taken-finite f nan y h = absurd h
taken-finite f (inf s) nan h = absurd h
taken-finite f (inf true) (inf true) h = absurd h
taken-finite f (inf true) (inf false) h = absurd h
taken-finite f (inf false) (inf true) h = absurd h
taken-finite f (inf false) (inf false) h = absurd h
taken-finite f (fin s m e) nan h = absurd h
taken-finite f (fin s m e) (inf t) h = absurd h
taken-finite f (inf s) (fin t n d) h = tt
taken-finite f (fin s m e) (fin t n d) h = tt

-- so the middle of a circle that a point, of any numbers, is in has finite coordinates
pub middle-finite : (ax ay bx by v : Float) → T (finite v) → T (le (sq_dist ax ay bx by) v) → T (finite bx) × T (finite by)
middle-finite ax ay bx by v p h =
    let dx = sub binary64 ax bx in
    let dy = sub binary64 ay by in
    let x = left-finite binary64 dx (mul binary64 dy dy) v p h in
    let y = right-finite binary64 (mul binary64 dx dx) dy v p h in
    (taken-finite binary64 ax bx x, taken-finite binary64 ay by y)

-- ---- the cursor goes over all that `within` answers

none : (l : List ℕ) → ((i : ℕ) → In i l → ⊥) → l ≡ []
none [] h = refl
none (k ∷ ks) h = absurd (h k ([], ks, refl))

pub walk-within : (x y r : Float) (size n : ℕ) (co : List Float) → coords_ok size n (length co) ≡ true → T (finite r) → T (le zero r)
    → T (finite (mul binary64 r r)) → walk (Within x y r) size n co ≡ answers (Within x y r) co size n
walk-within x y r size n co ok fr nr sq = go (finite x && finite y) refl
  where
    q : Query
    q = Within x y r

    go : (b : Bool) → (finite x && finite y) ≡ b → walk q size n co ≡ answers q co size n
    go true e = rw (ok, e, is_true (finite r) fr, is_true (le zero r) nr)
    go false e =
        let l : answers q co size n ≡ [] = none (answers q co size n) no in
        rw (ok, e) (sym l)
      where
        no : (i : ℕ) → In i (answers q co size n) → ⊥
        no i m =
            let w = answers-sound q co size n i m in
            let f = middle-finite (key 0 co i) (key 1 co i) x y (mul binary64 r r) sq (yes_of w.1) in
            let g : (finite x && finite y) ≡ true = both_true (is_true (finite x) f.0) (is_true (finite y) f.1) in
            subst T e (yes_of g)

-- ---- the radius of a zoom, and its square

radius-most : (radius extent : Float) (z : ℕ) → z ≤ 31 → T (le zero radius) → T (le radius pow16) → T (le one extent)
    → T (le extent pow16) → T (le (radius_at radius extent z) pow16)
unfolding radius_at fits le
radius-most radius extent z Z a b lo hi =
    let d : Float = mul binary64 extent (float (2 ^ z)) in
    let f : T (finite radius) = between-finite zero radius pow16 tt tt a b in
    let up : T (le (div binary64 radius d) (div binary64 pow16 d)) =
    div_mono binary64 radius pow16 d f tt (scale-positive extent z Z lo hi).0 b in
    le-le-trans (div binary64 radius d) (div binary64 pow16 d) pow16 up (radius-bounds pow16 extent z Z tt tt tt lo hi).1

square-fine : (r : Float) → T (finite r) → T (le zero r) → T (le r pow16) → T (finite (mul binary64 r r))
square-fine r f a b =
    let top : T (le (mul binary64 r r) (mul binary64 pow16 pow16)) =
    mul-mono-both binary64 r pow16 r pow16 f tt f tt (unfold le in tt) a b b in
    between-finite zero (mul binary64 r r) (mul binary64 pow16 pow16) tt (unfold mul round in tt) (square-nonneg binary64 r f) top

-- ---- around an entry

-- the slots of the ring around the entry o of zoom z's table
abbrev pub slots_around : State → Columns → ℕ → ℕ → List ℕ
slots_around s c z o = slots_of (ring_at s c z o)

-- in columns that have room for the state's tables
module _ (s : State) (c : Columns) (cap z o : ℕ) (r : Reached s cap z o) (h : cap ≤ room_of c) where
  stands : Stands s (room_of c) z
  stands = let k = reached-stands r in record { ends = le_trans k.ends h; some = k.some; most = k.most }

  coords-fine : coords_ok s.options.node_size (len_of s z) (length (coords_at s c.coords z)) ≡ true
  coords-fine =
      let n = near r in
      let l : length (coords_at s c.coords z) ≡ 2 * len_of s z = coords-length s c.ids c.coords z (stands-index s c z stands) in
      let a = both_true (le-leb _ _ n.size-from) (le-leb _ _ n.size-to) in
      let b = both_true (le-leb _ _ n.least) (le-leb _ _ n.most) in
      both_true (both_true a b) (le-leb _ _ (le_of_eq (sym l)))

  -- the slots around it are all that `within` answers there
  pub around-within : slots_around s c z o
      ≡ answers (query_around s c z o) (coords_at s c.coords z) s.options.node_size (len_of s z)
  unfolding slots_of
  around-within =
      let p = s.options in
      let b = (given s cap r.good).bounds in
      let e = entry (table_at s c z) o in
      let R : Float = radius_at p.radius p.extent (z - 1) in
      let Z : z - 1 ≤ 31 = omega (arith, (near r).table) in
      let f = radius-fine p.radius p.extent (z - 1) Z b.radius-from b.radius-to b.extent-from b.extent-to in
      let m = radius-most p.radius p.extent (z - 1) Z b.radius-from b.radius-to b.extent-from b.extent-to in
      walk-within e.x e.y R p.node_size (len_of s z) (coords_at s c.coords z) coords-fine f.0 f.1
      (square-fine R f.0 f.1 m)

  -- so the places that they name are those of the definition
  pub around-places : places (ids_at s c.ids z) (slots_around s c z o) ≡ places_around s c z o
  around-places = ap (places (ids_at s c.ids z)) around-within
