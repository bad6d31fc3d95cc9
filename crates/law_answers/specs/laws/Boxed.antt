-- Of a build that is accepted, in columns that hold it, what a box and a ring answer: a Cartesian box lists exactly the entries between
-- its normalised corners, each once; so does a box of longitudes between the edges after the rule, and each half of one that is split. A
-- ring lists exactly the entries that pass the distance test, each once. Nothing is asked but that the numbers of the question are taken
-- (any other is refusal 9), and neither is ever refused 11. Assumes nothing.
use Rattle.std.specs.Prelude.{◌≡◌, refl, Bool, true, false, cond, ◌&&◌, List, ◌++◌, ℕ, zero, suc, ◌+◌, ◌<◌, ◌≤◌, T, eqb, leb, get_or, Float, Ok, Err}
use Rattle.std.proofs.Common.{ap, ap₂, sym, ◌∙◌, subst, arith, le_refl, leb-true, le-leb}
use Rattle.std.proofs.Math.ListN.{length, length-map, get_or-map}
use Rattle.std.specs.Float.{nan, binary64}
use Rattle.std.specs.Float.Ieee.{mul, neg, le}
use Rattle.floats.specs.Distance.{sq_dist}
use Rattle.floats.specs.laws.Fraction.{is_true, yes_of}
use Rattle.floats.specs.laws.Unit.{In01}
use Rattle.range.specs.declared.CoordinateSystem.{CoordinateSystem}
use Rattle.range.specs.declared.CoordinateSystem.TheVariants.{LatLng, Cartesian}
use Rattle.range.specs.declared.DataRange.{DataRange}
use Rattle.range.specs.Range.{normalized, mercator_x, converted}
use Rattle.kdsort.specs.Cols.{index_cols}
use Rattle.kdsort.specs.Cols.{blank}
use Rattle.kdsort.specs.Tree.{Index}
use Rattle.kdslots.specs.declared.Query.{Query}
use Rattle.kdslots.specs.declared.Query.TheVariants.{Range, Within}
use Rattle.kdslots.specs.laws.Bounds.{and_both}
use Rattle.kdslots.specs.Bounds.{count_ok}
use Rattle.kdslots.specs.laws.Members.{In, Distinct}
use Rattle.kdslots.specs.Query.{passes_q, query_ok}
use Rattle.build_tables.specs.declared.Entry.{Entry}
use Rattle.build_tables.specs.declared.State.{State}
use Rattle.build_tables.specs.laws.Bounds.{options-are}
use Rattle.build_tables.specs.Entries.{Table, entry, none, xs_of, ys_of}
use Rattle.build_tables.specs.Options.{options_ok, table_count, zoom_used}
use Rattle.build_tables.specs.Sound.{table_ok, packed, state_ok}
use Rattle.build_tables.specs.laws.Sound.{used-between}
use Rattle.build_tables.specs.State.{len_of}
use Rattle.refusals.specs.declared.Refusal.TheVariants.{NoRoom, Box, Spoiled}
use Rattle.refusals.specs.Refusals.{number}
use Rattle.ask_base.specs.Answers.{fitted}
use Rattle.ask_base.specs.Asked.{Asked, refused, told, answer_of}
use Rattle.build_tables.specs.Room.{index_room, room_of}
use Rattle.build_tables.specs.laws.Roomy.{room-index}
use Rattle.ask_base.specs.Columns.{ids_at, coords_at}
use Rattle.ask_box.specs.laws.Inside.{Indexed, Passes, Exactly, cartesian-box, longitude-box, split-box, ring-exactly}
use Rattle.ask_box.specs.Lists.{box_asked, ring_asked}
use Rattle.ask_box_plan.specs.Rule.{half_circle, new_west, new_east, splits, box_ok}
use Rattle.build_all_zooms.specs.Zooms.{index_of_table}
use Rattle.build_all_zooms.specs.laws.Running.{table-inside}
use Rattle.supercluster.specs.Build.{BuildColumns, need}
use Rattle.supercluster.specs.laws.Load.{Holds}
use Rattle.law_builds.specs.Given.{Given, AcceptedBuild, points, min_z, max_z}
use Rattle.law_builds.specs.Came.{table_of_zoom as built}
use Rattle.kdbush.specs.laws.Indexed.{index-of}
use Rattle.law_builds.specs.RightAt.{right-at}
use Rattle.law_answers.specs.laws.Stored.{state_by, columns_by, long-is, state-sound, ids-are, coords-are}

-- ---- a state that is sound over some room is sound over more

packed_more : (s : State) (a b : ℕ) → a ≤ b → (k at : ℕ) → packed s a k at ≡ true → packed s b k at ≡ true
unfolding packed
packed_more s a b h zero at e = le-leb at b (omega (arith, leb-true at a e))
packed_more s a b h (suc k) at e =
    let z = s.options.min_zoom + k in
    let w = and_both (table_ok s z at) (packed s a k (at + len_of s z)) e in
    rw (w.0, packed_more s a b h k (at + len_of s z) w.1)

pub sound_more : (s : State) (a b : ℕ) → state_ok s a ≡ true → a ≤ b → state_ok s b ≡ true
unfolding state_ok
sound_more s a b e h =
    let first = options_ok s.options && count_ok s.count && eqb (len_of s (s.options.max_zoom + 1)) s.count in
    let w = and_both first (packed s a (table_count s.options) 0) e in
    rw (w.0, packed_more s a b h (table_count s.options) 0 w.1)

-- ---- what is said of an entry and of a list of places, over a table

-- the entry lies between the edges: min <= coordinate <= max on both axes
pub record Lies (west least east greatest : Float) (a : Entry) : Type 0 where
  pub from-west : T (le west a.x)
  pub to-east : T (le a.x east)
  pub from-least : T (le least a.y)
  pub to-greatest : T (le a.y greatest)

-- the list has each entry of the table that lies between the edges, once, and no other; and each of them has x and y in [0,1]
pub record Boxes (west least east greatest : Float) (t : Table) (l : List ℕ) : Type 0 where
  pub inside : (p : ℕ) → In p l → (p < length t) × Lies west least east greatest (entry t p)
  pub every : (p : ℕ) → p < length t → Lies west least east greatest (entry t p) → In p l
  pub single : Distinct l
  pub unit : (p : ℕ) → In p l → In01 (entry t p).x × In01 (entry t p).y

-- the entry passes the distance test: the rounded squared distance is at most radius * radius
abbrev pub NearBox : Float → Float → Float → Entry → Type 0
NearBox x y r a = T (le (sq_dist a.x a.y x y) (mul binary64 r r))

-- the list has each entry of the table that passes the distance test, once, and no other; and each of them has x and y in [0,1]
pub record Rings (x y r : Float) (t : Table) (l : List ℕ) : Type 0 where
  pub inside : (p : ℕ) → In p l → (p < length t) × NearBox x y r (entry t p)
  pub every : (p : ℕ) → p < length t → NearBox x y r (entry t p) → In p l
  pub single : Distinct l
  pub unit : (p : ℕ) → In p l → In01 (entry t p).x × In01 (entry t p).y

-- ---- from the coordinates of a table to its entries

module _ (t : Table) (p : ℕ) where
  x-at : get_or (xs_of t) p nan ≡ (entry t p).x
  x-at = get_or-map (λ e. e.x) t p none

  y-at : get_or (ys_of t) p nan ≡ (entry t p).y
  y-at = get_or-map (λ e. e.y) t p none

  unit-at : In01 (get_or (xs_of t) p nan) × In01 (get_or (ys_of t) p nan) → In01 (entry t p).x × In01 (entry t p).y
  unit-at u = (subst (λ (v : Float). In01 v) x-at u.0, subst (λ (v : Float). In01 v) y-at u.1)

  -- what passes the test of a query passes it by the entry's own numbers
  passes_at : (q : Query) → Passes q (xs_of t) (ys_of t) p → passes_q q (entry t p).x (entry t p).y ≡ true
  passes_at q e = sym (ap₂ (passes_q q) x-at y-at) ∙ e

  at-passes : (q : Query) → passes_q q (entry t p).x (entry t p).y ≡ true → Passes q (xs_of t) (ys_of t) p
  at-passes q e = ap₂ (passes_q q) x-at y-at ∙ e

module _ (west least east greatest : Float) (a : Entry) where
  pub lies : passes_q (Range west least east greatest) a.x a.y ≡ true → Lies west least east greatest a
  lies h =
      let A = le west a.x in
      let B = le a.x east in
      let C = le least a.y in
      let i = and_both (A && B && C) (le a.y greatest) h in
      let j = and_both (A && B) C i.0 in
      let k = and_both A B j.0 in
      record { from-west = yes_of k.0; to-east = yes_of k.1; from-least = yes_of j.1; to-greatest = yes_of i.1 }

  lies-passes : Lies west least east greatest a → passes_q (Range west least east greatest) a.x a.y ≡ true
  lies-passes l =
      rw (
        is_true (le west a.x) l.from-west,
        is_true (le a.x east) l.to-east,
        is_true (le least a.y) l.from-least,
        is_true (le a.y greatest) l.to-greatest,
      )

pub boxes-of : (west least east greatest : Float) (t : Table) (m : ℕ) (l : List ℕ) → m ≡ length t
    → Exactly (Range west least east greatest) m (xs_of t) (ys_of t) l → Boxes west least east greatest t l
boxes-of west least east greatest t m l h x =
    let r = Range west least east greatest in
    record {
      inside = λ p i.
          let q = x.inside p i in
          (omega (arith, q.0, h), lies west least east greatest (entry t p) (passes_at t p r q.1));
      every = λ p k i.
          x.every p (omega (arith, k, h)) (at-passes t p r (lies-passes west least east greatest (entry t p) i));
      single = x.single;
      unit = λ p i. unit-at t p (x.unit p i);
    }

rings-of : (x y r : Float) (t : Table) (m : ℕ) (l : List ℕ) → m ≡ length t → Exactly (Within x y r) m (xs_of t) (ys_of t) l → Rings x y r t l
rings-of x y r t m l h a =
    record {
      inside = λ p i. let q = a.inside p i in (omega (arith, q.0, h), yes_of (passes_at t p (Within x y r) q.1));
      every = λ p k d. a.every p (omega (arith, k, h)) (at-passes t p (Within x y r) (is_true _ d));
      single = a.single;
      unit = λ p i. unit-at t p (a.unit p i);
    }

-- ---- the questions of a build

-- a box and a ring, asked of the state that a build replies and the columns that it leaves
abbrev pub box_by : Given → BuildColumns → ℕ → Float → Float → Float → Float → Asked
box_by G l zoom west least east greatest =
    box_asked (state_by G) (columns_by G l).ids (columns_by G l).coords zoom west least east greatest

abbrev pub ring_by : Given → BuildColumns → ℕ → Float → Float → Float → Asked
ring_by G l zoom x y radius = ring_asked (state_by G) (columns_by G l).ids (columns_by G l).coords zoom x y radius

-- the table of the zoom used
abbrev pub used_by : Given → ℕ → Table
used_by G zoom = built G (zoom_used G.options zoom)

-- an answer that is told whole is not 11
pub fits-somehow : (k room : ℕ) → fitted k room ≡ Err Spoiled → ⊥
fits-somehow k room = go (leb k room)
  where
    go : (b : Bool) → cond b (Ok k) (Err (NoRoom k)) ≡ Err Spoiled → ⊥
    go true e = omega (arith, ap number e)
    go false e = omega (arith, ap number e)

-- ---- of a build that is accepted

module _ (G : Given) (a : AcceptedBuild G) where
  abbrev size : ℕ
  size = G.options.node_size

  -- the zoom used is one of a table that is built
  pub between : (zoom : ℕ) → (min_z G ≤ zoom_used G.options zoom) × (zoom_used G.options zoom ≤ max_z G + 1)
  between zoom = used-between G.options zoom (options-are G.options a.options).zooms

  -- the index of a table is one of its entries' coordinates
  pub slots-index : (z : ℕ) → min_z G ≤ z → z ≤ max_z G + 1
      →
      Index G.options.node_size (xs_of (built G z)) (ys_of (built G z)) (blank (length (xs_of (built G z))))
      (index_of_table G.options.node_size (built G z))
  unfolding index_of_table
  slots-index z h k =
      let t = built G z in
      let R = right-at G a z h k in
      let some : 1 ≤ length (xs_of t) = omega (arith, R.some, length-map t (λ e. e.x)) in
      index-of size (xs_of t) (ys_of t) (options-are G.options a.options).size-from some (table-inside t R.unit)

  -- in columns that hold it
  module _ (l : BuildColumns) (r : Holds (need G.options (points G)) l) where
    -- the state passes the check over the two columns of the index
    pub index-sound : state_ok (state_by G) (index_room (columns_by G l).ids (columns_by G l).coords) ≡ true
    index-sound =
        let c = columns_by G l in
        sound_more (state_by G) (room_of c) (index_room c.ids c.coords) (state-sound G a l r)
        (room-index c (room_of c) (le_refl (room_of c)))

    -- the table of each zoom stands in the columns with the index built from it
    pub table-indexed : (z : ℕ) → min_z G ≤ z → z ≤ max_z G + 1
        → Indexed (state_by G) (columns_by G l).ids (columns_by G l).coords z (xs_of (built G z)) (ys_of (built G z))
    table-indexed z h k =
        let t = built G z in
        let e : index_of_table size t ≡ index_cols (ids_at (state_by G) (columns_by G l).ids z)
        (coords_at (state_by G) (columns_by G l).coords z) =
        ap₂ index_cols (sym (ids-are G a l r z h k)) (sym (coords-are G a l r z h k)) in
        record {
          long = length-map t (λ e. e.x) ∙ sym (long-is G a z h k);
          unit = table-inside t (right-at G a z h k).unit;
          lent = blank (length (xs_of t));
          index = subst (Index size (xs_of t) (ys_of t) (blank (length (xs_of t)))) e (slots-index z h k);
        }

    module _ (zoom : ℕ) where
      indexed : Indexed (state_by G) (columns_by G l).ids (columns_by G l).coords (zoom_used G.options zoom) (xs_of (used_by G zoom))
          (ys_of (used_by G zoom))
      indexed = table-indexed (zoom_used G.options zoom) (between zoom).0 (between zoom).1

      long : len_of (state_by G) (zoom_used G.options zoom) ≡ length (used_by G zoom)
      long = long-is G a (zoom_used G.options zoom) (between zoom).0 (between zoom).1

      module _ (west least east greatest : Float) where
        module _ (fine : box_ok G.options.coordinate_system west least east greatest ≡ true) where
          -- Cartesian: exactly the entries between the normalised corners, each once
          pub cartesian-listed : (d : DataRange) → G.options.coordinate_system ≡ Cartesian d
              →
              (p : List ℕ) × (box_by G l zoom west least east greatest ≡ told true p)
              × Boxes (normalized d west) (normalized d least) (normalized d east) (normalized d greatest) (used_by G zoom) p
          cartesian-listed d c =
              let t = used_by G zoom in
              let x = cartesian-box (state_by G) (columns_by G l).ids (columns_by G l).coords zoom (xs_of t)
              (ys_of t) index-sound indexed west least east greatest fine d c in
              (x.0, x.1, boxes-of _ _ _ _ t _ x.0 long x.2)

          -- longitudes: exactly the entries between the edges after the rule, each once
          pub longitude-listed : G.options.coordinate_system ≡ LatLng → splits west east ≡ false
              →
              (p : List ℕ) × (box_by G l zoom west least east greatest ≡ told true p)
              × Boxes (mercator_x (new_west west east)) least (mercator_x (new_east west east)) greatest (used_by G zoom) p
          unfolding converted
          longitude-listed c f =
              let t = used_by G zoom in
              let x = longitude-box (state_by G) (columns_by G l).ids (columns_by G l).coords zoom (xs_of t)
              (ys_of t) index-sound indexed west least east greatest fine c f in
              (x.0, x.1, boxes-of _ _ _ _ t _ x.0 long x.2)

          -- or, where it is split, those of (w, 180) and then those of (-180, e), each half put through the rule again; in a half each
          -- entry is listed once
          pub split-listed : G.options.coordinate_system ≡ LatLng → splits west east ≡ true
              → let w = new_west west east in
              let e = new_east west east in
              (p : List ℕ) × (q : List ℕ) × (box_by G l zoom west least east greatest ≡ told true (p ++ q))
              × Boxes (mercator_x (new_west w half_circle)) least (mercator_x (new_east w half_circle)) greatest (used_by G zoom) p
              × Boxes (mercator_x (new_west (neg half_circle) e)) least (mercator_x (new_east (neg half_circle) e)) greatest (used_by G zoom) q
          unfolding converted
          split-listed c f =
              let t = used_by G zoom in
              let x = split-box (state_by G) (columns_by G l).ids (columns_by G l).coords zoom (xs_of t)
              (ys_of t) index-sound indexed west least east greatest fine c f in
              (x.0, x.1, x.2, boxes-of _ _ _ _ t _ x.0 long x.3, boxes-of _ _ _ _ t _ x.1 long x.4)

          -- so every box that is taken is answered whole
          pub box-told : (p : List ℕ) × (box_by G l zoom west least east greatest ≡ told true p)
          box-told = by G.options.coordinate_system refl
            where
              split : (b : Bool) → splits west east ≡ b → G.options.coordinate_system ≡ LatLng →
                  (p : List ℕ) × (box_by G l zoom west least east greatest ≡ told true p)
              split true f c = let x = split-listed c f in (x.0 ++ x.1, x.2)
              split false f c = let x = longitude-listed c f in (x.0, x.1)

              by : (c : CoordinateSystem) → G.options.coordinate_system ≡ c
                  → (p : List ℕ) × (box_by G l zoom west least east greatest ≡ told true p)
              by LatLng c = split (splits west east) refl c
              by (Cartesian d) c = let x = cartesian-listed d c in (x.0, x.1)

        -- any other is 9
        pub box-refused : box_ok G.options.coordinate_system west least east greatest ≡ false
            → box_by G l zoom west least east greatest ≡ refused Box
        unfolding box_asked
        box-refused f = rw (index-sound, f)

        -- no box is refused 11
        pub box-not-spoiled : (room : ℕ) → answer_of (box_by G l zoom west least east greatest) room ≡ Err Spoiled → ⊥
        box-not-spoiled room = by (box_ok G.options.coordinate_system west least east greatest) refl
          where
            by : (b : Bool) → box_ok G.options.coordinate_system west least east greatest ≡ b
                → answer_of (box_by G l zoom west least east greatest) room ≡ Err Spoiled → ⊥
            by true f h = let x = box-told f in fits-somehow (length x.0) room (sym (ap (λ (q : Asked). answer_of q room) x.1) ∙ h)
            by false f h = let x = sym (ap (λ (q : Asked). answer_of q room) (box-refused f)) ∙ h in omega (arith, ap number x)

      module _ (x y radius : Float) where
        -- a ring lists exactly the entries that pass the distance test, each once
        pub ring-listed : query_ok (Within x y radius) ≡ true →
            (p : List ℕ) × (ring_by G l zoom x y radius ≡ told true p) × Rings x y radius (used_by G zoom) p
        ring-listed fine =
            let t = used_by G zoom in
            let g = ring-exactly (state_by G) (columns_by G l).ids (columns_by G l).coords zoom (xs_of t)
            (ys_of t) index-sound indexed x y radius fine in
            (g.0, g.1, rings-of x y radius t _ g.0 long g.2)

        -- any other is 9
        pub ring-refused : query_ok (Within x y radius) ≡ false → ring_by G l zoom x y radius ≡ refused Box
        unfolding ring_asked
        ring-refused f = rw (index-sound, f)

        -- no ring is refused 11
        pub ring-not-spoiled : (room : ℕ) → answer_of (ring_by G l zoom x y radius) room ≡ Err Spoiled → ⊥
        ring-not-spoiled room = by (query_ok (Within x y radius)) refl
          where
            by : (b : Bool) → query_ok (Within x y radius) ≡ b → answer_of (ring_by G l zoom x y radius) room ≡ Err Spoiled → ⊥
            by true f h = let g = ring-listed f in fits-somehow (length g.0) room (sym (ap (λ (q : Asked). answer_of q room) g.1) ∙ h)
            by false f h = let g = sym (ap (λ (q : Asked). answer_of q room) (ring-refused f)) ∙ h in omega (arith, ap number g)
