-- #111 holds of every Cartesian build that `load` accepts: `boxes-inside-boxes`. A box visits the places in the order of the index that the
-- build left, the same order for every box; the rest is Cut's, for any order. Assumes nothing.
use Rattle.std.specs.Prelude.{◌≡◌, true, List, [], ◌∷◌, ℕ, length, Float}
use Rattle.std.proofs.Math.Path.{ap}
use Rattle.std.proofs.Common.{sym, ◌∙◌}
use Rattle.std.specs.Float.Ieee.Scale.{finite}
use Rattle.floats.specs.laws.Fraction.{is_true}
use Rattle.range.specs.declared.DataRange.{DataRange}
use Rattle.range.specs.declared.CoordinateSystem.TheVariants.{Cartesian}
use Rattle.range.specs.Range.{converted, system_in_bounds}
use Rattle.kdslots.specs.declared.Query.{Query}
use Rattle.kdbush.specs.Reply.{found}
use Rattle.kdbush.specs.laws.Promise.{answered-kept, tree_order}
use Rattle.build_tables.specs.declared.State.{State}
use Rattle.build_tables.specs.laws.Bounds.{options-are}
use Rattle.build_tables.specs.Entries.{xs_of, ys_of}
use Rattle.build_tables.specs.Options.{zoom_used}
use Rattle.build_tables.specs.Sound.{state_ok}
use Rattle.ask_base.specs.Asked.{told}
use Rattle.build_tables.specs.Room.{index_room}
use Rattle.ask_base.specs.Columns.{ids_at, coords_at}
use Rattle.ask_box_plan.specs.Rule.{plan_of, box_ok}
use Rattle.ask_box.specs.Lists.{listed_at, box_asked}
use Rattle.ask_box.specs.laws.Inside.{Indexed, one_told}
use Rattle.supercluster.specs.Build.{BuildColumns, need}
use Rattle.supercluster.specs.laws.Load.{Holds}
use Rattle.law_answers.specs.laws.Stored.{state_by, columns_by, of-load}
use Rattle.law_answers.specs.laws.Boxed.{used_by, between, index-sound, table-indexed}
use Rattle.law_builds.specs.Given.{Given, AcceptedBuild, points}
use Rattle.law_overlap.specs.BoxesInsideBoxes.{Box, Taken, Overlaps, box_at, BoxesInsideBoxes}
use Rattle.law_overlap.specs.Common.{boxed, Rising, rising}
use Rattle.law_overlap.specs.Cut.{list_of, overlaps}

-- ---- over a sound state, of a table with an index that is built from it

module _ (st : State) (ids : List ℕ) (co : List Float) (zoom : ℕ) (xs ys : List Float) (good : state_ok st (index_room ids co) ≡ true)
    (J : Indexed st ids co (zoom_used st.options zoom) xs ys) (d : DataRange) (c : st.options.coordinate_system ≡ Cartesian d)
    (r : Rising d) where
  abbrev z : ℕ
  z = zoom_used st.options zoom

  -- the order in which its index is visited
  abbrev order : List ℕ
  order = tree_order st.options.node_size (length xs) (ids_at st ids z)

  abbrev found_in : ℕ → Query → List ℕ
  found_in n q = found q st.options.node_size n (ids_at st ids z) (coords_at st co z)

  all_told : (q : Query) → listed_at st ids co z (q ∷ []) ≡ told true (found_in (length xs) q)
  all_told q = one_told st ids co z xs ys J q ∙ ap (λ (n : ℕ). told true (found_in n q)) (sym J.long)

  fine : (a : Box) → Taken d a → box_ok st.options.coordinate_system a.west a.least a.east a.greatest ≡ true
  fine a p =
      rw (
        c,
        is_true (finite a.west) p.west.0,
        is_true (finite a.least) p.least.0,
        is_true (finite a.east) p.east.0,
        is_true (finite a.greatest) p.greatest.0,
      )

  -- a box is answered whole, with those places of the order that lie in it
  box-told : (a : Box) → Taken d a
      → box_asked st ids co zoom a.west a.least a.east a.greatest ≡ told true (list_of d r xs ys order a)
  unfolding box_asked plan_of converted
  box-told a p =
      rw (good, fine a p, c) (all_told (boxed d a) ∙ ap (told true) (answered-kept _ xs ys J.lent _ J.index (boxed d a)))

  table-overlaps : Overlaps d (λ a. box_asked st ids co zoom a.west a.least a.east a.greatest)
  table-overlaps = overlaps d r xs ys order (λ a. box_asked st ids co zoom a.west a.least a.east a.greatest) box-told

-- ---- of a build that is accepted, in columns that hold it

module _ (G : Given) (acc : AcceptedBuild G) (l : BuildColumns) (h : Holds (need G.options (points G)) l)
    (d : DataRange) (c : G.options.coordinate_system ≡ Cartesian d) (zoom : ℕ) where
  range-rising : Rising d
  unfolding system_in_bounds
  range-rising = rising d (rw c at (options-are G.options acc.options).system)

  build-overlaps : Overlaps d (box_at (state_by G) (columns_by G l) zoom)
  build-overlaps =
      let t = used_by G zoom in
      let b = between G acc zoom in
      table-overlaps (state_by G) (columns_by G l).ids (columns_by G l).coords zoom (xs_of t) (ys_of t)
      (index-sound G acc l h) (table-indexed G acc l h (zoom_used G.options zoom) b.0 b.1) d c range-rising

-- ---- of every build that `load` accepts

pub boxes-inside-boxes : BoxesInsideBoxes
boxes-inside-boxes G l s e d c zoom =
    of-load (λ s k. Overlaps d (box_at s k zoom)) G l (λ a h. build-overlaps G a l h d c zoom) s e
