-- Of an index that is built from its table: a Cartesian box lists exactly the entries inside, each once, and each of them lies within
-- [0,1]; so does a box of longitudes that is not split, and each half of one that is; and a ring lists exactly the entries that pass the
-- distance test. No such question is refused for a place past the table. Assumes nothing.
use Rattle.std.specs.Prelude.{◌≡◌, true, false, ℕ, ◌<◌, length, get_or, Float, Ok}
use Rattle.std.proofs.Math.Path.{ap}
use Rattle.std.proofs.Common.{◌∙◌, subst}
use mathlib.Core.List.{List, [], ◌∷◌, ◌++◌, append-nil, flat_map}
use Rattle.std.specs.Float.{nan}
use Rattle.std.specs.Float.Ieee.{neg}
use Rattle.floats.specs.laws.Unit.{In01}
use Rattle.range.specs.declared.DataRange.{DataRange}
use Rattle.range.specs.declared.CoordinateSystem.TheVariants.{LatLng, Cartesian}
use Rattle.range.specs.Range.{normalized, converted}
use Rattle.kdsort.specs.Cols.{IndexCols, index_cols}
use Rattle.kdsort.specs.Tree.{Index}
use Rattle.kdslots.specs.declared.Query.{Query}
use Rattle.kdslots.specs.declared.Query.TheVariants.{Range, Within}
use Rattle.kdslots.specs.Query.{passes_q, query_ok}
use Rattle.kdbush.specs.Reply.{found, index_checked, built}
use Rattle.kdslots.specs.laws.Members.{In, Distinct}
use Rattle.kdbush.specs.laws.Built.{accepted, build-is-index}
use Rattle.kdslots.specs.laws.All.{AllBelow, all_append}
use Rattle.kdbush.specs.laws.Promise.{all_whole, all_sound, answered-below, answered-once, answered-sound, answered-complete}
use Rattle.build_tables.specs.declared.State.{State}
use Rattle.build_tables.specs.Options.{zoom_used}
use Rattle.build_tables.specs.State.{len_of}
use Rattle.build_tables.specs.Sound.{state_ok}
use Rattle.ask_base.specs.Asked.{told}
use Rattle.build_tables.specs.Room.{index_room}
use Rattle.ask_base.specs.Columns.{ids_at, coords_at}
use Rattle.ask_box_plan.specs.Rule.{half_circle, new_west, new_east, splits, ruled_box, plan_of, box_ok}
use Rattle.ask_box.specs.Lists.{walked, listed_at, ring_asked, box_asked}

-- ---- what is said

-- the table of zoom z has the coordinates xs and ys, each from 0 to 1, and its part of the columns is an index built from them
pub record Indexed (s : State) (ids : List ℕ) (co : List Float) (z : ℕ) (xs ys : List Float) : Type 0 where
  pub long : length xs ≡ len_of s z
  pub unit : (p : ℕ) → p < length xs → In01 (get_or xs p nan) × In01 (get_or ys p nan)
  pub lent : IndexCols
  pub index : Index s.options.node_size xs ys lent (index_cols (ids_at s ids z) (coords_at s co z))

-- so it is where `kdbush::build` was accepted for them
pub built-indexed : (s : State) (ids : List ℕ) (co : List Float) (z : ℕ) (xs ys : List Float) (l : IndexCols) → length xs ≡ len_of s z
    → index_checked s.options.node_size xs ys l ≡ Ok tt
    → built s.options.node_size xs ys l ≡ index_cols (ids_at s ids z) (coords_at s co z) → Indexed s ids co z xs ys
built-indexed s ids co z xs ys l h e f =
    let size = s.options.node_size in
    record {
      long = h;
      unit = (accepted size xs ys l e).inside;
      lent = l;
      index =
          subst (Index size xs ys l) f (build-is-index size xs ys l e);
    }

-- the entry p passes a query's test
abbrev pub Passes : Query → List Float → List Float → ℕ → Type 0
Passes q xs ys p = passes_q q (get_or xs p nan) (get_or ys p nan) ≡ true

-- the list has each entry that passes the test, once, and no other, and each of them lies within [0,1]
pub record Exactly (q : Query) (n : ℕ) (xs ys : List Float) (l : List ℕ) : Type 0 where
  pub inside : (p : ℕ) → In p l → (p < n) × Passes q xs ys p
  pub every : (p : ℕ) → p < n → Passes q xs ys p → In p l
  pub single : Distinct l
  pub unit : (p : ℕ) → In p l → In01 (get_or xs p nan) × In01 (get_or ys p nan)

-- ---- one search of such an index

walked_all : (n : ℕ) (l : List ℕ) → AllBelow n l → walked n l ≡ told true l
walked_all n l w = rw (all_whole n l w, all_sound n l w)

module _ (s : State) (ids : List ℕ) (co : List Float) (z : ℕ) (xs ys : List Float) (J : Indexed s ids co z xs ys) where
  abbrev found_in : ℕ → Query → List ℕ
  found_in n q = found q s.options.node_size n (ids_at s ids z) (coords_at s co z)

  below : (q : Query) → AllBelow (len_of s z) (found_in (len_of s z) q)
  below q = subst (λ (n : ℕ). AllBelow n (found_in n q)) J.long (answered-below _ xs ys J.lent _ J.index q)

  -- one search is told whole
  pub one_told : (q : Query) → listed_at s ids co z (q ∷ []) ≡ told true (found_in (len_of s z) q)
  unfolding flat_map
  one_told q = ap (walked (len_of s z)) (append-nil (found_in (len_of s z) q)) ∙ walked_all (len_of s z) (found_in (len_of s z) q) (below q)

  two-told : (a b : Query) → listed_at s ids co z (a ∷ b ∷ []) ≡ told true (found_in (len_of s z) a ++ found_in (len_of s z) b)
  unfolding flat_map
  two-told a b =
      let m = len_of s z in
      ap (λ (l : List ℕ). walked m (found_in m a ++ l)) (append-nil (found_in m b))
      ∙ walked_all m (found_in m a ++ found_in m b) (all_append (λ (k : ℕ). k < m) (found_in m a) (found_in m b) (below a) (below b))

  found-exactly : (q : Query) → Exactly q (len_of s z) xs ys (found_in (len_of s z) q)
  found-exactly q =
      let I = J.index in
      subst (λ (n : ℕ). Exactly q n xs ys (found_in n q)) J.long
      (record {
        inside = answered-sound _ xs ys J.lent _ I q;
        every = answered-complete _ xs ys J.lent _ I q;
        single = answered-once _ xs ys J.lent _ I q;
        unit = λ p m. J.unit p (answered-sound _ xs ys J.lent _ I q p m).0;
      })

-- ---- the questions

module _ (st : State) (ids : List ℕ) (co : List Float) (zoom : ℕ) (xs ys : List Float) (good : state_ok st (index_room ids co) ≡ true)
    (J : Indexed st ids co (zoom_used st.options zoom) xs ys) where
  abbrev z : ℕ
  z = zoom_used st.options zoom

  module _ (west least east greatest : Float) (fine : box_ok st.options.coordinate_system west least east greatest ≡ true) where
    box-is : box_asked st ids co zoom west least east greatest
        ≡ listed_at st ids co z (plan_of st.options.coordinate_system west least east greatest)
    unfolding box_asked
    box-is = rw (good, fine)

    -- Cartesian: exactly the entries between the normalised corners
    pub cartesian-box : (d : DataRange) → st.options.coordinate_system ≡ Cartesian d
        → (l : List ℕ) × (box_asked st ids co zoom west least east greatest ≡ told true l)
        × Exactly (Range (normalized d west) (normalized d least) (normalized d east) (normalized d greatest)) (len_of st z) xs ys l
    unfolding plan_of converted
    cartesian-box d c =
        let q = Range (normalized d west) (normalized d least) (normalized d east) (normalized d greatest) in
        (found_in st ids co z xs ys J (len_of st z) q, box-is ∙ rw c (one_told st ids co z xs ys J q), found-exactly st ids co z xs ys J _)

    -- longitudes: exactly the entries between the edges after the rule
    pub longitude-box : st.options.coordinate_system ≡ LatLng → splits west east ≡ false
        → (l : List ℕ) × (box_asked st ids co zoom west least east greatest ≡ told true l)
        × Exactly (ruled_box west least east greatest) (len_of st z) xs ys l
    unfolding plan_of
    longitude-box c f =
        let q = ruled_box west least east greatest in (
          found_in st ids co z xs ys J (len_of st z) q,
          box-is ∙ rw (c, f) (one_told st ids co z xs ys J q),
          found-exactly st ids co z xs ys J _,
        )

    -- or, where it is split, those of the one half and then those of the other
    pub split-box : st.options.coordinate_system ≡ LatLng → splits west east ≡ true
        → (a : List ℕ) × (b : List ℕ) × (box_asked st ids co zoom west least east greatest ≡ told true (a ++ b))
        × Exactly (ruled_box (new_west west east) least half_circle greatest) (len_of st z) xs ys a
        × Exactly (ruled_box (neg half_circle) least (new_east west east) greatest) (len_of st z) xs ys b
    unfolding plan_of
    split-box c f =
        let q = ruled_box (new_west west east) least half_circle greatest in
        let r = ruled_box (neg half_circle) least (new_east west east) greatest in (
          found_in st ids co z xs ys J (len_of st z) q,
          found_in st ids co z xs ys J (len_of st z) r,
          box-is ∙ rw (c, f) (two-told st ids co z xs ys J q r),
          found-exactly st ids co z xs ys J _,
          found-exactly st ids co z xs ys J _,
        )

  -- a ring: exactly the entries that pass the distance test
  pub ring-exactly : (x y r : Float) → query_ok (Within x y r) ≡ true
      → (l : List ℕ) × (ring_asked st ids co zoom x y r ≡ told true l) × Exactly (Within x y r) (len_of st z) xs ys l
  unfolding ring_asked
  ring-exactly x y r fine = (
    found_in st ids co z xs ys J (len_of st z) (Within x y r),
    rw (good, fine) (one_told st ids co z xs ys J (Within x y r)),
    found-exactly st ids co z xs ys J (Within x y r),
  )
