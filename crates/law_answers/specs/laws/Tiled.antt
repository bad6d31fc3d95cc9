-- Of a build that is accepted, in columns that hold it, what a tile answers: the items of exactly the entries between the edges of its
-- own range, each once; then, where strips run, for x = 0, of exactly those of the strip in the east, each once; then, for x = z2 - 1, of
-- exactly those of the strip in the west, each once. So each entry whose place lies in the tile is listed, and each item is that of an
-- entry in one of the three; where strips do not run, as on a plan with the option on, no entry is listed twice. The tally is the sum of
-- num over the distinct places listed whose centre the tile holds. Neither is ever refused 11. Assumes nothing.
use Rattle.std.specs.Prelude.{◌≡◌, refl, Bool, true, false, ◌&&◌, length, Result, Ok, Err}
use Rattle.std.proofs.Common.{ap, sym, ◌∙◌, subst, arith, eqb-true}
use Rattle.std.proofs.Math.Path.{ap₂}
use mathlib.Core.List.{List, [], ◌∷◌, ◌++◌, map, append-nil}
use Prim.Native.Nat.{ℕ, zero as nought, suc, ◌+◌, ◌^◌, ◌<◌}
use Rattle.std.proofs.Math.Dec.{eqb}
use Rattle.std.proofs.lemmas.List.{length-map}
use Rattle.std.specs.Float.Ieee.{Float, binary64, sub}
use Rattle.floats.specs.Numbers.{zero, one}
use Rattle.floats.specs.laws.Unit.{In01}
use Rattle.range.specs.declared.DataRange.{DataRange}
use Rattle.range.specs.declared.CoordinateSystem.TheVariants.{Cartesian}
use Rattle.kdsort.specs.Cols.{IndexCols, blank}
use Rattle.kdsort.specs.Tree.{Index}
use Rattle.kdslots.specs.declared.Query.TheVariants.{Range}
use Rattle.kdslots.specs.laws.All.{All, all_append}
use Rattle.kdslots.specs.laws.Bounds.{and_both}
use Rattle.kdslots.specs.laws.Members.{In, Distinct, in_right}
use Rattle.kdbush.specs.laws.Promise.{answered-once, answered-sound, answered-complete}
use Rattle.kdslots.specs.Query.{passes_q}
use Rattle.kdbush.specs.Reply.{found}
use Rattle.kdslots.specs.Slots.{when}
use Rattle.build_tables.specs.declared.Entry.{Entry}
use Rattle.build_tables.specs.declared.Options.{Options}
use Rattle.build_tables.specs.laws.Bounds.{options-are}
use Rattle.build_tables.specs.Entries.{Table, entry, xs_of, ys_of}
use Rattle.build_tables.specs.Options.{zoom_used}
use Rattle.build_one_zoom.specs.laws.Keeps.{all-at}
use Rattle.build_one_zoom.specs.laws.Sound.{Body}
use Rattle.refusals.specs.declared.Refusal.{Refusal}
use Rattle.refusals.specs.declared.Refusal.TheVariants.{Tile, Spoiled}
use Rattle.refusals.specs.Refusals.{number}
use Rattle.ask_base.specs.Asked.{refused, told}
use Rattle.ask_base.specs.Columns.{table_at, ids_at, coords_at}
use Rattle.ask_tile_table.specs.declared.Item.{Item}
use Rattle.ask_tile_table.specs.declared.TileSearch.{TileSearch}
use Rattle.ask_tile_table.specs.laws.Framed.{tile-is}
use Rattle.ask_tile_table.specs.laws.Inside.{InTile, inside-passes}
use Rattle.ask_tile_table.specs.laws.Lists.{Lists, tile-whole, listed-whole}
use Rattle.ask_tile_table.specs.laws.Wraps.{plan-wraps}
use Rattle.ask_tile_table.specs.Tally.{weight_in, distinct, total, tally_of}
use Rattle.ask_tile_table.specs.Tile.{Visit, is_tile, edge, least, greatest, here, wraps, east_strip, west_strip, visits_of, visited}
use Rattle.ask_tile_table.specs.Tile.{tile_listed, whole_tile, item_of, item_at, tile_items}
use Rattle.ask_tile.specs.Asked.{TileAsked, tile_asked, tile_answer_of, some_of}
use Rattle.ask_tile.specs.laws.Ends.{asked_is}
use Rattle.ask_tile.specs.Tallied.{tally_sum, tallied}
use Rattle.build_all_zooms.specs.Zooms.{index_of_table}
use Rattle.build_all_zooms.specs.laws.Running.{table-inside}
use Rattle.supercluster.specs.Build.{BuildColumns, need}
use Rattle.supercluster.specs.laws.Load.{Holds}
use Rattle.law_builds.specs.Given.{Given, AcceptedBuild, points}
use Rattle.law_builds.specs.RightAt.{right-at}
use Rattle.law_answers.specs.laws.Stored.{state_by, columns_by, state-sound, table_is, ids-are, coords-are}
use Rattle.law_answers.specs.laws.Boxed.{Lies, Boxes, lies, boxes-of, used_by, slots-index, between, fits-somehow}

-- ---- what is said

-- a tile and its tally, asked of the state that a build replies and the columns that it leaves
abbrev pub tile_by : Given → BuildColumns → ℕ → ℕ → ℕ → TileAsked
tile_by G l z x y = tile_asked (state_by G) (columns_by G l) z x y

abbrev pub tally_by : Given → BuildColumns → ℕ → ℕ → ℕ → Result ℕ Refusal
tally_by G l z x y = tallied (state_by G) (columns_by G l) z x y

-- the items of places of a table, by a search
abbrev pub items_by : Table → TileSearch → List ℕ → List Item
items_by t g ps = map (λ p. item_of g p (entry t p)) ps

-- where the tile has the strip, exactly the entries between its edges, each once; otherwise none
abbrev pub Strip : Bool → Float → Float → Float → Float → Table → List ℕ → Type 0
Strip true w s e n t l = Boxes w s e n t l
Strip false w s e n t l = l ≡ []

-- the tile lists the items of a by its own range, then those of b by the strip in the east, then those of c by the strip in the west
pub record Tiles (o : Options) (z x y : ℕ) (t : Table) (l : List Item) : Type 0 where
  pub a : List ℕ
  pub b : List ℕ
  pub c : List ℕ
  pub is : l ≡ items_by t (here o z x y) a ++ (items_by t (east_strip o z x y) b ++ items_by t (west_strip o z x y) c)
  pub own : Boxes (least o z x) (least o z y) (greatest o z x) (greatest o z y) t a
  pub eastern : Strip (wraps o && eqb x 0) (sub binary64 one (edge o z)) (least o z y) one (greatest o z y) t b
  pub western : Strip (wraps o && eqb (x + 1) (2 ^ z)) zero (least o z y) (edge o z) (greatest o z y) t c

-- the item is that of an entry of the table which lies between the edges, by the search g
pub record FoundFrom (t : Table) (g : TileSearch) (w s e n : Float) (i : Item) : Type 0 where
  pub place-in : i.place < length t
  pub inside : Lies w s e n (entry t i.place)
  pub is : i ≡ item_of g i.place (entry t i.place)

-- why an item is listed: by the tile's own range, by the strip in the east, or by that in the west
pub data Why (o : Options) (z x y : ℕ) (t : Table) (i : Item) : Type 0 where
  own : FoundFrom t (here o z x y) (least o z x) (least o z y) (greatest o z x) (greatest o z y) i → Why o z x y t i
  eastern : wraps o ≡ true → x ≡ 0
      → FoundFrom t (east_strip o z x y) (sub binary64 one (edge o z)) (least o z y) one (greatest o z y) i → Why o z x y t i
  western : wraps o ≡ true → x + 1 ≡ 2 ^ z
      → FoundFrom t (west_strip o z x y) zero (least o z y) (edge o z) (greatest o z y) i → Why o z x y t i

-- ---- lists of items

items-append : (t : Table) (a b : List Visit) → tile_items t (a ++ b) ≡ tile_items t a ++ tile_items t b
items-append t [] b = refl
items-append t (v ∷ a) b = ap (λ (l : List Item). item_at t v ∷ l) (items-append t a b)

items-by : (t : Table) (g : TileSearch) (ps : List ℕ) → tile_items t (visits_of g ps) ≡ items_by t g ps
items-by t g [] = refl
items-by t g (p ∷ ps) = ap (λ (l : List Item). item_of g p (entry t p) ∷ l) (items-by t g ps)

item-places : (t : Table) (v : List Visit) → map (λ j. j.place) (tile_items t v) ≡ map (λ w. w.place) v
item-places t [] = refl
item-places t (w ∷ v) = ap (λ (l : List ℕ). w.place ∷ l) (item-places t v)

places-by : (t : Table) (g : TileSearch) (ps : List ℕ) → map (λ j. j.place) (items_by t g ps) ≡ ps
places-by t g [] = refl
places-by t g (p ∷ ps) = ap (λ (l : List ℕ). p ∷ l) (places-by t g ps)

-- an item stands among those of its search
by-at : (t : Table) (g : TileSearch) (pre : List ℕ) (p : ℕ) (post : List ℕ) (rest : List Item)
    → Lists (item_of g p (entry t p)) (items_by t g (pre ++ p ∷ post) ++ rest)
by-at t g [] p post rest = ([], items_by t g post ++ rest, refl)
by-at t g (q ∷ pre) p post rest =
    let w = by-at t g pre p post rest in
    (item_of g q (entry t q) ∷ w.0, w.1, ap (λ (l : List Item). item_of g q (entry t q) ∷ l) w.2)

by_in : (t : Table) (g : TileSearch) (p : ℕ) (ps : List ℕ) (rest : List Item) → In p ps
    → Lists (item_of g p (entry t p)) (items_by t g ps ++ rest)
by_in t g p ps rest m = subst (λ (l : List ℕ). Lists (item_of g p (entry t p)) (items_by t g l ++ rest)) (sym m.2)
    (by-at t g m.0 p m.1 rest)

-- what holds of each holds of one that is listed
lists-all : (P : Item → Type 0) (i : Item) (pre post : List Item) → All P (pre ++ i ∷ post) → P i
unfolding All
lists-all P i [] post h = h.0
lists-all P i (j ∷ pre) post h = lists-all P i pre post h.1

all-by : (P : Item → Type 0) (t : Table) (g : TileSearch) (ps : List ℕ) → ((p : ℕ) → In p ps → P (item_of g p (entry t p)))
    → All P (items_by t g ps)
unfolding All
all-by P t g [] f = tt
all-by P t g (p ∷ ps) f = (f p ([], ps, refl), all-by P t g ps (λ q m. f q (in_right q (p ∷ []) ps m)))

-- ---- the searches of a table with its index

module _ (size : ℕ) (t : Table) (old S : IndexCols) (I : Index size (xs_of t) (ys_of t) old S) (b : All Body t) (w s e n : Float) where
  -- a range finds exactly the entries between its edges, each once
  range-boxes : Boxes w s e n t (found (Range w s e n) size (length t) S.ids S.co)
  range-boxes =
      let long = length-map t (λ e. e.x) in
      subst (λ (m : ℕ). Boxes w s e n t (found (Range w s e n) size m S.ids S.co)) long
      (boxes-of w s e n t (length (xs_of t)) _ long
      (record {
        inside = answered-sound size (xs_of t) (ys_of t) old S I (Range w s e n);
        every = answered-complete size (xs_of t) (ys_of t) old S I (Range w s e n);
        single = answered-once size (xs_of t) (ys_of t) old S I (Range w s e n);
        unit = λ p m. table-inside t b p (answered-sound size (xs_of t) (ys_of t) old S I (Range w s e n) p m).0;
      }))

  strip-of : (made : Bool) → Strip made w s e n t (when made (found (Range w s e n) size (length t) S.ids S.co))
  strip-of true = range-boxes
  strip-of false = refl

-- ---- why an item is listed

module _ (o : Options) (z x y : ℕ) (t : Table) where
  from-by : (g : TileSearch) (w s e n : Float) (ps : List ℕ) → Boxes w s e n t ps → (p : ℕ) → In p ps
      → FoundFrom t g w s e n (item_of g p (entry t p))
  from-by g w s e n ps b p m = let q = b.inside p m in record { place-in = q.0; inside = q.1; is = refl }

  strip-all : (g : TileSearch) (w s e n : Float) (P : Item → Type 0) (made : Bool) (ps : List ℕ) → Strip made w s e n t ps
      → (made ≡ true → (i : Item) → FoundFrom t g w s e n i → P i) → All P (items_by t g ps)
  strip-all g w s e n P true ps b f = all-by P t g ps (λ p m. f refl _ (from-by g w s e n ps b p m))
  strip-all g w s e n P false ps b f = subst (λ (k : List ℕ). All P (items_by t g k)) (sym b) (unfold All in tt)

  whys : (l : List Item) → Tiles o z x y t l → All (Why o z x y t) l
  whys l q =
      let P = Why o z x y t in
      subst (All P) (sym q.is)
      (all_append P _ _ (strip-all (here o z x y) _ _ _ _ P true q.a q.own (λ e i f. own f))
      (all_append P _ _ (strip-all (east_strip o z x y) _ _ _ _ P (wraps o && eqb x 0) q.b q.eastern
      (λ e i f. let d = and_both (wraps o) (eqb x 0) e in eastern d.0 (eqb-true x 0 d.1) f))
      (strip-all (west_strip o z x y) _ _ _ _ P (wraps o && eqb (x + 1) (2 ^ z)) q.c q.western
      (λ e i f. let d = and_both (wraps o) (eqb (x + 1) (2 ^ z)) e in western d.0 (eqb-true (x + 1) (2 ^ z) d.1) f))))

-- a tile that comes to two lists comes to one
pub told_same : {a b : List Item} → ◌≡◌ {A = TileAsked} (told true a) (told true b) → a ≡ b
told_same e = cc

some-somehow : (k room : ℕ) → some_of k room ≡ Err Spoiled → ⊥
some-somehow nought room e = omega (arith, ap number e)
some-somehow (suc k) room e = fits-somehow (suc k) room e

-- ---- of a build that is accepted

module _ (G : Given) (a : AcceptedBuild G) (l : BuildColumns) (r : Holds (need G.options (points G)) l) (z x y : ℕ) where
  abbrev t : Table
  t = used_by G z

  abbrev S : IndexCols
  S = index_of_table G.options.node_size (used_by G z)

  abbrev old : IndexCols
  old = blank (length (xs_of (used_by G z)))

  index : Index G.options.node_size (xs_of (used_by G z)) (ys_of (used_by G z)) (blank (length (xs_of (used_by G z))))
      (index_of_table G.options.node_size (used_by G z))
  index = let k = between G a z in slots-index G a (zoom_used G.options z) k.0 k.1

  body : All Body (used_by G z)
  body = let k = between G a z in (right-at G a (zoom_used G.options z) k.0 k.1).unit

  placed : (p : ℕ) → p < length (used_by G z) → In01 (entry (used_by G z) p).x × In01 (entry (used_by G z) p).y
  placed p h = let b = all-at Body t p body h in (b.0, b.1)

  -- what is found, all of which can be listed
  abbrev finds : List Visit
  finds = visited G.options z x y t S.ids S.co

  all_whole : whole_tile t finds ≡ true
  all_whole = tile-whole t placed G.options old S index z x y

  all_listed : tile_listed t finds ≡ finds
  all_listed = listed-whole t finds all_whole

  -- what goes by the table and the index where they stand goes by those of the build
  moved : {A : Type 0} (f : Table → List ℕ → List Float → A) →
      let s = state_by G in let c = columns_by G l in let u = zoom_used G.options z in
      f (table_at s c u) (ids_at s c.ids u) (coords_at s c.coords u) ≡ f t S.ids S.co
  moved f =
      let k = between G a z in
      let u = zoom_used G.options z in
      let s = state_by G in
      let c = columns_by G l in
      ap (λ (q : Table). f q (ids_at s c.ids u) (coords_at s c.coords u)) (table_is G a l r u k.0 k.1)
      ∙ ap (λ (q : List ℕ). f t q (coords_at s c.coords u)) (ids-are G a l r u k.0 k.1)
      ∙ ap (f t S.ids) (coords-are G a l r u k.0 k.1)

  three : Tiles G.options z x y t (tile_items t (visited G.options z x y t S.ids S.co))
  unfolding visited here east_strip west_strip
  three =
      let f : Float → Float → Float → Float → List ℕ = λ w s e n. found (Range w s e n) G.options.node_size (length t) S.ids
      S.co in
      let A = f (least G.options z x) (least G.options z y) (greatest G.options z x) (greatest G.options z y) in
      let B = when (wraps G.options && eqb x 0) (f (sub binary64 one (edge G.options z)) (least G.options z y) one
      (greatest G.options z y)) in
      let C = when (wraps G.options && eqb (x + 1) (2 ^ z))
      (f zero (least G.options z y) (edge G.options z) (greatest G.options z y)) in
      let g = here G.options z x y in
      let h = east_strip G.options z x y in
      let k = west_strip G.options z x y in
      record {
        a = A;
        b = B;
        c = C;
        is = items-append t (visits_of g A) (visits_of h B ++ visits_of k C)
            ∙ ap₂ (λ (p q : List Item). p ++ q) (items-by t g A) (items-append t (visits_of h B) (visits_of k C)
            ∙ ap₂ (λ (p q : List Item). p ++ q) (items-by t h B) (items-by t k C));
        own = range-boxes G.options.node_size t old S index body _ _ _ _;
        eastern = strip-of G.options.node_size t old S index body _ _ _ _ (wraps G.options && eqb x 0);
        western = strip-of G.options.node_size t old S index body _ _ _ _ (wraps G.options && eqb (x + 1) (2 ^ z));
      }

  -- no such tile is 7
  pub tile-refused : is_tile z x y ≡ false → tile_by G l z x y ≡ refused Tile
  unfolding tile_asked
  tile-refused f = rw (state-sound G a l r, f)

  module _ (tile : is_tile z x y ≡ true) where
    told-items : tile_by G l z x y ≡ told true (tile_items t finds)
    told-items =
        asked_is (state_by G) (columns_by G l) z x y (state-sound G a l r) tile
        ∙ moved (λ q ids co. let v = visited G.options z x y q ids co in told (whole_tile q v) (tile_items q (tile_listed q v)))
        ∙ ap₂ (λ (k : Bool) (v : List Visit). told k (tile_items t v)) all_whole all_listed

    -- the items of the entries in the tile's own range, then those of its strips
    pub tile-listed : (i : List Item) × (tile_by G l z x y ≡ told true i) × Tiles G.options z x y (used_by G z) i
    tile-listed = (tile_items t finds, told-items, three)

    -- where strips do not run, the tile is the first range alone: the items of exactly the entries between its edges, none listed twice
    pub tile-alone : wraps G.options ≡ false
        → (ps : List ℕ) × (tile_by G l z x y ≡ told true (items_by (used_by G z) (here G.options z x y) ps))
        × Boxes (least G.options z x) (least G.options z y) (greatest G.options z x) (greatest G.options z y) (used_by G z) ps
    tile-alone e =
        let q = three in
        let f : q.b ≡ [] =
        subst (λ (w : Bool). Strip (w && eqb x 0) (sub binary64 one (edge G.options z)) (least G.options z y) one
        (greatest G.options z y) t q.b) e q.eastern in
        let g : q.c ≡ [] =
        subst (λ (w : Bool). Strip (w && eqb (x + 1) (2 ^ z)) zero (least G.options z y) (edge G.options z)
        (greatest G.options z y) t q.c) e q.western in (
          q.a,
          told-items ∙ ap (told true) (q.is
              ∙ ap₂ (λ (v w : List ℕ). items_by t (here G.options z x y) q.a
              ++ (items_by t (east_strip G.options z x y) v ++ items_by t (west_strip G.options z x y) w)) f g
              ∙ append-nil (items_by t (here G.options z x y) q.a)),
          q.own,
        )

    -- so on a plan with the option on; no entry is listed twice
    pub tile-on-plan : (d : DataRange) → G.options.longitude_strips_only ≡ true → G.options.coordinate_system ≡ Cartesian d
        → (i : List Item) × (tile_by G l z x y ≡ told true i) × Distinct (map (λ j. j.place) i)
    tile-on-plan d e c =
        let w = tile-alone (plan-wraps G.options d e c) in (
          items_by t (here G.options z x y) w.0,
          w.1,
          subst Distinct (sym (places-by t (here G.options z x y) w.0))
              w.2.single,
        )

    -- each entry whose place lies in the tile is listed, at its place in the tile
    pub tile-every : (p : ℕ) → p < length (used_by G z) → InTile z x y (entry (used_by G z) p).x (entry (used_by G z) p).y
        → (i : List Item) × (tile_by G l z x y ≡ told true i) × Lists (item_of (here G.options z x y) p (entry (used_by G z) p)) i
    tile-every p h i =
        let w = tile-listed in
        let q = w.2 in
        let n = inside-passes G.options z x y (options-are G.options a.options) (tile-is z x y tile) (entry t p).x
        (entry t p).y i in
        let m : In p q.a = q.own.every p h (own-lies (entry t p) n) in (
          w.0,
          w.1,
          subst (λ (k : List Item). Lists (item_of (here G.options z x y) p (entry t p)) k) (sym q.is)
              (by_in t (here G.options z x y) p q.a _ m),
        )
      where
        own-lies : (e : Entry) → passes_q (here G.options z x y).query e.x e.y ≡ true →
            Lies (least G.options z x) (least G.options z y) (greatest G.options z x) (greatest G.options z y) e
        own-lies e n = lies _ _ _ _ e (unfold here in n)

    -- and nothing else is: each item is that of an entry in the tile's own range or in one of its strips
    pub tile-only : (i : List Item) → tile_by G l z x y ≡ told true i → (j : Item) → Lists j i → Why G.options z x y (used_by G z) j
    tile-only i e j m =
        let w = tile-listed in
        let q = whys G.options z x y t w.0 w.2 in
        let f : w.0 ≡ i = told_same (sym w.1 ∙ e) in
        lists-all (Why G.options z x y t) j m.0 m.1 (subst (All (Why G.options z x y t)) (f ∙ m.2) q)

    tally-is : tally_by G l z x y ≡ Ok (total (weight_in z x y) t (distinct [] (map (λ w. w.place) finds)))
    unfolding tallied tally_of
    tally-is =
        rw (state-sound G a l r, tile)
        (moved (λ q ids co. let v = visited G.options z x y q ids co in tally_sum (whole_tile q v) (tally_of (weight_in z x y) q v))
        ∙ ap₂ (λ (k : Bool) (v : List Visit). tally_sum k (total (weight_in z x y) t (distinct [] (map (λ w. w.place) v)))) all_whole
        all_listed)

    -- the tally is the sum, over the distinct places of the items that the tile lists, of the num of those entries whose centre the tile
    -- holds; 0 where there is none
    pub tally-told : (i : List Item) × (tile_by G l z x y ≡ told true i)
        × (tally_by G l z x y ≡ Ok (total (weight_in z x y) (used_by G z) (distinct [] (map (λ j. j.place) i))))
    tally-told = (
      tile_items t finds,
      told-items,
      tally-is ∙ ap (λ (ps : List ℕ). Ok (total (weight_in z x y) t (distinct [] ps))) (sym (item-places t finds)),
    )

  -- nor has it a tally
  pub tally-refused : is_tile z x y ≡ false → tally_by G l z x y ≡ Err Tile
  unfolding tallied
  tally-refused f = rw (state-sound G a l r, f)

  -- no tile is refused 11
  pub tile-not-spoiled : (room : ℕ) → tile_answer_of (tile_by G l z x y) room ≡ Err Spoiled → ⊥
  tile-not-spoiled room = by (is_tile z x y) refl
    where
      by : (b : Bool) → is_tile z x y ≡ b → tile_answer_of (tile_by G l z x y) room ≡ Err Spoiled → ⊥
      by true f h = let w = tile-listed f in
          some-somehow (length w.0) room (sym (ap (λ (q : TileAsked). tile_answer_of q room) w.1) ∙ h)
      by false f h = let w = sym (ap (λ (q : TileAsked). tile_answer_of q room) (tile-refused f)) ∙ h in omega (arith, ap number w)

  -- nor its tally
  pub tally-not-spoiled : tally_by G l z x y ≡ Err Spoiled → ⊥
  tally-not-spoiled = by (is_tile z x y) refl
    where
      of : (sum : ℕ) → Ok sum ≡ Err Spoiled → ⊥
      of sum e = omega (arith, ap number e)

      by : (b : Bool) → is_tile z x y ≡ b → tally_by G l z x y ≡ Err Spoiled → ⊥
      by true f h = of (total (weight_in z x y) t (distinct [] (map (λ w. w.place) finds))) (sym (tally-is f) ∙ h)
      by false f h = let w = sym (tally-refused f) ∙ h in omega (arith, ap number w)
