-- A tile over a built index: everything that it finds can be listed, and each entry that lies in the tile is listed. Rests on kdbush's
-- promises of `range`, for a table whose entries have x and y in [0,1]. Assumes nothing.
use Rattle.std.specs.Prelude.{◌≡◌, Bool, false, ℕ, ◌<◌, length}
use Rattle.std.proofs.Math.Path.{refl, ap, subst}
use Rattle.std.proofs.Common.{sym, ◌∙◌, arith, lt-ltb}
use Rattle.std.proofs.Math.Bool.{true}
use mathlib.Core.List.{List, [], ◌∷◌, ◌++◌, append_assoc}
use Rattle.std.proofs.Math.ListN.{get_or, get_or-map}
use Rattle.std.proofs.lemmas.List.{length-map}
use Rattle.std.specs.Float.Ieee.{nan}
use Rattle.floats.specs.laws.Fraction.{is_true}
use Rattle.floats.specs.laws.Unit.{In01, In01→in01}
use Rattle.floats.specs.Unit.{in01}
use Rattle.kdsort.specs.Cols.{IndexCols}
use Rattle.kdsort.specs.Tree.{Index}
use Rattle.kdslots.specs.Query.{passes_q}
use Rattle.kdslots.specs.Slots.{when}
use Rattle.kdbush.specs.Reply.{found}
use Rattle.kdslots.specs.laws.Members.{In}
use Rattle.kdslots.specs.laws.All.{All, AllBelow}
use Rattle.kdbush.specs.laws.Promise.{answered-below, answered-complete}
use Rattle.build_tables.specs.declared.Options.{Options}
use Rattle.build_tables.specs.laws.Bounds.{InBounds}
use Rattle.build_tables.specs.Entries.{Table, entry, none, xs_of, ys_of}
use Rattle.ask_tile_table.specs.declared.TileSearch.{TileSearch}
use Rattle.ask_tile_table.specs.declared.Item.{Item}
use Rattle.ask_tile_table.specs.Tile.{Visit, visits_of, visits, visited, here, east_strip, has_east, west_strip, has_west, listable}
use Rattle.ask_tile_table.specs.Tile.{tile_listed, whole_tile, item_of}
use Rattle.ask_tile_table.specs.Tile.{item_at, tile_items}
use Rattle.ask_tile_table.specs.laws.Framed.{IsTile}
use Rattle.ask_tile_table.specs.laws.Inside.{InTile, inside-passes}

-- the item is listed
abbrev pub Lists : Item → List Item → Type 0
Lists i l = (pre : List Item) × (post : List Item) × (l ≡ pre ++ i ∷ post)

-- ---- lists of visits

whole_append : (t : Table) (a b : List Visit) → whole_tile t a ≡ true → whole_tile t b ≡ true → whole_tile t (a ++ b) ≡ true
unfolding whole_tile
whole_append t [] b p q = q
whole_append t (v ∷ a) b p q = go (listable t v.place) refl (λ h. whole_append t a b h q)
  where
    go : (c : Bool) → listable t v.place ≡ c → (whole_tile t a ≡ true → whole_tile t (a ++ b) ≡ true) → whole_tile t (v ∷ (a ++ b)) ≡ true
    go true e f = let h : whole_tile t a ≡ true = rw (e, whole_tile) at p in rw (e, whole_tile) (f h)
    go false e f = let h : false ≡ true = rw (e, whole_tile) at p in rw (e, whole_tile) h

-- where each can be listed, all are
pub listed-whole : (t : Table) (vs : List Visit) → whole_tile t vs ≡ true → tile_listed t vs ≡ vs
unfolding whole_tile tile_listed
listed-whole t [] e = refl
listed-whole t (v ∷ vs) e = go (listable t v.place) refl (listed-whole t vs)
  where
    go : (c : Bool) → listable t v.place ≡ c → (whole_tile t vs ≡ true → tile_listed t vs ≡ vs) → tile_listed t (v ∷ vs) ≡ v ∷ vs
    go true q f = let h : whole_tile t vs ≡ true = rw (q, whole_tile) at e in rw (q, tile_listed) (ap (λ (l : List Visit). v ∷ l) (f h))
    go false q f = let h : false ≡ true = rw (q, whole_tile) at e in absurd (let z : ◌≡◌ {A = ℕ} 0 1 = cc in omega arith)

below-when : (n : ℕ) (b : Bool) (l : List ℕ) → AllBelow n l → AllBelow n (when b l)
unfolding All
below-when n true l a = a
below-when n false l a = tt

items-append : (t : Table) (a b : List Visit) → tile_items t (a ++ b) ≡ tile_items t a ++ tile_items t b
items-append t [] b = refl
items-append t (v ∷ a) b = ap (λ (l : List Item). item_at t v ∷ l) (items-append t a b)

lists_at : (t : Table) (g : TileSearch) (pre : List ℕ) (p : ℕ) (post : List ℕ)
    → Lists (item_of g p (entry t p)) (tile_items t (visits_of g (pre ++ p ∷ post)))
lists_at t g [] p post = ([], tile_items t (visits_of g post), refl)
lists_at t g (q ∷ pre) p post =
    let w = lists_at t g pre p post in
    (item_of g q (entry t q) ∷ w.0, w.1, ap (λ (l : List Item). item_of g q (entry t q) ∷ l) w.2)

-- ---- a built index

module _ (t : Table) (placed : (p : ℕ) → p < length t → In01 (entry t p).x × In01 (entry t p).y) where
  can : (p : ℕ) → p < length t → listable t p ≡ true
  can p h =
      let w = placed p h in
      rw (
        lt-ltb p (length t) h,
        is_true (in01 (entry t p).x) (In01→in01 (entry t p).x w.0),
        is_true (in01 (entry t p).y) (In01→in01 (entry t p).y w.1),
      )

  whole_below : (g : TileSearch) (ps : List ℕ) → AllBelow (length t) ps → whole_tile t (visits_of g ps) ≡ true
  unfolding All whole_tile
  whole_below g [] a = refl
  whole_below g (p ∷ ps) a = rw (can p a.0, whole_tile) (whole_below g ps a.1)

  module _ (o : Options) (s S : IndexCols) (I : Index o.node_size (xs_of t) (ys_of t) s S) where
    long : length (xs_of t) ≡ length t
    long = length-map t (λ e. e.x)

    below : (g : TileSearch) → g.node_size ≡ o.node_size
        → AllBelow (length t) (found g.query g.node_size (length t) S.ids S.co)
    below g e =
        subst (λ (k : ℕ). AllBelow (length t) (found g.query k (length t) S.ids S.co)) (sym e)
        (subst (λ (n : ℕ). AllBelow n (found g.query o.node_size n S.ids S.co)) long
        (answered-below o.node_size (xs_of t) (ys_of t) s S I g.query))

    whole_of : (made : Bool) (g : TileSearch) → g.node_size ≡ o.node_size → whole_tile t (visits made g t S.ids S.co) ≡ true
    whole_of made g e = whole_below g _ (below-when (length t) made (found g.query g.node_size (length t) S.ids S.co)
        (below g e))

    -- everything that is found can be listed
    pub tile-whole : (z x y : ℕ) → whole_tile t (visited o z x y t S.ids S.co) ≡ true
    unfolding visited here east_strip west_strip
    tile-whole z x y =
        whole_append t (visits true (here o z x y) t S.ids S.co) _ (whole_of true (here o z x y) refl)
        (whole_append t (visits (has_east o x) (east_strip o z x y) t S.ids S.co)
        (visits (has_west o z x) (west_strip o z x y) t S.ids S.co)
        (whole_of (has_east o x) (east_strip o z x y) refl) (whole_of (has_west o z x) (west_strip o z x y) refl))

    -- what passes the tile's own range is found
    here-finds : (z x y p : ℕ) → p < length t → passes_q (here o z x y).query (entry t p).x (entry t p).y ≡ true
        → In p (found (here o z x y).query o.node_size (length t) S.ids S.co)
    unfolding here
    here-finds z x y p h e =
        let ex : get_or (xs_of t) p nan ≡ (entry t p).x = get_or-map (λ e. e.x) t p none in
        let ey : get_or (ys_of t) p nan ≡ (entry t p).y = get_or-map (λ e. e.y) t p none in
        let q : passes_q (here o z x y).query (get_or (xs_of t) p nan) (get_or (ys_of t) p nan) ≡ true = rw (ex, ey) e in
        subst (λ (n : ℕ). In p (found (here o z x y).query o.node_size n S.ids S.co)) long
        (answered-complete o.node_size (xs_of t) (ys_of t) s S I (here o z x y).query p (omega (arith, long)) q)

    -- an entry that lies in the tile is listed, at its place in the tile
    pub tile-lists : (z x y : ℕ) → InBounds o → IsTile z x y → (p : ℕ) → p < length t → InTile z x y (entry t p).x (entry t p).y
        → Lists (item_of (here o z x y) p (entry t p)) (tile_items t (tile_listed t (visited o z x y t S.ids S.co)))
    unfolding visited here
    tile-lists z x y b w p h i =
        let m = here-finds z x y p h (inside-passes o z x y b w (entry t p).x (entry t p).y i) in
        let A = visits true (here o z x y) t S.ids S.co in
        let R = visits (has_east o x) (east_strip o z x y) t S.ids S.co ++ visits (has_west o z x) (west_strip o z x y) t S.ids S.co in
        let a : Lists (item_of (here o z x y) p (entry t p)) (tile_items t A) =
        subst (λ (l : List ℕ). Lists (item_of (here o z x y) p (entry t p)) (tile_items t (visits_of (here o z x y) l))) (sym m.2)
        (lists_at t (here o z x y) m.0 p m.1) in
        let e : tile_items t (tile_listed t (A ++ R)) ≡ tile_items t A ++ tile_items t R =
        ap (tile_items t) (listed-whole t (A ++ R) (tile-whole z x y)) ∙ items-append t A R in (
          a.0,
          a.1 ++ tile_items t R,
          e ∙ ap (λ (l : List Item). l ++ tile_items t R) a.2
              ∙ append_assoc a.0 (item_of (here o z x y) p (entry t p) ∷ a.1) (tile_items t R),
        )
