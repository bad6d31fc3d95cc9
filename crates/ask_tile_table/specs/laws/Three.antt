-- A tile's three searches, one after the other, are what the tile finds: each walk goes over its whole answer, and what one leaves the
-- next goes on from. Assumes nothing.
use Rattle.std.specs.Prelude.{◌≡◌, refl, Bool, true, false, ◌&&◌, ◌||◌, List, ◌++◌, Option, Some, Result, Ok, Err, ℕ, ◌+◌, ◌^◌, ◌≤◌, eqb, length, ℤ, Float}
use Rattle.std.proofs.Common.{sym, ap, ◌∙◌, subst, append-nil, arith}
use Rattle.kdslots.specs.Bounds.{coords_ok}
use Rattle.kdslots.specs.Query.{query_ok}
use Rattle.refusals.specs.declared.Refusal.{Refusal}
use Rattle.build_tables.specs.declared.Options.{Options}
use Rattle.build_tables.specs.Entries.{Table}
use Rattle.build_tables.specs.Lent.{held}
use Rattle.build_tables.specs.laws.Rows.{rows-length}
use Rattle.ask_tile_table.specs.declared.asked.AskedTile.{AskedTile}
use Rattle.ask_tile_table.specs.declared.RowEnd.{RowEnd}
use Rattle.ask_tile_table.specs.declared.RowEnd.TheVariants.{East, West}
use Rattle.ask_tile_table.specs.declared.TileSearch.{TileSearch}
use Rattle.ask_tile_table.specs.Tile.{Visit, here, east_strip, west_strip, has_strip, strip_search, strip_at, made_if, visits, visited, wraps}
use Rattle.ask_tile_table.specs.laws.Framed.{FramedIf, here-framed, strip-framed}
use Rattle.ask_tile_table.specs.laws.Finite.{here-fine, strip-fine}
use Rattle.ask_tile_table.specs.laws.Runs.{Left, left_runs, run_tile, run_more, run_ends, run-count}
use Rattle.ask_tile_table.specs.laws.Turns.{walked_turns, walked-length, walked_whole}
use Rattle.ask_tile_table.specs.laws.Asked.{table_of, walked_of, asked_visits, asked-searchable}

-- ---- each search: it may be made, and its walk is whole

module _ (a : AskedTile) where
  abbrev pub own_search : Option TileSearch
  own_search = Some (here a.options a.z a.x a.y)

  abbrev pub end_search : RowEnd → Option TileSearch
  end_search end = strip_at end a.options a.z a.x a.y

  pub own-may : (g : Option TileSearch) → g ≡ own_search → FramedIf g
  own-may g e = subst FramedIf (sym e) (here-framed a.options a.z a.x a.y a.in_bounds a.is_tile)

  pub end-may : (end : RowEnd) (g : Option TileSearch) → g ≡ end_search end → FramedIf g
  end-may end g e = subst FramedIf (sym e) (strip-framed a.options a.z a.x a.y a.in_bounds a.is_tile end)

  -- a search of the tile's options, by finite numbers
  whole : (made : Bool) (g : TileSearch) → g.node_size ≡ a.options.node_size → query_ok g.query ≡ true
      → walked_of a (made_if made g) ≡ visits made g (table_of a) a.table.index.ids.now a.table.index.coords.now
  whole made g s q =
      let n = length a.table.entries.x.now in
      let l : length (table_of a) ≡ n = rows-length (held a.table.entries) in
      let ok : coords_ok g.node_size (length (table_of a)) (length a.table.index.coords.now) ≡ true = rw s (asked-searchable a _ l) in
      ap (λ (k : ℕ). walked_turns (made_if made g) k a.table.index.ids.now a.table.index.coords.now) (sym l)
      ∙ walked_whole made g (table_of a) a.table.index.ids.now a.table.index.coords.now ok q

  own-whole : walked_of a own_search ≡ visits true (here a.options a.z a.x a.y) (table_of a) a.table.index.ids.now a.table.index.coords.now
  unfolding here
  own-whole = whole true (here a.options a.z a.x a.y) refl (here-fine a.options a.in_bounds a.z a.x a.y a.is_tile)

  sized : (end : RowEnd) → (strip_search end a.options a.z a.x a.y).node_size ≡ a.options.node_size
  unfolding east_strip west_strip
  sized East = refl
  sized West = refl

  end-whole : (end : RowEnd) → walked_of a (end_search end)
      ≡ visits (has_strip end a.options a.z a.x) (strip_search end a.options a.z a.x a.y) (table_of a) a.table.index.ids.now
      a.table.index.coords.now
  end-whole end = whole (has_strip end a.options a.z a.x) (strip_search end a.options a.z a.x a.y) (sized end)
      (strip-fine a.options a.in_bounds a.z a.x a.y a.is_tile end)

  -- what the tile finds
  pub three : asked_visits a ≡ walked_of a own_search ++ (walked_of a (end_search East) ++ walked_of a (end_search West))
  unfolding visited
  three = rw (own-whole, end-whole East, end-whole West)

-- ---- a tile that has no strip finds what its own range finds

-- strips run, and the tile is the first or the last of its row: no other has a strip
abbrev pub at_end : Options → ℕ → ℕ → Bool
at_end o z x = wraps o && (eqb x 0 || eqb (x + 1) (2 ^ z))

pub own_range : (o : Options) (z x y : ℕ) (t : Table) (ids : List ℕ) (co : List Float)
    → at_end o z x ≡ false → visited o z x y t ids co ≡ visits true (here o z x y) t ids co
unfolding visited east_strip west_strip
own_range o z x y t ids co = go (wraps o) (eqb x 0) (eqb (x + 1) (2 ^ z)) refl refl refl
  where
    none : true ≡ false → ⊥
    none e = let i : ◌≡◌ {A = ℕ} 0 1 = cc in omega arith

    go : (w a b : Bool) → wraps o ≡ w → eqb x 0 ≡ a → eqb (x + 1) (2 ^ z) ≡ b → (w && (a || b)) ≡ false
        → visited o z x y t ids co ≡ visits true (here o z x y) t ids co
    go false a b r p q e = rw r (append-nil (visits true (here o z x y) t ids co))
    go true false false r p q e = rw (r, p, q) (append-nil (visits true (here o z x y) t ids co))
    go true false true r p q e = absurd (none e)
    go true true b r p q e = absurd (none e)

-- strips that do not run leave the tile its own range, whatever the table and its index hold
pub no-strips : (o : Options) (z x y : ℕ) (t : Table) (ids : List ℕ) (co : List Float)
    → wraps o ≡ false → visited o z x y t ids co ≡ visits true (here o z x y) t ids co
no-strips o z x y t ids co e = own_range o z x y t ids co (ap (λ (w : Bool). w && (eqb x 0 || eqb (x + 1) (2 ^ z))) e)

-- ---- three runs, one after the other; each ends the listing, or the next goes on

-- a run that ended well has listed at most n more
pub listed-few : (t : Table) (k j n : ℕ) (g : Option TileSearch) (ids : List ℕ) (co : List Float) (r : Result ℕ Refusal) (out o : List ℕ)
    (xs ys a b : List ℤ)
    → r ≡ Ok j
    → left_runs r o a b ≡ run_tile t k (walked_turns g n ids co) out xs ys → j ≤ k + n
listed-few t k j n g ids co r out o xs ys a b h e =
    omega (arith, run-count t k j (walked_turns g n ids co) out o xs ys a b (rw h at e), walked-length g n ids co)

module _ (t : Table) (A B C : List Visit) (out : List ℕ) (xs ys : List ℤ) where
  pub first_ends : (r : Result ℕ Refusal) (f : Refusal) (o : List ℕ) (a b : List ℤ) → r ≡ Err f
      → left_runs r o a b ≡ run_tile t 0 A out xs ys
      → left_runs (Err f) o a b ≡ run_tile t 0 (A ++ (B ++ C)) out xs ys
  first_ends r f o a b h e = run_ends t 0 A (B ++ C) out o xs ys a b f (rw h at e)

  module _ (r : Result ℕ Refusal) (k : ℕ) (o : List ℕ) (a b : List ℤ) (h : r ≡ Ok k)
      (e : left_runs r o a b ≡ run_tile t 0 A out xs ys) where
    rest : run_tile t 0 (A ++ (B ++ C)) out xs ys ≡ run_tile t k (B ++ C) o a b
    rest = run_more t 0 k A (B ++ C) out o xs ys a b (rw h at e)

    pub second-ends : (s : Result ℕ Refusal) (f : Refusal) (p : List ℕ) (u v : List ℤ) → s ≡ Err f
        → left_runs s p u v ≡ run_tile t k B o a b
        → left_runs (Err f) p u v ≡ run_tile t 0 (A ++ (B ++ C)) out xs ys
    second-ends s f p u v g d = run_ends t k B C o p a b u v f (rw g at d) ∙ sym rest

    pub third-ends : (s : Result ℕ Refusal) (j : ℕ) (p : List ℕ) (u v : List ℤ) → s ≡ Ok j → left_runs s p u v ≡ run_tile t k B o a b
        → (w : Left) → w ≡ run_tile t j C p u v → w ≡ run_tile t 0 (A ++ (B ++ C)) out xs ys
    third-ends s j p u v g d w q = q ∙ sym (run_more t k j B C o p a b u v (rw g at d)) ∙ sym rest

-- of a tile that is asked for: its own range, and the strips at the ends
pub asked-few : (a : AskedTile) (k j : ℕ) (g : Option TileSearch) (out o : List ℕ) (xs ys p q : List ℤ)
    → left_runs (Ok j) o p q ≡ run_tile (table_of a) k (walked_of a g) out xs ys → j ≤ k + length a.table.entries.x.now
asked-few a k j g out o xs ys p q e =
    listed-few (table_of a) k j (length a.table.entries.x.now) g a.table.index.ids.now a.table.index.coords.now (Ok j) out o xs ys p q refl e

module _ (a : AskedTile) (out : List ℕ) (xs ys : List ℤ) where
  -- the run of what a search finds, k being listed
  abbrev pub run_by : Option TileSearch → ℕ → List ℕ → List ℤ → List ℤ → Left
  run_by g k o p q = run_tile (table_of a) k (walked_of a g) o p q

  abbrev pub run_all : Left
  run_all = run_tile (table_of a) 0 (asked_visits a) out xs ys

  abbrev own : List Visit
  own = walked_of a (own_search a)

  abbrev at : RowEnd → List Visit
  at end = walked_of a (end_search a end)

  joined : run_tile (table_of a) 0 (own ++ (at East ++ at West)) out xs ys ≡ run_all
  joined = ap (λ (vs : List Visit). run_tile (table_of a) 0 vs out xs ys) (sym (three a))

  pub own-ends : (g : Option TileSearch) → g ≡ own_search a → (f : Refusal) (o : List ℕ) (p q : List ℤ)
      → left_runs (Err f) o p q ≡ run_by g 0 out xs ys → left_runs (Err f) o p q ≡ run_all
  own-ends g h f o p q e =
      first_ends (table_of a) own (at East) (at West) out xs ys (Err f) f o p q refl (rw h at e) ∙ joined

  module _ (g : Option TileSearch) (h : g ≡ own_search a) (k : ℕ) (o : List ℕ) (p q : List ℤ)
      (e : left_runs (Ok k) o p q ≡ run_by g 0 out xs ys) (s : Option TileSearch) (i : s ≡ end_search a East) where
    pub east-ends : (f : Refusal) (u : List ℕ) (v w : List ℤ) → left_runs (Err f) u v w ≡ run_by s k o p q
        → left_runs (Err f) u v w ≡ run_all
    east-ends f u v w d =
        second-ends (table_of a) own (at East) (at West) out xs ys (Ok k) k o p q refl (rw h at e) (Err f) f u v w refl (rw i at d) ∙ joined

    pub west-ends : (j : ℕ) (u : List ℕ) (v w : List ℤ) → left_runs (Ok j) u v w ≡ run_by s k o p q
        → (t : Option TileSearch) → t ≡ end_search a West → (l : Left) → l ≡ run_by t j u v w → l ≡ run_all
    west-ends j u v w d t m l n =
        third-ends (table_of a) own (at East) (at West) out xs ys (Ok k) k o p q refl (rw h at e) (Ok j) j u v w refl (rw i at d) l
        (rw m at n)
        ∙ joined
