-- The tally of a tile that is asked for of a table: the three searches, one after the other, tallied by the edges of the tile, are the
-- tally of what the tile finds. Assumes nothing.
use Rattle.std.specs.Prelude.{◌≡◌, Bool, false, List, ◌++◌, ◌&&◌, Option, Result, Ok, Err, ℕ, length}
use Rattle.std.proofs.Common.{sym, ap, ◌∙◌, subst}
use Rattle.build_tables.specs.Lent.{held}
use Rattle.build_tables.specs.laws.Rows.{rows-length}
use Rattle.ask_tile_table.specs.declared.asked.AskedTile.{AskedTile}
use Rattle.ask_tile_table.specs.declared.Cut.{Cut}
use Rattle.ask_tile_table.specs.declared.Home.{Home}
use Rattle.ask_tile_table.specs.declared.RowEnd.TheVariants.{East, West}
use Rattle.ask_tile_table.specs.declared.Running.{Running}
use Rattle.ask_tile_table.specs.declared.TileSearch.{TileSearch}
use Rattle.ask_tile_table.specs.Tally.{weight_in}
use Rattle.ask_tile_table.specs.laws.Home.{edges_of, weight_by, weight-home}
use Rattle.ask_tile_table.specs.laws.Counting.{HeldMarks, held_marks, counted, counted_same, places_in, running_of, is_unsure, settled}
use Rattle.ask_tile_table.specs.laws.Told.{Blank, tally-first, tally-second, tally-third}
use Rattle.ask_tile_table.specs.laws.Asked.{table_of, walked_of, asked_visits}
use Rattle.ask_tile_table.specs.laws.Three.{own_search, end_search, three}

-- the tally of what a search finds, by the edges h, after the tally r
abbrev pub counted_by : AskedTile → Bool → Home → Option TileSearch → ℕ → ℕ → List ℕ → HeldMarks
counted_by a few h g k s m = counted few (weight_by h) (table_of a) k s (places_in (walked_of a g)) m

-- the tally of a tile: of what the tile finds
abbrev pub asked_tally : AskedTile → Result Running Running
asked_tally a = running_of (weight_in a.z a.x a.y) (table_of a) (asked_visits a)

module _ (a : AskedTile) (few : Bool) (M : List ℕ) (n : Blank few (length a.table.entries.x.now) M) (h : Home)
    (e : h ≡ edges_of a.z a.x a.y) where
  -- by the edges is by the floor
  floor : (g : Option TileSearch) (k s : ℕ) (m : List ℕ)
      → counted_by a few h g k s m ≡ counted few (weight_in a.z a.x a.y) (table_of a) k s (places_in (walked_of a g)) m
  floor g k s m =
      ap (λ (i : Home). counted_by a few i g k s m) e
      ∙ counted_same few (weight_by (edges_of a.z a.x a.y)) (weight_in a.z a.x a.y)
      (λ v p q. weight-home a.z a.x a.y a.is_tile v p q) (table_of a) k s (places_in (walked_of a g)) m

  clear : Blank few (length (table_of a)) M
  clear = subst (λ (i : ℕ). Blank few i M) (sym (rows-length (held a.table.entries))) n

  -- a tally that is sure is the tile's
  abbrev pub Sure : Result Running Cut → Type 0
  Sure r = (few && is_unsure r) ≡ false → settled r ≡ asked_tally a

  sure : (r : Result Running Cut) → ((few && is_unsure r) ≡ false → settled r ≡ running_of (weight_in a.z a.x a.y) (table_of a)
      (walked_of a (own_search a) ++ (walked_of a (end_search a East) ++ walked_of a (end_search a West)))) → Sure r
  sure r f q = f q ∙ ap (running_of (weight_in a.z a.x a.y) (table_of a)) (sym (three a))

  pub first-ends : (g : Option TileSearch) → g ≡ own_search a → (c : Cut) (m : List ℕ)
      → held_marks (Err c) m ≡ counted_by a few h g 0 0 M → Sure (Err c)
  first-ends g i c m d =
      sure (Err c) (tally-first few (weight_in a.z a.x a.y) (table_of a) M clear (walked_of a (own_search a))
      (walked_of a (end_search a East)) (walked_of a (end_search a West)) c m (rw i at d ∙ floor (own_search a) 0 0 M))

  module _ (g : Option TileSearch) (i : g ≡ own_search a) (r : Running) (m : List ℕ)
      (d : held_marks (Ok r) m ≡ counted_by a few h g 0 0 M) (s : Option TileSearch) (j : s ≡ end_search a East) where
    pub second-ends : (c : Cut) (o : List ℕ) → held_marks (Err c) o ≡ counted_by a few h s r.count r.sum m → Sure (Err c)
    second-ends c o f =
        sure (Err c) (tally-second few (weight_in a.z a.x a.y) (table_of a) M clear (walked_of a (own_search a))
        (walked_of a (end_search a East)) (walked_of a (end_search a West)) r m (rw i at d ∙ floor (own_search a) 0 0 M) c o
        (rw j at f ∙ floor (end_search a East) r.count r.sum m))

    pub third-ends : (b : Running) (o : List ℕ) → held_marks (Ok b) o ≡ counted_by a few h s r.count r.sum m
        → (t : Option TileSearch) → t ≡ end_search a West → (v : Result Running Cut) (q : List ℕ)
        → held_marks v q ≡ counted_by a few h t b.count b.sum o → Sure v
    third-ends b o f t k v q l =
        sure v (tally-third few (weight_in a.z a.x a.y) (table_of a) M clear (walked_of a (own_search a)) (walked_of a (end_search a East))
        (walked_of a (end_search a West)) r m (rw i at d ∙ floor (own_search a) 0 0 M) b o
        (rw j at f ∙ floor (end_search a East) r.count r.sum m) v q (rw k at l ∙ floor (end_search a West) b.count b.sum o))
