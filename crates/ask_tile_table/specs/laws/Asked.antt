-- A tile that is asked for of a table: the table, what the walk of a search goes over there, and what the tile finds. Definitions first.
-- Its index may be searched. Assumes nothing.
use Rattle.std.specs.Prelude.{◌≡◌, refl, true, List, [], ◌∷◌, Option, Some, None, ℕ, ◌*◌, ◌<◌, ◌≤◌, length, get_or, Float}
use Rattle.std.proofs.Common.{sym, ap, ◌∙◌, arith, le-leb}
use Rattle.kdslots.specs.declared.Search.{Search}
use Rattle.kdslots.specs.laws.All.{All, AllBelow}
use Rattle.kdslots.specs.Bounds.{coords_ok}
use Rattle.kdbush.specs.Run.{places}
use Rattle.kdbush.specs.laws.Run.{places-length}
use Rattle.kdwalk.specs.Reply.{walk}
use Rattle.kdwalk.specs.laws.Cursor.{head_of}
use Rattle.kdwalk.specs.laws.Walk.{walk-length}
use Rattle.kdpages.specs.declared.Pages.{Pages}
use Rattle.kdpages.specs.Pages.{begun, ahead_of, tail_of, ahead-begun, walk-below}
use Rattle.build_tables.specs.Entries.{Table}
use Rattle.build_tables.specs.Rows.{rows}
use Rattle.build_tables.specs.Lent.{held}
use Rattle.ask_tile_table.specs.declared.asked.AskedTile.{AskedTile}
use Rattle.ask_tile_table.specs.declared.TileSearch.{TileSearch}
use Rattle.ask_tile_table.specs.Tile.{Visit, visits_of, visited}
use Rattle.ask_tile_table.specs.laws.Turns.{walked_turns}

module _ (a : AskedTile) where
  abbrev pub table_of : Table
  table_of = rows (held a.table.entries)

  abbrev pub walked_of : Option TileSearch → List Visit
  walked_of g = walked_turns g (length a.table.entries.x.now) a.table.index.ids.now a.table.index.coords.now

  abbrev pub asked_visits : List Visit
  asked_visits = visited a.options a.z a.x a.y table_of a.table.index.ids.now a.table.index.coords.now

-- what is ahead of a walk that is read a page at a time: the places that its slots name
abbrev pub slots_ahead : Search → List ℕ → Pages → List ℕ
slots_ahead s page p = ahead_of s.query s.node_size s.n s.coords.now page p

abbrev pub places_ahead : Search → List ℕ → List ℕ → Pages → List ℕ
places_ahead s ids page p = places ids (slots_ahead s page p)

-- the search asks this of a table
pub record Searches (s : Search) (g : TileSearch) (n : ℕ) (co : List Float) : Type 0 where
  pub query : s.query ≡ g.query
  pub size : s.node_size ≡ g.node_size
  pub count : s.n ≡ n
  pub coords : s.coords.now ≡ co

-- all places are ahead of a walk that begins: they are what the search walks
pub begins-ahead : (s : Search) (g : TileSearch) (n : ℕ) (co : List Float) → Searches s g n co → (ids page : List ℕ) (p : Pages) → p ≡ begun
    → places_ahead s ids page p ≡ places ids (walk g.query g.node_size n co)
begins-ahead s g n co h ids page p e =
    ap (places_ahead s ids page) e ∙ ap (places ids) (ahead-begun s.query s.node_size s.n s.coords.now page)
    ∙ rw (h.query, h.size, h.count, h.coords)

pub begins-few : (s : Search) (g : TileSearch) (n : ℕ) (co : List Float) → Searches s g n co → (ids page : List ℕ) (p : Pages) → p ≡ begun
    → length (places_ahead s ids page p) ≤ n
begins-few s g n co h ids page p e =
    let w = walk g.query g.node_size n co in
    omega (arith, ap length (begins-ahead s g n co h ids page p e), places-length ids w, walk-length g.query g.node_size n co)

-- so their visits are those of the search
pub begins-visits : (a : AskedTile) (g : TileSearch) (f : Option TileSearch) → f ≡ Some g → (s : Search)
    → Searches s g (length a.table.entries.x.now) a.table.index.coords.now → (page : List ℕ) (p : Pages) → p ≡ begun
    → visits_of g (places_ahead s a.table.index.ids.now page p) ≡ walked_of a f
begins-visits a g f i s h page p e =
    ap (visits_of g) (begins-ahead s g (length a.table.entries.x.now) a.table.index.coords.now h a.table.index.ids.now page p e)
    ∙ sym (ap (walked_of a) i)

pub begins-below : (s : Search) (page : List ℕ) (p : Pages) → p ≡ begun → AllBelow s.n (slots_ahead s page p)
begins-below s page p e =
    rw (e, ahead-begun s.query s.node_size s.n s.coords.now page) (walk-below s.query s.node_size s.n s.coords.now)

-- a step at a slot: its place is the next, what is ahead then is the rest, and all of it is below n
pub head-none : (ids l : List ℕ) → None ≡ head_of l → None ≡ head_of (places ids l)
unfolding places
head-none ids [] e = refl
head-none ids (c ∷ l) e = absurd (let z : ◌≡◌ {A = ℕ} 0 1 = cc in omega arith)

pub head-some : (ids l : List ℕ) (c : ℕ) → Some c ≡ head_of l → Some (get_or ids c 0) ≡ head_of (places ids l)
unfolding places
head-some ids [] c e = absurd (let z : ◌≡◌ {A = ℕ} 0 1 = cc in omega arith)
head-some ids (d ∷ l) c e = let z : c ≡ d = cc in ap (λ (k : ℕ). Some (get_or ids k 0)) z

pub tail-places : (ids l m : List ℕ) → m ≡ tail_of l → places ids m ≡ tail_of (places ids l)
unfolding places
tail-places ids [] m e = rw e
tail-places ids (c ∷ l) m e = rw e

pub head-below : (n : ℕ) (l : List ℕ) (c : ℕ) → Some c ≡ head_of l → AllBelow n l → c < n
unfolding All
head-below n [] c e a = absurd (let z : ◌≡◌ {A = ℕ} 0 1 = cc in omega arith)
head-below n (d ∷ l) c e a = let z : c ≡ d = cc in omega (arith, a.0, z)

pub tail-below : (n : ℕ) (l m : List ℕ) → m ≡ tail_of l → AllBelow n l → AllBelow n m
unfolding All
tail-below n [] m e a = rw e tt
tail-below n (c ∷ l) m e a = rw e a.1

-- an index that may be searched
pub searchable : (size n co : ℕ) → 1 ≤ size → size ≤ 65535 → 1 ≤ n → n ≤ 1048576 → 2 * n ≤ co → coords_ok size n co ≡ true
searchable size n co a b c d e = rw (le-leb 1 size a, le-leb size 65535 b, le-leb 1 n c, le-leb n 1048576 d, le-leb (2 * n) co e)

pub asked-searchable : (a : AskedTile) → (n : ℕ) → n ≡ length a.table.entries.x.now
    → coords_ok a.options.node_size n (length a.table.index.coords.now) ≡ true
asked-searchable a n e =
    searchable a.options.node_size n (length a.table.index.coords.now) a.in_bounds.size-from a.in_bounds.size-to
    (omega (arith, e, a.some)) (omega (arith, e, a.most)) (omega (arith, e, a.table.coords))
