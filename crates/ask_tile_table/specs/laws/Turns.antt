-- One turn of a walk over what a search finds: the end, an entry that cannot be listed, or one more item. Assumes nothing.
use Rattle.std.specs.Prelude.{◌≡◌, refl, Bool, true, false, cond, ◌&&◌, List, [], ◌∷◌, ℕ, ◌+◌, ◌<◌, ◌≤◌, ltb, length, set, Option, Some, None, Ok, Err, ℤ, Float}
use Rattle.std.proofs.Common.{sym, ◌∙◌, arith, ltb-true, lt-ltb, le-ltb}
use Rattle.std.proofs.Math.Path.{ap}
use Rattle.std.proofs.lemmas.List.{length-map}
use Rattle.floats.specs.laws.Fraction.{yes_of}
use Rattle.floats.specs.laws.Unit.{In01, in01→In01}
use Rattle.floats.specs.Unit.{in01}
use Rattle.kdslots.specs.Query.{query_ok}
use Rattle.kdbush.specs.Run.{places}
use Rattle.kdbush.specs.laws.Run.{places-length}
use Rattle.kdslots.specs.Bounds.{coords_ok}
use Rattle.kdslots.specs.laws.Bounds.{and_both}
use Rattle.kdwalk.specs.Reply.{walk}
use Rattle.kdwalk.specs.laws.Walk.{walk-length}
use Rattle.refusals.specs.declared.Refusal.TheVariants.{Spoiled}
use Rattle.build_tables.specs.declared.Entry.{Entry}
use Rattle.build_tables.specs.Entries.{Table, entry}
use Rattle.ask_tile_table.specs.declared.TileSearch.{TileSearch}
use Rattle.ask_tile_table.specs.declared.Item.{Item}
use Rattle.ask_tile_table.specs.Tile.{Visit, visits_of, visits, made_if, listable, item_of, item_at}
use Rattle.ask_tile_table.specs.laws.Finite.{walk-whole}
use Rattle.ask_tile_table.specs.laws.Runs.{Left, left_runs, run_tile}

-- what the walk goes over for a search of a table of n entries: nothing where the tile has no such search
abbrev pub walked_turns : Option TileSearch → ℕ → List ℕ → List Float → List Visit
walked_turns None n ids co = []
walked_turns (Some g) n ids co = visits_of g (places ids (walk g.query g.node_size n co))

pub walked-length : (g : Option TileSearch) (n : ℕ) (ids : List ℕ) (co : List Float) → length (walked_turns g n ids co) ≤ n
walked-length None n ids co = omega arith
walked-length (Some g) n ids co =
    let w = walk g.query g.node_size n co in
    omega (
      arith,
      length-map {B = Visit} (places ids w) (λ p. record { by = g; place = p }),
      places-length ids w,
      walk-length g.query g.node_size n co,
    )

-- it is what the search finds
pub walked_whole : (made : Bool) (g : TileSearch) (t : Table) (ids : List ℕ) (co : List Float)
    → coords_ok g.node_size (length t) (length co) ≡ true → query_ok g.query ≡ true
    → walked_turns (made_if made g) (length t) ids co ≡ visits made g t ids co
walked_whole true g t ids co a b = ap (λ (l : List ℕ). visits_of g (places ids l)) (walk-whole g.query g.node_size (length t) co a b)
walked_whole false g t ids co a b = refl

-- ---- an entry that can be listed, and one that cannot

-- what stands at the place p, as the code says it
abbrev pub named_at : Table → ℕ → Option Entry
named_at t p = cond (listable t p) (Some (entry t p)) None

pub named-bad : (t : Table) (p : ℕ) → named_at t p ≡ None → listable t p ≡ false
named-bad t p = go (listable t p)
  where
    go : (b : Bool) → cond b (Some (entry t p)) None ≡ None → b ≡ false
    go true e = absurd (let z : ◌≡◌ {A = ℕ} 0 1 = cc in omega arith)
    go false e = refl

pub named-at : (t : Table) (p : ℕ) (e : Entry) → named_at t p ≡ Some e → (listable t p ≡ true) × (e ≡ entry t p)
named-at t p e = go (listable t p)
  where
    go : (b : Bool) → cond b (Some (entry t p)) None ≡ Some e → (b ≡ true) × (e ≡ entry t p)
    go true f = (refl, cc)
    go false f = absurd (let z : ◌≡◌ {A = ℕ} 0 1 = cc in omega arith)

-- by the tests, one after the other
pub named-out : (t : Table) (p : ℕ) → length t ≤ p → None ≡ named_at t p
named-out t p h = rw (le-ltb p (length t) h)

pub named-x : (t : Table) (p : ℕ) → in01 (entry t p).x ≡ false → None ≡ named_at t p
named-x t p e = go (ltb p (length t))
  where
    go : (b : Bool) → None ≡ cond (b && (in01 (entry t p).x && in01 (entry t p).y)) (Some (entry t p)) None
    go true = rw e
    go false = refl

pub named-y : (t : Table) (p : ℕ) → in01 (entry t p).y ≡ false → None ≡ named_at t p
named-y t p e = go (ltb p (length t)) (in01 (entry t p).x)
  where
    go : (b d : Bool) → None ≡ cond (b && (d && in01 (entry t p).y)) (Some (entry t p)) None
    go true true = rw e
    go true false = refl
    go false d = refl

pub named-is : (t : Table) (p : ℕ) (e : Entry) → e ≡ entry t p → p < length t → in01 e.x ≡ true → in01 e.y ≡ true → Some e ≡ named_at t p
named-is t p e s h u v =
    let a : in01 (entry t p).x ≡ true = ap (λ (w : Entry). in01 w.x) (sym s) ∙ u in
    let b : in01 (entry t p).y ≡ true = ap (λ (w : Entry). in01 w.y) (sym s) ∙ v in
    rw (lt-ltb p (length t) h, a, b) (ap Some s)

-- it is a place of the table, with x and y in [0,1]
pub record Fine (t : Table) (p : ℕ) (e : Entry) : Type 0 where
  pub same : e ≡ entry t p
  pub inside : p < length t
  pub x-in : In01 e.x
  pub y-in : In01 e.y

pub named-fine : (t : Table) (p : ℕ) (e : Entry) → named_at t p ≡ Some e → Fine t p e
named-fine t p e h =
    let w = named-at t p e h in
    let a = and_both (ltb p (length t)) _ w.0 in
    let b = and_both (in01 (entry t p).x) (in01 (entry t p).y) a.1 in
    rw w.1 (record {
      same = refl;
      inside = ltb-true p (length t) a.0;
      x-in = in01→In01 (entry t p).x (yes_of b.0);
      y-in = in01→In01 (entry t p).y (yes_of b.1);
    })

-- ---- the turns

run-bad : (t : Table) (k : ℕ) (v : Visit) (vs : List Visit) (out : List ℕ) (xs ys : List ℤ) → listable t v.place ≡ false
    → left_runs (Err Spoiled) out xs ys ≡ run_tile t k (v ∷ vs) out xs ys
unfolding run_tile
run-bad t k v vs out xs ys e = rw (e, run_tile)

run-one : (t : Table) (k : ℕ) (v : Visit) (vs : List Visit) (out : List ℕ) (xs ys : List ℤ) → listable t v.place ≡ true
    → run_tile t k (v ∷ vs) out xs ys ≡ run_tile t (k + 1) vs (set out k (item_at t v).place) (set xs k (item_at t v).x)
    (set ys k (item_at t v).y)
unfolding run_tile
run-one t k v vs out xs ys e = rw (e, run_tile)

pub run_none : (t : Table) (k : ℕ) (out : List ℕ) (xs ys : List ℤ) → left_runs (Ok k) out xs ys ≡ run_tile t k [] out xs ys
unfolding run_tile
run_none t k out xs ys = refl

module _ (t : Table) (g : TileSearch) (k : ℕ) (ps : List ℕ) (out : List ℕ) (xs ys : List ℤ) where
  -- what is still to be visited, k being listed
  abbrev pub still : Left
  still = run_tile t k (visits_of g ps) out xs ys

  pub turn_end : ps ≡ [] → left_runs (Ok k) out xs ys ≡ still
  unfolding run_tile
  turn_end e = rw e

  pub turn-bad : (p : ℕ) (m : List ℕ) → ps ≡ p ∷ m → named_at t p ≡ None → left_runs (Err Spoiled) out xs ys ≡ still
  turn-bad p m e h = rw e (run-bad t k (record { by = g; place = p }) (visits_of g m) out xs ys (named-bad t p h))

  pub turn-next : (p : ℕ) (m : List ℕ) → ps ≡ p ∷ m → (e : Entry) → named_at t p ≡ Some e → (i : Item) → i ≡ item_of g p e
      → (o : List ℕ) (a b : List ℤ) → o ≡ set out k i.place → a ≡ set xs k i.x → b ≡ set ys k i.y
      → run_tile t (k + 1) (visits_of g m) o a b ≡ still
  turn-next p m s e h i w o a b q r u =
      let f = named-at t p e h in
      let j : i ≡ item_of g p (entry t p) = w ∙ ap (item_of g p) f.1 in
      rw (q, r, u, j, s) (sym (run-one t k (record { by = g; place = p }) (visits_of g m) out xs ys f.0))
