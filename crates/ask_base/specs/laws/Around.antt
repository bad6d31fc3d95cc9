-- The ring around an entry of a table, as `ring_of` and `ring_at` give it and `Ring::next` walks over it a page at a time: its slots, and
-- what is ahead of a walk. Where the entry's place is no finite number the search is none that kdwalk takes, and the walk has no slots. No
-- definition of a question goes by this walk: children are what `within` answers (ask_child_walk/specs/Kids), and that the walk goes
-- over all of it is a law there (ask_child_walk/specs/Within). Assumes nothing.
use Rattle.std.specs.Prelude.{◌≡◌, List, [], ◌∷◌, ℕ, ◌-◌, ◌<◌, ◌≤◌, length, Float, Option, Some}
use Rattle.std.proofs.Math.Path.{ap}
use Rattle.std.proofs.Common.{◌∙◌}
use Rattle.kdslots.specs.declared.Query.{Query}
use Rattle.kdslots.specs.declared.Query.TheVariants.{Within}
use Rattle.kdpages.specs.declared.Pages.{Pages}
use Rattle.kdslots.specs.laws.All.{AllBelow}
use Rattle.kdwalk.specs.Reply.{walk}
use Rattle.kdwalk.specs.laws.Cursor.{head_of}
use Rattle.kdwalk.specs.laws.Walk.{walk-length}
use Rattle.kdpages.specs.Pages.{begun, ahead_of, tail_of, ahead-begun, walk-below, next-slot, below_next, next-end}
use Rattle.build_tables.specs.declared.State.{State}
use Rattle.build_tables.specs.State.{start_of, len_of}
use Rattle.build_tables.specs.Entries.{Table, entry}
use Rattle.build_tables.specs.Radius.{radius_at}
use Rattle.build_tables.specs.Rows.{rows}
use Rattle.build_tables.specs.Room.{Columns}
use Rattle.build_tables.specs.Lent.{held}
use Rattle.ask_base.specs.declared.RingPart.{RingPart}
use Rattle.ask_base.specs.declared.ring.Ring.{Ring}
use Rattle.ask_base.specs.Columns.{table_at, ids_at, coords_at}

-- a table of len entries with its index, and a search in it
pub record Around : Type 0 where
  pub table : Table
  pub len : ℕ
  pub ids : List ℕ
  pub coords : List Float
  pub query : Query
  pub node_size : ℕ

-- what a ring holds
abbrev pub ring_held : Ring → Around
ring_held g = record {
  table = rows (held g.table.entries);
  len = g.search.n;
  ids = g.table.index.ids.now;
  coords = g.search.coords.now;
  query = g.search.query;
  node_size = g.search.node_size;
}

-- where the ring around the entry o of the table t of zoom z lies: its radius is that of zoom z - 1
abbrev pub ring_of : State → Table → ℕ → ℕ → RingPart
ring_of s t z o = record {
  start = start_of s z;
  len = len_of s z;
  x = (entry t o).x;
  y = (entry t o).y;
  radius = radius_at s.options.radius s.options.extent (z - 1);
  node_size = s.options.node_size;
}

-- its query: what lies around the origin, within the ring's radius
abbrev pub query_of : RingPart → Query
query_of g = Within g.x g.y g.radius

-- the ring around the entry o of zoom z's table, in the lent columns
abbrev pub ring_at : State → Columns → ℕ → ℕ → Around
ring_at s c z o = record {
  table = table_at s c z;
  len = len_of s z;
  ids = ids_at s c.ids z;
  coords = coords_at s c.coords z;
  query = query_of (ring_of s (table_at s c z) z o);
  node_size = s.options.node_size;
}

-- the slots that a ring answers, in the order of the search
unfoldable pub slots_of : Around → List ℕ
slots_of g = walk g.query g.node_size g.len g.coords

-- ---- a walk over them

-- what is ahead of a walk that is read a page at a time
abbrev pub ahead_in : Around → List ℕ → Pages → List ℕ
ahead_in g page p = ahead_of g.query g.node_size g.len g.coords page p

module _ (g : Around) where
  -- of a walk that begins all slots are ahead
  pub ring-begun : (page : List ℕ) (p : Pages) → p ≡ begun → ahead_in g page p ≡ slots_of g
  unfolding slots_of
  ring-begun page p e =
      ap (ahead_in g page) e ∙ ahead-begun g.query g.node_size g.len g.coords page

  -- each slot is one of the ring's table
  pub ring-below : AllBelow g.len (slots_of g)
  unfolding slots_of
  ring-below = walk-below g.query g.node_size g.len g.coords

  -- a step r of the walk, with what was ahead of it and what is ahead now
  module _ (page : List ℕ) (p : Pages) (r : Option ℕ) (f : r ≡ head_of (ahead_in g page p)) where
    -- at a slot: what was ahead is the slot, which lies in the table, and then what is ahead now
    pub ring-next : (page' : List ℕ) (p' : Pages) → ahead_in g page' p' ≡ tail_of (ahead_in g page p) → (c : ℕ) → r ≡ Some c
        → AllBelow g.len (ahead_in g page p)
        → (ahead_in g page p ≡ c ∷ ahead_in g page' p') × (c < g.len) × AllBelow g.len (ahead_in g page' p')
    ring-next page' p' e c d b =
        let h = next-slot (ahead_in g page p) (ahead_in g page' p') r c d f e in
        let w = below_next g.len (ahead_in g page p) c (ahead_in g page' p') h b in
        (h, w.0, w.1)

    -- at a step that is no slot: nothing was ahead
    pub ring-end : ((i : ℕ) → r ≡ Some i → ⊥) → ahead_in g page p ≡ []
    ring-end h = next-end (ahead_in g page p) r h f

  pub slots-few : length (slots_of g) ≤ g.len
  unfolding slots_of
  slots-few = walk-length g.query g.node_size g.len g.coords
