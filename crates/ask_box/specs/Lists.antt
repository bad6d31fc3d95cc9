-- What box and ring come to, over whatever the lent columns hold: a refusal before the walk, or the places that the searches find in the
-- table of the zoom used. Definitions only.
use Rattle.std.specs.Prelude.{Bool, cond, not, ℕ, Float}
use mathlib.Core.List.{List, [], ◌∷◌, flat_map}
use Rattle.kdslots.specs.declared.Query.{Query}
use Rattle.kdslots.specs.declared.Query.TheVariants.{Within}
use Rattle.kdslots.specs.Query.{query_ok}
use Rattle.kdbush.specs.Run.{sound, whole}
use Rattle.kdbush.specs.Reply.{found}
use Rattle.build_tables.specs.declared.State.{State}
use Rattle.build_tables.specs.Options.{zoom_used}
use Rattle.build_tables.specs.State.{len_of}
use Rattle.build_tables.specs.Sound.{state_ok}
use Rattle.refusals.specs.declared.Refusal.TheVariants.{Box, Spoiled}
use Rattle.ask_base.specs.Asked.{Asked, refused, told}
use Rattle.build_tables.specs.Room.{index_room}
use Rattle.ask_base.specs.Columns.{ids_at, coords_at}
use Rattle.ask_box_plan.specs.Rule.{plan_of, box_ok}

-- places of a table of n entries, one after the other: the walk ends before the first that is past the table
abbrev pub walked : ℕ → List ℕ → Asked
walked n ps = told (whole n ps) (sound n ps)

-- the places that queries find in an index of n slots, one query after the other
abbrev pub planned : List Query → ℕ → ℕ → List ℕ → List Float → List ℕ
planned qs size n ids co = flat_map (λ q. found q size n ids co) qs

-- a walk over what queries find in the table of zoom z
abbrev pub listed_at : State → List ℕ → List Float → ℕ → List Query → Asked
listed_at s ids co z qs = walked (len_of s z) (planned qs s.options.node_size (len_of s z) (ids_at s ids z) (coords_at s co z))

-- refusals in SCOPE's order: the state (11), then the numbers (9), then the walk in the table of the zoom used
abbrev pub asked : State → List ℕ → List Float → ℕ → Bool → List Query → Asked
asked s ids co zoom ok qs =
    cond (not (state_ok s (index_room ids co))) (refused Spoiled)
    (cond (not ok) (refused Box)
    (listed_at s ids co (zoom_used s.options zoom) qs))

-- the ring (zoom, x, y, radius): `within`, all three in table units; 9 where one is not finite or the radius is negative
unfoldable pub ring_asked : State → List ℕ → List Float → ℕ → Float → Float → Float → Asked
ring_asked s ids co zoom x y r = asked s ids co zoom (query_ok (Within x y r)) (Within x y r ∷ [])

-- the box (west, least y, east, greatest y) at a zoom
unfoldable pub box_asked : State → List ℕ → List Float → ℕ → Float → Float → Float → Float → Asked
box_asked s ids co zoom west least east greatest =
    let c = s.options.coordinate_system in
    asked s ids co zoom (box_ok c west least east greatest) (plan_of c west least east greatest)
