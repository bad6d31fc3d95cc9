-- What a search asks of an interval that it goes into. Definitions only.
use Rattle.std.specs.Prelude.{◌*◌, ◌≤◌, length}
use Rattle.kdsort.specs.declared.interval.Interval.{Interval}
use Rattle.kdslots.specs.declared.Search.{Search}

-- the coordinates reach to the interval's end, and the node size is none that is too large
abbrev pub Covers : Search → Interval → Type 0
Covers s v = (2 * v.hi ≤ length s.coords.now) × (s.node_size ≤ 65535)
