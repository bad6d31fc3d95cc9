-- The squared distance that a search tests against radius * radius, each operation rounded. Definitions only.
use Rattle.std.specs.Prelude.{Float}
use Rattle.std.specs.Float.{binary64}
use Rattle.std.specs.Float.Ieee.{add, sub, mul}

-- the squared distance of (ax, ay) from (bx, by), each operation rounded
abbrev pub sq_dist : Float → Float → Float → Float → Float
sq_dist ax ay bx by =
    let dx = sub binary64 ax bx in
    let dy = sub binary64 ay by in
    add binary64 (mul binary64 dx dx) (mul binary64 dy dy)
