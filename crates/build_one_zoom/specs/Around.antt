-- What stands around a place, by a zoom: the places that its searches answer. Definitions only.
use Rattle.std.specs.Prelude.{List, ℕ, Float}
use Rattle.build_one_zoom.specs.declared.zoom.Zoom.{Zoom}
use Rattle.build_one_zoom.specs.Near.{near_of}

-- the places around (x, y)
abbrev pub around : Zoom → Float → Float → List ℕ
around z = near_of z.node_size z.len z.index.ids.now z.index.coords.now z.radius
