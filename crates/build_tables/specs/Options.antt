-- SCOPE's numbers that bound a build, and what the options say of its tables. Definitions only.
use Rattle.std.specs.Prelude.{Bool, cond, ◌&&◌, ℕ, ◌+◌, ◌-◌, leb, ltb}
use Rattle.std.specs.Float.Ieee.{le}
use Rattle.floats.specs.Numbers.{zero, one, pow16}
use Rattle.range.specs.Range.{system_in_bounds}
use Rattle.kdslots.specs.Bounds.{node_size_ok}
use Rattle.build_tables.specs.declared.Options.{Options}

-- min_zoom <= max_zoom <= 30
abbrev pub zooms_ok : Options → Bool
zooms_ok o = leb o.min_zoom o.max_zoom && leb o.max_zoom 30

-- radius 0 to 65,536; extent 1 to 65,536: no NaN and no infinity is
abbrev pub radius_ok : Options → Bool
radius_ok o = le zero o.radius && le o.radius pow16

abbrev pub extent_ok : Options → Bool
extent_ok o = le one o.extent && le o.extent pow16

-- min_points is 0 to 255 by its width
unfoldable pub options_ok : Options → Bool
options_ok o = zooms_ok o && radius_ok o && extent_ok o && node_size_ok o.node_size && system_in_bounds o.coordinate_system

-- how many tables a build has: that of max_zoom + 1, and one for each zoom down to min_zoom
abbrev pub table_count : Options → ℕ
table_count o = o.max_zoom - o.min_zoom + 2

-- the zoom used: at least min_zoom, and at most max_zoom + 1
abbrev pub raised : Options → ℕ → ℕ
raised o z = cond (ltb z o.min_zoom) o.min_zoom z

abbrev pub zoom_used : Options → ℕ → ℕ
zoom_used o z = cond (ltb (o.max_zoom + 1) (raised o z)) (o.max_zoom + 1) (raised o z)
