-- What the numbers of a text stand for: a coordinate, and the options of a build. Definitions only.
use Rattle.std.specs.Prelude.{false, ℕ, pos, Float, Some}
use Rattle.std.specs.Float.{binary64}
use Rattle.std.specs.Float.Ieee.{of_int, div}
use Rattle.floats.specs.Numbers.{zero, one, pow16}
use Rattle.range.specs.declared.CoordinateSystem.{CoordinateSystem}
use Rattle.range.specs.declared.CoordinateSystem.TheVariants.{Cartesian}
use Rattle.build_tables.specs.declared.Options.{Options}
use Rattle.lister_text.specs.declared.Head.{Head}

-- a whole number
abbrev pub whole_of : ℕ → Float
whole_of k = of_int binary64 (pos k)

-- a coordinate: so many 65,536ths
abbrev pub coord_of : ℕ → Float
coord_of k = div binary64 (whole_of k) pow16

-- Cartesian with offset 0 and scale 1
abbrev pub unit_system : CoordinateSystem
unit_system = Cartesian (record { min_x = zero; min_y = zero; max_x = one; max_y = one; offset = Some zero; scale = Some one })

abbrev pub options_of : Head → Options
options_of h =
    record {
      min_zoom = h.min_zoom;
      max_zoom = h.max_zoom;
      min_points = h.min_points;
      radius = whole_of h.radius;
      extent = whole_of h.extent;
      node_size = h.node_size;
      coordinate_system = unit_system;
      longitude_strips_only = false;
    }
