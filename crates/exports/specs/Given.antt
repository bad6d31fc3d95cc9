-- A range and options as a C caller gives them. Definitions only.
use Rattle.std.specs.Prelude.{Bool, ℕ, Float}
use Rattle.range.specs.declared.DataRange.{DataRange}
use Rattle.build_tables.specs.declared.Options.{Options}
use Rattle.build_tables.specs.Given.{setting_of, system_of}

-- the range of a Cartesian plan
abbrev pub ranged : Float → Float → Float → Float → Bool → Float → Bool → Float → DataRange
ranged a b c d offset_given offset scale_given scale =
    record {
      min_x = a;
      min_y = b;
      max_x = c;
      max_y = d;
      offset = setting_of offset_given offset;
      scale = setting_of scale_given scale;
    }

-- the options, in the order in which every function takes them
abbrev pub given_options : ℕ → ℕ → ℕ → Float → Float → ℕ
    → Bool → Float → Float → Float → Float → Bool → Float → Bool → Float → Bool → Options
given_options low high least radius extent size cartesian a b c d offset_given offset scale_given scale strips_only =
    record {
      min_zoom = low;
      max_zoom = high;
      min_points = least;
      radius = radius;
      extent = extent;
      node_size = size;
      coordinate_system = system_of cartesian (ranged a b c d offset_given offset scale_given scale);
      longitude_strips_only = strips_only;
    }
