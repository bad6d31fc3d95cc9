-- The bounds of a node size, a count and an index. Definitions only.
use Rattle.std.specs.Prelude.{Bool, ◌&&◌, ℕ, ◌*◌, leb}

-- the most points that an index may have, and the largest node size
abbrev pub most_points : ℕ
most_points = 1048576

abbrev pub most_node_size : ℕ
most_node_size = 65535

-- a node size that an index may have
abbrev pub node_size_ok : ℕ → Bool
node_size_ok size = leb 1 size && leb size most_node_size

-- a number of points that an index may have
abbrev pub count_ok : ℕ → Bool
count_ok n = leb 1 n && leb n most_points

-- an index of n slots whose coordinates may be searched
abbrev pub coords_ok : ℕ → ℕ → ℕ → Bool
coords_ok size n co = node_size_ok size && count_ok n && leb (2 * n) co
