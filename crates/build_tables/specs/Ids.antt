-- The id of a cluster, origin * 32 + (zoom + 1) + N, and what is read from it: the origin and the table that it was made at. Definitions
-- only.
use Rattle.std.specs.Prelude.{ℕ, ◌+◌, ◌-◌, ◌*◌, ◌/◌, ◌%◌}

-- the cluster made at the place i of the table z + 1, in a build of n points
abbrev pub cluster_id : ℕ → ℕ → ℕ → ℕ
cluster_id n z i = i * 32 + (z + 1) + n

-- back from an id: the place that it was made at, and the table of that place
abbrev pub origin_of : ℕ → ℕ → ℕ
origin_of n id = (id - n) / 32

abbrev pub table_of : ℕ → ℕ → ℕ
table_of n id = (id - n) % 32
