-- An id of a build is at least N, is not the unset parent, and gives its origin and its table back. Assumes nothing.
use Rattle.std.specs.Prelude.{◌≡◌, ℕ, ◌+◌, ◌<◌, ◌≤◌}
use Rattle.std.proofs.Common.{arith}
use Rattle.build_tables.specs.Entries.{unset}
use Rattle.build_tables.specs.Ids.{cluster_id, origin_of, table_of}

-- ---- laws, for a zoom from 0 to 30

pub id-origin : (n z i : ℕ) → z ≤ 30 → origin_of n (cluster_id n z i) ≡ i
id-origin n z i h = omega arith

pub id-table : (n z i : ℕ) → z ≤ 30 → table_of n (cluster_id n z i) ≡ z + 1
id-table n z i h = omega arith

pub id-from : (n z i : ℕ) → n ≤ cluster_id n z i
id-from n z i = omega arith

-- it fits 32 bits and is not the unset parent
pub id-small : (n z i : ℕ) → z ≤ 30 → n ≤ 1048576 → i < 1048576 → cluster_id n z i < unset
id-small n z i a b c = omega arith

-- clusters of different origins or zooms have different ids
pub id-apart : (n z z' i i' : ℕ) → z ≤ 30 → z' ≤ 30 → cluster_id n z i ≡ cluster_id n z' i' → (i ≡ i') × (z ≡ z')
id-apart n z z' i i' h k e = (omega arith, omega arith)
