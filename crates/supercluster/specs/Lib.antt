-- The definitions of supercluster, a line a module; what is true of them is in laws. Written by tools/modules.

-- Build: the build, by SCOPE's 'Tables and one zoom' and the Rust's `load`: the refusals in order; otherwise the finest table, and each
-- zoom from max_zoom down to min_zoom, every table with its index, packed from position 0.
pub mod Build
-- Lent: the ten lent columns of a build in a contract, each named once.
pub mod Lent
-- What is true of these: laws, and what contracts below the surface of supercluster cite beside them.
pub mod laws
