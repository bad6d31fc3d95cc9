-- The definitions of build_owners, a line a module; what is true of them is in laws. Written by tools/modules.

-- OwnerColumn: each lamp's owner in each table, as a place of the table, climbed to from the lamp; and the column that keeps them, one
-- table after the other, the finest first.
pub mod OwnerColumn
-- What is true of these: laws, and what contracts below the surface of build_owners cite beside them.
pub mod laws
