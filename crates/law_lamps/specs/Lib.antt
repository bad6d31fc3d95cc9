-- The definitions of law_lamps, a line a module; what is true of them is in laws. Written by tools/modules.

-- Owner: each lamp's owner in each table of a build, as a place of the table, and the lamps of the entry at a place.
pub mod Owner
-- What is true of these: laws, and what contracts below the surface of law_lamps cite beside them.
pub mod laws
