-- The definitions of build_all_zooms, a line a module; what is true of them is in laws. Written by tools/modules.

-- Zooms: the zooms of a build, by SCOPE's 'Tables and one zoom' and the Rust's `load`: the index of a table, zoom after zoom on tables as
-- values, and how tables are packed one after the other in columns and recorded in a state.
pub mod Zooms
-- What is true of these: laws, and what contracts below the surface of build_all_zooms cite beside them.
pub mod laws
