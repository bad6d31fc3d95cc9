-- The definitions of ask_tile, a line a module; what is true of them is in laws. Written by tools/modules.

-- Asked: the question of a tile: what it comes to, its answer, and the three columns afterwards, for every input.
pub mod Asked
-- Tallied: the question of a tile's tally: its answer, for every input.
pub mod Tallied
-- What is true of these: laws, and what contracts below the surface of ask_tile cite beside them.
pub mod laws
