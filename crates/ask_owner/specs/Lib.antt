-- The definitions of ask_owner, a line a module; what is true of them is in laws. Written by tools/modules.

-- Asked: the question of a lamp's owner: what the column that a build leaves says of it, for every input.
pub mod Asked
-- What is true of these: laws, and what contracts below the surface of ask_owner cite beside them.
pub mod laws
