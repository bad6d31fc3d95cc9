-- The definitions of ask_child_walk, a line a module; what is true of them is in laws. Written by tools/modules.

-- Kids: the children of a cluster: `within` at the origin in its table, with the radius of the zoom below, keeping the entries whose parent
-- is the id.
pub mod Kids
-- What is true of these: laws, and what contracts below the surface of ask_child_walk cite beside them.
pub mod laws
