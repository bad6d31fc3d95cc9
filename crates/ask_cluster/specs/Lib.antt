-- The definitions of ask_cluster, a line a module; what is true of them is in laws. Written by tools/modules.

-- Children: what a question for children comes to: the places of the entries whose parent the cluster is.
pub mod Children
-- Leaves: the lamps of a cluster: a walk over its children as the search finds them, into each that is a cluster and is not skipped whole.
pub mod Leaves
-- Expansion: the expansion zoom of a cluster: from its table - 1 on it grows by one with each search for children, to max_zoom + 1 at the
-- most, and another search follows where a single cluster was found.
pub mod Expansion
-- What is true of these: laws, and what contracts below the surface of ask_cluster cite beside them.
pub mod laws
