-- The definitions of build_one_zoom, a line a module; what is true of them is in laws. Written by tools/modules.

-- Zoom: one zoom, by SCOPE: the entries of a table in order, each passed by, or marked and then made a cluster with its unseen neighbours,
-- or copied with them.
pub mod Zoom
-- Scanned: what the columns hold while a table is scanned: its entries, and right after them the next table's, as far as it is made.
pub mod Scanned
-- Near: the neighbours of a place: what `within` answers around it, over the index of the table.
pub mod Near
-- Around: what stands around a place, by a zoom: the places that its searches answer.
pub mod Around
-- What is true of these: laws, and what contracts below the surface of build_one_zoom cite beside them.
pub mod laws
