-- The definitions of law_groups, a line a module; what is true of them is in laws. Written by tools/modules.

-- Sums: sums over a list of places, how often a place is in it, and the places from one on.
pub mod Sums
-- Groups: the next table of a zoom as groups: each of its entries, with the places of the table that it stands for. n is the number of
-- points, least is min_points, z the zoom; `near i` are the places answered around the place i.
pub mod Groups
-- What is true of these: laws, and what contracts below the surface of law_groups cite beside them.
pub mod laws
