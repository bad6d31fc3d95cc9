-- The definitions of range, a line a module; what is true of them is in laws. Written by tools/modules.

-- Range: a range takes a coordinate to the tables' numbers and back, by its offset and its scale, as given or else made of its minima and
-- maxima; and a point is converted as its coordinate system says.
pub mod Range
-- What is true of these: laws, and what contracts below the surface of range cite beside them.
pub mod laws
