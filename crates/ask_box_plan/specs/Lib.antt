-- The definitions of ask_box_plan, a line a module; what is true of them is in laws. Written by tools/modules.

-- Rule: a box as it is searched: the rule for its longitudes, its one or two queries, and the numbers that are taken.
pub mod Rule
-- What is true of these: laws, and what contracts below the surface of ask_box_plan cite beside them.
pub mod laws
