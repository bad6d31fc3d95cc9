-- The definitions of ask_box, a line a module; what is true of them is in laws. Written by tools/modules.

-- Lists: what box and ring come to, over whatever the lent columns hold: a refusal before the walk, or the places that the searches find in
-- the table of the zoom used.
pub mod Lists
-- What is true of these: laws, and what contracts below the surface of ask_box cite beside them.
pub mod laws
