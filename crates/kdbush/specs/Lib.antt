-- The definitions of kdbush, a line a module; what is true of them is in laws. Written by tools/modules.

-- Run: what a search leaves: the places that are sound, and the column, 'first items, then old contents'.
pub mod Run
-- Reply: the replies of the public functions and what they leave in the lent columns, for every input: SCOPE's refusals in its order, and
-- otherwise the answer.
pub mod Reply
-- What is true of these: laws, and what contracts below the surface of kdbush cite beside them.
pub mod laws
