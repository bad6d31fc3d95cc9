-- The definitions of law_answers, a line a module; what is true of them is in laws. Written by tools/modules.

-- Stored: what a question is lent of the columns that a build leaves.
pub mod Stored
-- What is true of these: laws, and what contracts below the surface of law_answers cite beside them.
pub mod laws
