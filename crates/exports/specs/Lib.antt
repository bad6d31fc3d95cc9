-- The definitions of exports, a line a module; what is true of them is in laws. Written by tools/modules.

-- Given: a range and options as a C caller gives them.
pub mod Given
-- Told: replies to the questions as a C caller sees them: SCOPE's number, what is carried, and the output columns afterwards.
pub mod Told
-- Laid: a build as a C caller sees it: SCOPE's number, what is carried, where the tables start and how long they are, and the lent columns
-- afterwards.
pub mod Laid
-- Read: an entry as a C caller reads it: what a zoom and a place lead to, and the number and the seven fields that are left.
pub mod Read
-- What is true of these: laws, and what contracts below the surface of exports cite beside them.
pub mod laws
