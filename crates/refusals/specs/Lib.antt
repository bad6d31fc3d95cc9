-- The definitions of refusals, a line a module; what is true of them is in laws. Written by tools/modules.

-- Refusals: SCOPE's number of a refusal and of a reply, and what they carry.
pub mod Refusals
-- What is true of these: laws, and what contracts below the surface of refusals cite beside them.
pub mod laws
