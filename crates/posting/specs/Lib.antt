-- The definitions of posting, a line a module; what is true of them is in laws. Written by tools/modules.

-- Post: posting a reading (#110): one lamp's figure replaced in the energies of all its owners, without a new build; for every input.
pub mod Post
-- What is true of these: laws, and what contracts below the surface of posting cite beside them.
pub mod laws
