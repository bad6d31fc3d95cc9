-- What law_effort says and proves, a line a module. Written by tools/modules.

-- OfBuild: #102, of a build that `load` accepts: a box that SCOPE takes is answered within every allowance, with the effort of its tests
-- and by the room alone; any other is 9; and none is ever refused 11.
pub mod OfBuild
-- Proved: #102 holds of every build that `load` accepts: `effort-of-build`.
pub mod Proved
