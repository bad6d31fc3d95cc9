-- The definitions of ask_effort_tests, a line a module; what is true of them is in laws. Written by tools/modules.

-- Tested: the slots that the definition of a search tests, in the order in which it tests them.
pub mod Tested
-- Trials: the tests of queries over an index, those of both halves of a box that is split in one list, and what the first of them find.
pub mod Trials
-- Reply: what a search with an allowance replies and leaves in the lent column, by the tests of its definition; and SCOPE's numbers of the
-- reply.
pub mod Reply
-- What is true of these: laws, and what contracts below the surface of ask_effort_tests cite beside them.
pub mod laws
