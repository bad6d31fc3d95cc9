-- What replay_index says and proves, a line a module. Written by tools/modules.

-- Read: what the contracts say of what is read: queries.
pub mod Read
-- Same: what the comparisons are: of a build, of a query's list and of the cursor's walk with what is expected.
pub mod Same
