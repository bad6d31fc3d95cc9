-- The definitions of kdslots, a line a module; what is true of them is in laws. Written by tools/modules.

-- Query: the tests of a search on the two coordinates of a slot, and of the coordinate at which an interval is split, one rounding an
-- operation, and SCOPE's bounds of a query.
pub mod Query
-- Slots: the slots that a search answers, in its order: those of an interval that is not split one by one; of any other the median first,
-- where it passes, next what lies right of it, and last what lies left.
pub mod Slots
-- Bounds: the bounds of a node size, a count and an index.
pub mod Bounds
-- Keep: the places of a list that pass a test, in the list's order.
pub mod Keep
-- Covers: what a search asks of an interval that it goes into.
pub mod Covers
-- What is true of these: laws, and what contracts below the surface of kdslots cite beside them.
pub mod laws
