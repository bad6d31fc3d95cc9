-- What is true of the definitions of owners, a line a module. Written by tools/modules.

-- Paging: any list turned page by page, the page k of a size beginning at k * size: how long a page is, that pages put together are the
-- list, and that what is in the list once is on exactly one page.
pub mod Paging
-- Proved: every build that `load` accepts has one owner for every lamp: `one-owner`.
pub mod Proved
-- Keeping: what `load` leaves, from what `supercluster::load` and `build_owners::fill` leave: the first is lent a front of `near`, the
-- second fills the owners from the fronts of the columns.
pub mod Keeping
-- Fronted: the fronts of the columns that an accepted build leaves: they hold its tables, and its owner column can be filled from them.
pub mod Fronted
-- KeptProved: what `load` replies and leaves, where it refuses nothing, has one owner for every lamp, and the owner column has it.
pub mod KeptProved
-- Replies: any two outcomes that meet the contract of `load` are equal: the reply, the state, every column and that of the owners.
pub mod Replies
