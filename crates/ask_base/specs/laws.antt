-- What is true of the definitions of ask_base, a line a module. Written by tools/modules.

-- Filled: a column that is filled one item at a time: a store at the number of items so far is one more item, whether it fits or not.
pub mod Filled
-- Columns: of a table that stands in the lent columns the parts are as long as the table, and what is lent of the columns from its start to
-- its end is the table.
pub mod Columns
-- Reached: a place that a walk may stand at: an entry of a table above that of min_zoom, of a sound state.
pub mod Reached
-- Around: the ring around an entry of a table, as `ring_of` and `ring_at` give it and `Ring::next` walks over it a page at a time: its
-- slots, and what is ahead of a walk.
pub mod Around
