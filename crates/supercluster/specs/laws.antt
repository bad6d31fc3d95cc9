-- What is true of the definitions of supercluster, a line a module. Written by tools/modules.

-- Over: columns of which a front is written, the rows of columns whose front is a table, and that these keep their room.
pub mod Over
-- Fill: the finest table, entry by entry: how long it is, what each entry is, and that points within [0,1] make entries there, of one lamp
-- each.
pub mod Fill
-- Ready: a build of what is within bounds: its first table is ready, and what the loop over the zooms leaves is the build.
pub mod Ready
-- Load: a build that is not refused: its points lie within [0,1] and its columns are long enough; and what it leaves in columns that were
-- cut from longer ones.
pub mod Load
-- Right: of every build that is accepted: each entry of each table lies from 0 to 1 and counts one lamp or more, each table counts the
-- lamps, once each, and has 1 to N entries; and all tables together have no more entries than a lent column has to hold.
pub mod Right
-- Held: the tables that a state says stand in the rows.
pub mod Held
-- Replies: any two outcomes that meet the contract of `load` are equal: the reply, its state and every column.
pub mod Replies
