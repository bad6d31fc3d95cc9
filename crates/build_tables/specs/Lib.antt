-- The definitions of build_tables, a line a module; what is true of them is in laws. Written by tools/modules.

-- Given: an offset, a scale and a coordinate system as flags and numbers give them.
pub mod Given
-- Options: SCOPE's numbers that bound a build, and what the options say of its tables.
pub mod Options
-- State: the state of a build: a value of its options, its number of points, and where each table starts and how long it is.
pub mod State
-- Sound: a sound state: what is asked of a state before a question goes by it, over columns of `cap` entries; any other is refused 11.
pub mod Sound
-- Entries: an entry of a table, and a table as a value: the list of its entries.
pub mod Entries
-- Rows: the table that the lent columns hold.
pub mod Rows
-- Room: the nine columns of tables and their indexes, and for how many entries all of them have room.
pub mod Room
-- Lent: the lent columns of a table in a contract, each named once.
pub mod Lent
-- Columns: a part of a column, and the table of a zoom among the rows.
pub mod Columns
-- Ids: the id of a cluster, origin * 32 + (zoom + 1) + N, and what is read from it: the origin and the table that it was made at.
pub mod Ids
-- Radius: the radius of a zoom, in the tables' units.
pub mod Radius
-- What is true of these: laws, and what contracts below the surface of build_tables cite beside them.
pub mod laws
