-- What is true of the definitions of build_tables, a line a module. Written by tools/modules.

-- Bounds: what options within SCOPE's bounds say, as numbers.
pub mod Bounds
-- Sound: each table of a sound state stands within the columns, and its options and its count are within their bounds.
pub mod Sound
-- Rows: how a store in the lent columns is in the table that they hold: a whole entry, a mark, a parent.
pub mod Rows
-- Roomy: what the room of the nine columns says of each of them, and the fronts of columns with room.
pub mod Roomy
-- Columns: the columns of a table's rows are the columns; rows of parts are parts of the rows; and what becomes of a column whose part is
-- lent and comes back.
pub mod Columns
-- Lent: columns lent to be written, after a step and after two: the same loans, each as long as it was, so that columns as long as each
-- other stay so.
pub mod Lent
-- Ids: an id of a build is at least N, is not the unset parent, and gives its origin and its table back.
pub mod Ids
-- Radius: for the radius and the extent that a build takes the radius of a zoom is finite and not below 0.
pub mod Radius
-- Replies: any two replies that meet the contract of a public method of the options or the state, or of `new_state`, are equal.
pub mod Replies
