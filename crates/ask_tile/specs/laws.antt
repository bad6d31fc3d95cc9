-- What is true of the definitions of ask_tile, a line a module. Written by tools/modules.

-- Used: the table of the zoom used, of a sound state: it stands in the columns, and the tile that is asked of it, cut out of them, is asked
-- of that table and its index.
pub mod Used
-- Ends: how a tile ends: the three columns, lent as far as the shortest of them reaches, hold the first items afterwards, and then what
-- they held; and the answer is SCOPE's, by how far the listing came.
pub mod Ends
-- Built: a tile of a sound state: every number of its three ranges is finite, so that the walk by pages is the whole answer of `range`.
pub mod Built
-- Replies: any two outcomes that meet the contract of a public function of this crate are equal: the answer and every column.
pub mod Replies
