-- What is true of the definitions of ask_tile_table, a line a module. Written by tools/modules.

-- Framed: a tile's searches give each entry in [0,1] a place that `round_away` takes: the scale is a power of the table, the extent is
-- within SCOPE's bounds, and x and y are from -1 to 2 ^ 31.
pub mod Framed
-- Finite: every number of a tile's ranges is finite, for options within SCOPE's bounds: p = radius / extent is from 0 to 2 ^ 16, and what
-- is divided by 2 ^ z is from -2 ^ 16 to 2 ^ 32.
pub mod Finite
-- Runs: what listing leaves: the reply beside the three columns, an item at a time.
pub mod Runs
-- Turns: one turn of a walk over what a search finds: the end, an entry that cannot be listed, or one more item.
pub mod Turns
-- Asked: a tile that is asked for of a table: the table, what the walk of a search goes over there, and what the tile finds.
pub mod Asked
-- Three: a tile's three searches, one after the other, are what the tile finds: each walk goes over its whole answer, and what one leaves
-- the next goes on from.
pub mod Three
-- Inside: a point that lies in a tile passes the tile's own range, whatever the margin: x / z2 <= cx <= (x + 1) / z2, and the same on y.
pub mod Inside
-- Lists: a tile over a built index: everything that it finds can be listed, and each entry that lies in the tile is listed.
pub mod Lists
-- Marks: marks of places, a bit each, eight to a byte: a place that is marked is marked, and every other is as before.
pub mod Marks
-- Floor: the test that the code runs for the tile of a coordinate: x / 2^z <= c, and c < (x + 1) / 2^z but in the last tile.
pub mod Floor
-- Distinct: of the places that a tally is over: a place of the list is among them, and none twice.
pub mod Distinct
-- Counting: the tally as the code takes it, with a mark for what is counted.
pub mod Counting
-- Told: what is counted with marks is the tally: where each place has a mark of its own always, and where marks are few unless it ended
-- unsure.
pub mod Told
-- Home: where a tile holds an entry's centre, as the code tests it: by the four edges of the tile.
pub mod Home
-- Added: the tally of a tile that is asked for of a table: the three searches, one after the other, tallied by the edges of the tile, are
-- the tally of what the tile finds.
pub mod Added
-- Replies: any two values that meet the contract of `tally_value`, which is public, are equal.
pub mod Replies
-- Wraps: when strips run: always where the option is off, and for longitude either way; on a plan with the option on never.
pub mod Wraps
