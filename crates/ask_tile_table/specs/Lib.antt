-- The definitions of ask_tile_table, a line a module; what is true of them is in laws. Written by tools/modules.

-- Tile: a tile (z, x, y), by SCOPE's 'Tile and tally': its three searches, what they find in a table with its index, and the item of each
-- entry that is listed.
pub mod Tile
-- Floor: the tile of a zoom that holds a coordinate, along one axis: floor of c * 2^z on the exact value of c, 1.0 belonging to the last
-- tile.
pub mod Floor
-- Tally: the tally of a tile: what its answer carries, and the sum over the distinct entries listed of what each weighs there: its num
-- where the tile holds its centre, otherwise nothing.
pub mod Tally
-- What is true of these: laws, and what contracts below the surface of ask_tile_table cite beside them.
pub mod laws
