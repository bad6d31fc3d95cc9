-- What law_worked says and proves, a line a module. Written by tools/modules.

-- Tables: SCOPE's worked build, computed from the definitions: the real index, the real search and the real distance test give the tables
-- that SCOPE prints, at its node size and at node size 1, where the index is split; and columns one entry too short are refused 4.
pub mod Tables
-- Build: SCOPE's worked build as `load` leaves it: in columns of 12 entries or more, whatever they held, the build is accepted, and this is
-- its state and what stands in the columns of entries and of the index.
pub mod Build
-- Walks: SCOPE's P lines on children, leaves, expansion zoom and refusals, over the state and the columns of the worked build (Build),
-- computed from the definitions.
pub mod Walks
-- Tiles: SCOPE's P line on a tile, over the state and the columns of the worked build (Build), computed from the definitions; what the tile
-- leaves in output columns, and its tally.
pub mod Tiles
-- Lamps: each lamp's owner in each of the three tables of SCOPE's worked build, and the lamps of each entry, computed from the definitions.
pub mod Lamps
-- Printed: SCOPE's example of the table lister, computed: the text that it gives is the writing of the example, and what is printed for it
-- is its seven lines.
pub mod Printed
-- Worked: SCOPE's lines marked P as one proved table, in SCOPE's order and words, before them the lines that the table lister prints.
pub mod Worked
-- Further: SCOPE's lines that are not marked P, computed from the definitions too: the largest max_zoom, options that are refused, a lone
-- lamp at (1, 0.5), which tile (0,0,0) lists twice and counts once, and lists once with the strips for longitude only (#114); the four
-- lamps with min_points 3, and both edge strips at z = 0.
pub mod Further
-- Kept: SCOPE's row of the owners: in the column that the worked build fills, the lamps own themselves in table 2, the first two and the
-- last two share one in table 1, and all four in table 0.
pub mod Kept
