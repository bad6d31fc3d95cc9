-- What is true of the definitions of build_owners, a line a module. Written by tools/modules.

-- Climbs: what the code goes by, to fill a table's part of the owner column from that of the finer table without a search by id.
pub mod Climbs
-- Fills: columns that are written place by place: one table's owners from those of the finer table, and one table after the other until the
-- column is `owner_column`.
pub mod Fills
-- Steps: from a cluster to the entry at its origin, and so on down to the lamp that it began with: one step of the way.
pub mod Steps
-- Found: the place of an id in a table: where one place has the id, and no other place of the table has it, this is the one found.
pub mod Found
-- OwnersAre: of every accepted build: the owner that is climbed to by ids is the lamp's owner.
pub mod OwnersAre
-- Leads: of every accepted build, in rows where its tables stand: from each entry's id the lamp that the entry began with is come to, from
-- origin to origin, in at most as many steps as there are finer tables.
pub mod Leads
-- ClimbableBuilds: of every accepted build, in columns that hold it: its owner column can be filled from table to table, `climbable`, and
-- each owner that is kept so is the lamp's owner, `owner-kept`.
pub mod ClimbableBuilds
-- OneTable: from table z + 1 to table z: what `send` and `climb` are asked holds of a state that is climbable, and what they leave are the
-- owners in table z.
pub mod OneTable
-- AllTables: table after table: at the head of the loop over the zooms the owners down to table z are written, and at its end all of them.
pub mod AllTables
