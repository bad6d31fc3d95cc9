-- What law_builds says and proves, a line a module. Written by tools/modules.

-- Given: what a build is given, as one record: every law on a build takes that, and that it is within bounds.
pub mod Given
-- Came: the tables of a build by their numbers, from max_zoom + 1, the finest, down to min_zoom: table z as it came, before a zoom marked
-- it, and as the build has it.
pub mod Came
-- RightAt: what supercluster shows of each table of an accepted build, by table number: its entries lie from 0 to 1 and count one lamp or
-- more, it counts the lamps, once each, its energies add up to those given, and it has 1 to N entries.
pub mod RightAt
-- Steps: one zoom of a build.
pub mod Steps
-- GroupsOfBuild: of every build that is accepted: each zoom is one zoom of the groups.
pub mod GroupsOfBuild
-- Places: where the places of a table go in one zoom, and where those of the next table are from.
pub mod Places
-- Same: of every such build: each table is as long as it came, and each of its entries has the place, the id and the num with which it
-- came.
pub mod Same
-- Marks: of every such build: in each table but the last, each entry is marked with the zoom that clustered it, one below the table's
-- number.
pub mod Marks
-- Parents: of every such build: in each table but the last, an entry has no parent, and then the next table has it too; or its parent is a
-- cluster that the zoom made at a place of the same table, and then the next table has an entry with this id.
pub mod Parents
-- Identities: of every such build: each entry of each table is a lamp, with the id, the place and the num of its point; or a cluster of two
-- lamps or more, whose id is that of a place in a finer table, an entry of the build which is under it.
pub mod Identities
-- MadeOnce: of every such build: a cluster's id says in which table it was made.
pub mod MadeOnce
-- Born: of every such build: a cluster of any table stands in the table in which it was made, with the same place, id and num.
pub mod Born
-- Energies: energies decide nothing: with any two lists of energies, the tables of a build of the same options and points are the same but
-- for the energies.
pub mod Energies
