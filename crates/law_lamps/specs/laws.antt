-- What is true of the definitions of law_lamps, a line a module. Written by tools/modules.

-- Gather: lists put one after the other: what they add up to.
pub mod Gather
-- PlaceIn: the group that has a place: where the place is in the groups once, it is in the group at `place_in` once, and in no other.
pub mod PlaceIn
-- Owners: of every accepted build: each lamp's owner is a place of each table, and the lamp is among the lamps of this entry once, and of
-- no other.
pub mod Owners
-- Carries: of every accepted build, said once of any number that entries carry: what an entry of any table carries is the sum over its
-- lamps of what they carry in the finest table, so the sum over the lamps that it owns; and the entries of a table carry together what the
-- lamps do.
pub mod Carries
-- Climb: of every such build: a lamp's owner in table z is the entry whose id is the parent of its owner in table z + 1, or that owner's
-- own id where its parent is unset; and no other entry of table z has that id.
pub mod Climb
-- Copies: of every such build: the lamps of a lamp are itself.
pub mod Copies
