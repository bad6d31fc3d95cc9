-- What is true of the definitions of build_one_zoom, a line a module. Written by tools/modules.

-- Near: what a search that is not refused leaves of the neighbours in the lent column.
pub mod Near
-- Steps: one step of a scan, by cases.
pub mod Steps
-- Unseen: what is unseen in a table: how many entries, and how many lamps they count.
pub mod Unseen
-- Keeps: a property of tables that each store of a scan keeps is kept by the scan.
pub mod Keeps
-- Fewer: there is room for what a scan makes: at each step the next table grows by no more than the table's unseen entries become fewer.
pub mod Fewer
-- Turns: a turn of each loop over the neighbours: what is done with the j-th neighbour is the definition's step, so that what remains from
-- the next one on leads to the same.
pub mod Turns
-- Stored: a new entry, stored right after the next table's last: what the columns then hold is the definition's scan after an entry was
-- left, and after it was made a cluster.
pub mod Stored
-- Visit: an entry of the columns is marked and then visited: what the visit asks holds, and what it leaves is the definition's scan of the
-- entry.
pub mod Visit
-- Scanning: the loop over a table in the columns: what holds at its head, at its start, after a step and at its end, where the columns hold
-- the definition's scan.
pub mod Scanning
-- Lamps: no lamp is lost or counted twice, and no energy: at each step of a scan what is unseen and what is made add up to the same.
pub mod Lamps
-- Sound: one zoom on a table whose entries lie from 0 to 1 and count one lamp or more: so do those of the next table, which counts the same
-- lamps.
pub mod Sound
-- Notes: what is noted of an entry before a table is scanned: nothing, or the very list that `within` answers at its place, where that is
-- the entry itself or the entry and one other.
pub mod Notes
-- Searchable: an index that a zoom can be searched by: it keeps its promises, and the place of each of its slots is answered there.
pub mod Searchable
-- Bare: energies decide nothing: a zoom of a table without its energies is the zoom of the table, without them.
pub mod Bare
-- Back: the columns that a call came back with, and that each is as long as it was, as the caller's proof has them: first among what was
-- lent to it.
pub mod Back
