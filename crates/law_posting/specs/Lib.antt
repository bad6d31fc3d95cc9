-- What law_posting says and proves, a line a module. Written by tools/modules.

-- Bare: what the energies of tables do not change: the other columns, the indexes, where the tables stand, and each lamp's owner.
pub mod Bare
-- Figures: a sum of which one number is replaced.
pub mod Figures
-- OneFigure: two builds that differ in the energy of one lamp: both are accepted, their tables differ in the energies of that lamp's owners
-- alone, and there by what the figure changes.
pub mod OneFigure
-- PostedFresh: a posting to an accepted build (#110): it is taken, and leaves reply, state and all eleven columns as a fresh build with the
-- new figure does; and two postings to different lamps leave the same in either order.
pub mod PostedFresh
-- Tables: tables that stand behind each other in a column of energies: if each can be mended, the column can, and is then that of the
-- mended tables.
pub mod Tables
