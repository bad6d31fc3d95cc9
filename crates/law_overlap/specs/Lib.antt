-- What law_overlap says and proves, a line a module. Written by tools/modules.

-- BoxesInsideBoxes: #111, boxes inside boxes: what `list_box` answers for the common part of two boxes, for one that is empty, for the same
-- box twice, and for three boxes cut in any order.
pub mod BoxesInsideBoxes
-- Common: the common part of two boxes: a point passes its test, with the corners normalised, just where it passes the tests of both; and
-- no point passes the test of a box that is empty after normalising.
pub mod Common
-- Cut: boxes inside boxes, for any order in which the places of a table are visited: where every box is answered with those places of one
-- list that pass its test, in the list's order, all of #111 holds (`overlaps`).
pub mod Cut
-- Proved: #111 holds of every Cartesian build that `load` accepts: `boxes-inside-boxes`.
pub mod Proved
