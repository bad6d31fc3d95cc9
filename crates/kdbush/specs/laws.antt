-- What is true of the definitions of kdbush, a line a module. Written by tools/modules.

-- Run: a search place by place, as the code makes it: its count and the lent column come to the definitions of Run.
pub mod Run
-- Built: a build that is not refused leaves an index of its points: each slot holds one point and each point has one slot, in the order of
-- the tree, and what lies past them is as it was.
pub mod Built
-- Promise: of an index built from its points, what every search answers, in places, `range` and `within` alike: exactly the points that
-- pass its test, each once, in one order of all places that no query changes (`answered-kept`).
pub mod Promise
-- Indexed: the index of points from 0 to 1 in columns that just hold it, for those who build tables of it, by kdbush's own names: a build
-- of it is not refused, what it leaves does not depend on what the columns held, and its searches keep the promises; a slot has the
-- coordinates of the point that it names; and around a point its own place is answered.
pub mod Indexed
-- Replies: any two replies that meet the contract of a public function of this crate are equal, and so are any two columns that they leave.
pub mod Replies
