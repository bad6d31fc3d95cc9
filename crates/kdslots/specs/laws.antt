-- What is true of the definitions of kdslots, a line a module. Written by tools/modules.

-- Bounds: what the tests of a node size, a count and an index say, as numbers, and what a test of two says of each.
pub mod Bounds
-- Intervals: what an interval answers, by its first slot or its median, and how many slots that are.
pub mod Intervals
-- All: a property of each element of a list: what it says of the element at a place, and of lists that are joined or stored in.
pub mod All
-- Members: members of a list of numbers, where one stands in joined lists, and lists with no number twice.
pub mod Members
-- Sound: over any index: each slot that a search answers passes the test, lies in the index, and is answered once.
pub mod Sound
-- Keep: the places of a list that pass a test: of two lists joined, by one test and then another, of none that pass; and what is in the
-- list and passes is kept.
pub mod Keep
-- Order: one order of all the slots of an index, in which every search comes to them: it has each slot, once.
pub mod Order
-- Reaches: no search skips a part that has a slot which passes, where the part is in order around its median.
pub mod Reaches
-- Complete: where no part that has a slot which passes is skipped, those that pass are answered, in the order of all slots; and what an
-- index in the order of the tree is, of which proofs/Complete says that this holds.
pub mod Complete
-- Corner: SCOPE's corner, over an index of three slots: x = 0.25 - 2 ^ -55, asked for with qx = 1 and radius 0.75.
pub mod Corner
-- Replies: any two replies that meet the contract of a public method of a query or a search are equal.
pub mod Replies
