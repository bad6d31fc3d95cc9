-- What is true of the definitions of ask_effort, a line a module. Written by tools/modules.

-- Proved: #102 holds of every state and all columns: `stated-effort`.
pub mod Proved
-- Replies: any two replies that meet the contract of `effort_box` are equal, and so are any two columns that they leave; the same of the
-- number of a reply and of what it carries, and of the methods of `EffortRefusal`.
pub mod Replies
-- Worked: a box within an effort worked from the definitions: the tests of both halves of a box that is split in one count, in the order of
-- the search; where it stops, where it has just enough, what is judged for 10, and a slot past the table that spoils it only where it is
-- come to.
pub mod Worked
