-- What is true of the definitions of ask_owner, a line a module. Written by tools/modules.

-- Replies: any two replies that meet the contract of a public function of this crate are equal.
pub mod Replies
-- Reach: a column that reaches over the tables of a sound state: the spot of each lamp in each of them lies within it.
pub mod Reach
