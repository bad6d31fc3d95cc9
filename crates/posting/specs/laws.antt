-- What is true of the definitions of posting, a line a module. Written by tools/modules.

-- Mends: mending one table after the other: the tables stand behind each other, so that mending one leaves what the next ones need.
pub mod Mends
-- Ends: what `posted` comes to, case by case, in the order of its refusals.
pub mod Ends
-- Replies: any two replies that meet the contract of a public function of this crate are equal, and so is what it leaves.
pub mod Replies
