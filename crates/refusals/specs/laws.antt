-- What is true of the definitions of refusals, a line a module. Written by tools/modules.

-- Replies: any two replies that meet the contract of a public function of this crate are equal.
pub mod Replies
