-- What is true of the definitions of kdwalk, a line a module. Written by tools/modules.

-- Cursor: the first of an answer, of two answers joined; and up to where the slots after one are answered one by one.
pub mod Cursor
-- Walk: a walk over the answers by the cursor: where an answer has a slot, `rest` is what follows it; and what a caller's loop goes by,
-- which is what is ahead of the cursor.
pub mod Walk
-- Replies: any two replies that meet the contract of a public function of this crate are equal.
pub mod Replies
