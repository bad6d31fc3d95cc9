-- What kdpages says and proves, a line a module. Written by tools/modules.

-- Pages: a walk that is read a page at a time: what is ahead of a reader, for every content of the page, and the laws that a caller's loop
-- goes by.
pub mod Pages
-- Replies: any two replies that meet the contract of `begin` are equal; of `next_slot`, any two steps, and what is ahead of the reader
-- after each.
pub mod Replies
