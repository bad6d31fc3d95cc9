-- What is true of the definitions of exports, a line a module. Written by tools/modules.

-- Replies: any two replies of a C name that meet its contract are equal: its number, what is carried, and all that it leaves in what was
-- lent.
pub mod Replies
