-- What is true of the definitions of lister_report, a line a module. Written by tools/modules.

-- Hex: how hexadecimal digits grow by the last digit.
pub mod Hex
-- Put: what it is to store bytes in a buffer, and to store a text part by part.
pub mod Put
-- Parts: the lines of a table, one by one: of a table, and of a part of the rows that is one.
pub mod Parts
-- Held: what is asked to print the tables of a state, and their lines one table after the other, from the finest down.
pub mod Held
-- Built: what an accepted build leaves, in columns of the lister's lengths, is what there is to print: its tables, each within the columns,
-- with room for each line.
pub mod Built
-- Replies: any two replies that meet the contract of `report` are equal, and so is all that they leave in what was lent; and the answer
-- counts bytes of the buffer.
pub mod Replies
