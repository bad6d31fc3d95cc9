-- The definitions of lister_text, a line a module; what is true of them is in laws. Written by tools/modules.

-- Bytes: a text in quotes as its bytes.
pub mod Bytes
-- Digits: numbers as decimal digits, with no zero in front.
pub mod Digits
-- Values: what the numbers of a text stand for: a coordinate, and the options of a build.
pub mod Values
-- Text: SCOPE's text of the table lister, with the line of each point's energy: the writing of an input, key=value line by line, and what
-- it is to read a text.
pub mod Text
-- Lent: the columns that points are read into, in a contract.
pub mod Lent
-- What is true of these: laws, and what contracts below the surface of lister_text cite beside them.
pub mod laws
