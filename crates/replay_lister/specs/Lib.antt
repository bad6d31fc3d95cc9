-- What replay_lister says and proves, a line a module. Written by tools/modules.

-- Prints: what it is for a case to agree: what is expected is what SCOPE has the lister print for the text.
pub mod Prints
-- One: only one text is printed for a text, and it is what `report` leaves; so comparing bytes decides whether a case agrees.
pub mod One
