-- The definitions of lister_report, a line a module; what is true of them is in laws. Written by tools/modules.

-- Hex: numbers as hexadecimal digits of a given length.
pub mod Hex
-- Lines: the lines that the lister prints, as text: that of an entry, those of a table, those of every table, and that of a refusal.
pub mod Lines
-- Report: what the table lister prints for a text, by SCOPE's 'The table lister' and the energies: the refusal 12, where the text is not of
-- its form; or the refusal of the build; or every line of every table, the finest table first.
pub mod Report
-- What is true of these: laws, and what contracts below the surface of lister_report cite beside them.
pub mod laws
